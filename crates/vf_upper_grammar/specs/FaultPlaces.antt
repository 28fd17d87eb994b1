-- Where user data have faults by the types of presentation (ISO 8823, 8.2) and ACSE (ISO 8650-1, 9): all the places, of
-- which the least is told.
use Rattle.std.specs.Prelude.{◌≡◌, ◌≤◌, ℕ, true, false, List, [], ◌∷◌, All, Contains, MatchOption, Option, None, Some, Ok, Err, if◌then◌else◌}
use Rattle.vf_base.specs.declared.spdu_kind.SpduKind.{SpduKind}
use Rattle.vf_base.specs.declared.spdu_kind.SpduKind.TheVariants.{CN, AC, RF, FN, DN, AB, DT, RS, RA}
use Rattle.vf_upper_grammar.specs.Faults.{carried, carried_data, constructed, exactly, Faults, Field, fields_among, integer, known, object_identifier, OctetFaults, one, Places, sequence, sequence_of, set, skipped, typed}
use Rattle.vf_upper_grammar.specs.Forms.{Tags}
use Rattle.vf_upper_grammar.specs.Marks.{Found}
use Rattle.vf_upper_grammar.specs.Modules.{meaning_of, meant}
use Rattle.vf_upper_grammar.specs.Parts.{ends, next, Part, Parts}
use Rattle.vf_upper_grammar.specs.Syntaxes.{ber}
use Rattle.vf_upper_grammar.specs.Types as types
use Rattle.vf_upper_grammar.specs.Types.{application, context, found_in, universal, user_data_of, zero_or_one}

abbrev pub required : Tags → Faults → Field
required tags faults = record { tags = tags; is_required = true; faults = faults }

abbrev pub optional : Tags → Faults → Field
optional tags faults = record { tags = tags; is_required = false; faults = faults }

-- an explicit tag, which holds one value
abbrev pub explicit : Tags → Faults → Faults
explicit tags faults = exactly (required tags faults ∷ [])

-- ---- values in contexts

-- PDV-list: a transfer syntax, a context, and values in [0] or [1]
abbrev pub pdv_list : Faults → Faults
pdv_list faults = exactly (
    optional (universal 6) (object_identifier None) ∷
    required (universal 2) (integer None) ∷
    required zero_or_one faults ∷ [])

-- fully encoded user data: any number of PDV-lists
abbrev pub all_data : Faults
all_data = sequence_of (universal 16) (pdv_list carried_data)

-- the same with one PDV-list and one value
abbrev pub one_data : OctetFaults → Faults
one_data faults = exactly (required (universal 16) (pdv_list (carried faults)) ∷ [])

-- EXTERNAL: a value by the context that it stands in
abbrev pub external : Faults
external = exactly (
    required (universal 2) (integer None) ∷
    required zero_or_one (carried one) ∷ [])

-- user information: one EXTERNAL, the PDU
abbrev pub user_information : Faults
user_information = exactly (required (universal 8) external ∷ [])

-- ---- ACSE

abbrev pub application_context_name : Faults
application_context_name = explicit (universal 6) (object_identifier None)

abbrev pub fixed : ℕ → Faults
fixed number = integer (Some number)

abbrev pub aarq : Faults
aarq = sequence (
    required (context 1) application_context_name ∷
    required (context 30) user_information ∷ [])

-- the result: accepted 0, rejected 1; the source of its diagnostic: the ACSE user, with no reason
abbrev pub aare : ℕ → Faults
aare result = sequence (
    required (context 1) application_context_name ∷
    required (context 2) (explicit (universal 2) (fixed result)) ∷
    required (context 3) (explicit (context 1) (explicit (universal 2) (fixed 0))) ∷
    required (context 30) user_information ∷ [])

-- RLRQ and RLRE
abbrev pub release : Faults
release = sequence (required (context 30) user_information ∷ [])

-- the source: the ACSE user
abbrev pub abrt : Faults
abrt = sequence (
    required (context 0) (fixed 0) ∷
    required (context 30) user_information ∷ [])

-- user data with an ACSE value
abbrev pub acse_data : Tags → Faults → Faults
acse_data tags faults = one_data (typed tags faults)

-- ---- presentation

-- normal mode
abbrev pub mode_selector : Faults
mode_selector = sequence (required (context 0) (fixed 1) ∷ [])

abbrev pub transfer_syntaxes : Faults
transfer_syntaxes = sequence_of (universal 6) (object_identifier None)

-- an entry of the context definition list
abbrev pub proposal : Faults
proposal = exactly (
    required (universal 2) (integer None) ∷
    required (universal 6) (object_identifier None) ∷
    required (universal 16) transfer_syntaxes ∷ [])

abbrev pub refused_outcome : List Field
refused_outcome = required (context 0) (fixed 2) ∷ []

abbrev pub accepted_outcome : List Field
accepted_outcome =
    required (context 0) (fixed 0) ∷
    required (context 1) (object_identifier (Some ber)) ∷ []

abbrev pub first_of : Parts → Option Part
first_of (ends place) = None
first_of (next part parts) = Some part

-- an entry of the result list is a rejection where the first of these parts is a primitive [0] with the number 2
abbrev pub outcome_fields : Parts → List Field
outcome_fields parts = if types.refuses (first_of (known accepted_outcome parts)) then refused_outcome else accepted_outcome

-- An entry of the result list: an acceptance with the transfer syntax, or a rejection by the provider, after which a
-- transfer syntax is skipped. The result stands before the transfer syntax.
abbrev pub outcome : Faults
outcome = constructed (λ parts. fields_among (outcome_fields parts) parts)

abbrev pub cp_parameters : Faults
cp_parameters = sequence (
    required (context 4) (sequence_of (universal 16) proposal) ∷
    required (application 1) (acse_data (application 0) aarq) ∷ [])

abbrev pub cp : Faults
cp = set (required (context 0) mode_selector) (required (context 2) cp_parameters)

-- the fields of a CPR, and of the parameters of a CPA
abbrev pub response : ℕ → List Field
response result =
    required (context 5) (sequence_of (universal 16) outcome) ∷
    required (application 1) (acse_data (application 1) (aare result)) ∷ []

abbrev pub cpa : Faults
cpa = set (required (context 0) mode_selector) (required (context 2) (sequence (response 0)))

abbrev pub cpr : Faults
cpr = sequence (response 1)

abbrev pub aru : Faults
aru = sequence (required (application 1) (acse_data (application 4) abrt) ∷ [])

-- RS and RSA: a list of contexts that nobody uses here, and one PDU
abbrev pub resynchronization : Faults
resynchronization = sequence (
    optional (context 0) skipped ∷
    required (application 1) (one_data one) ∷ [])

-- ---- user data

-- All the places at which the user data of an SPDU have a fault. No SPDU of another kind has user data.
abbrev pub fault_places : SpduKind → OctetFaults
fault_places CN octets = typed (universal 17) cp octets
fault_places AC octets = typed (universal 17) cpa octets
fault_places RF octets = typed (universal 16) cpr octets
fault_places FN octets = typed (application 1) (acse_data (application 2) release) octets
fault_places DN octets = typed (application 1) (acse_data (application 3) release) octets
fault_places AB octets = typed (context 0) aru octets
fault_places DT octets = typed (application 1) all_data octets
fault_places RS octets = typed (universal 16) resynchronization octets
fault_places RA octets = typed (universal 16) resynchronization octets
fault_places kind octets = 0 ∷ []

-- ---- the laws

-- one of the places, and none is less
abbrev pub IsLeast : Places → ℕ → Type 0
IsLeast places at = Contains places at × All (λ place. at ≤ place) places

-- all that is found, where there is no fault, or the least place of one
abbrev pub Tells : Found → Places → Type 0
Tells (Ok marks) places = places ≡ []
Tells (Err at) places = IsLeast places at

-- Of user data the least place of a fault is told, where there is one.
abbrev pub LeastIsTold : Type 0
LeastIsTold = (carrier : SpduKind) (octets : List ℕ) → Tells (found_in (user_data_of carrier) octets) (fault_places carrier octets)

-- User data have a fault exactly where they aren't one value of the type of their SPDU by the modules of both standards.
abbrev pub OthersHaveFaults : Type 0
OthersHaveFaults = (carrier : SpduKind) (octets : List ℕ) →
    MatchOption (meant (meaning_of carrier) octets) ((at : ℕ) × Contains (fault_places carrier octets) at) (λ marks. fault_places carrier octets ≡ [])
