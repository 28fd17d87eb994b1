-- The values of presentation (ISO 8823, 8.2) and ACSE (ISO 8650-1, 9) and what they mean, in the words of the modules
-- of both standards, with the fields that this profile reads.
use Rattle.std.specs.Prelude.{ℕ, Bool, true, false, nat_eq, List, [], ◌∷◌, Option, None, Some, if◌then◌else◌, length}
use Rattle.vf_base.specs.declared.spdu_kind.SpduKind.{SpduKind}
use Rattle.vf_base.specs.declared.spdu_kind.SpduKind.TheVariants.{CN, AC, RF, FN, DN, AB, DT, RS, RA}
use Rattle.vf_ber.specs.Reader.{reading}
use Rattle.vf_ber.specs.Reading.{Reading, Read}
use Rattle.vf_ber.specs.Tree.{Tree, plain, built}
use Rattle.vf_upper_grammar.specs.declared.labels.NameLabel.TheVariants.{Stated, Abstract, Transfer, Application}
use Rattle.vf_upper_grammar.specs.declared.labels.NumberLabel.{NumberLabel}
use Rattle.vf_upper_grammar.specs.declared.labels.NumberLabel.TheVariants.{Fixed, Proposal, Outcome, AcseContext, PciContext, AnyContext}
use Rattle.vf_upper_grammar.specs.Forms.{Tags}
use Rattle.vf_upper_grammar.specs.Marks.{Mark}
use Rattle.vf_upper_grammar.specs.Meanings.{any, carried, carried_data, constructed, exactly, Field, fields_among, integer, is_tagged, known, Meaning, object_identifier, sequence, sequence_of, set, skipped, tagged}
use Rattle.vf_upper_grammar.specs.Syntaxes.{ber}
use Rattle.vf_upper_grammar.specs.Types.{application, context, is_two, universal, zero_or_one}

abbrev pub required : Tags → Meaning → Field
required tags meaning = record { tags = tags; is_required = true; meaning = meaning }

abbrev pub optional : Tags → Meaning → Field
optional tags meaning = record { tags = tags; is_required = false; meaning = meaning }

-- an explicit tag, which holds one value
abbrev pub explicit : Tags → Meaning → Meaning
explicit tags meaning = exactly (required tags meaning ∷ [])

-- ---- values in contexts

-- PDV-list: a transfer syntax, a context, and values in [0] or [1]
abbrev pub pdv_list : NumberLabel → Meaning → Meaning
pdv_list label meaning = exactly (
    optional (universal 6) (object_identifier None Stated) ∷
    required (universal 2) (integer None label) ∷
    required zero_or_one meaning ∷ [])

-- fully encoded user data: any number of PDV-lists
abbrev pub all_data : Meaning
all_data = sequence_of (universal 16) (pdv_list AnyContext carried_data)

-- the same with one PDV-list and one value
abbrev pub one_data : NumberLabel → Meaning → Meaning
one_data label meaning = exactly (required (universal 16) (pdv_list label (carried meaning)) ∷ [])

-- EXTERNAL: a value by the context that it stands in
abbrev pub external : NumberLabel → Meaning
external label = exactly (
    required (universal 2) (integer None label) ∷
    required zero_or_one (carried any) ∷ [])

-- user information: one EXTERNAL, the PDU
abbrev pub user_information : NumberLabel → Meaning
user_information label = exactly (required (universal 8) (external label) ∷ [])

-- ---- ACSE

abbrev pub application_context_name : Meaning
application_context_name = explicit (universal 6) (object_identifier None Application)

abbrev pub fixed : ℕ → Meaning
fixed number = integer (Some number) Fixed

abbrev pub aarq : Meaning
aarq = sequence (
    required (context 1) application_context_name ∷
    required (context 30) (user_information PciContext) ∷ [])

-- the result: accepted 0, rejected 1; the source of its diagnostic: the ACSE user, with no reason
abbrev pub aare : ℕ → Meaning
aare result = sequence (
    required (context 1) application_context_name ∷
    required (context 2) (explicit (universal 2) (fixed result)) ∷
    required (context 3) (explicit (context 1) (explicit (universal 2) (fixed 0))) ∷
    required (context 30) (user_information PciContext) ∷ [])

-- RLRQ and RLRE
abbrev pub release : Meaning
release = sequence (required (context 30) (user_information AnyContext) ∷ [])

-- the source: the ACSE user
abbrev pub abrt : Meaning
abrt = sequence (
    required (context 0) (fixed 0) ∷
    required (context 30) (user_information AnyContext) ∷ [])

-- user data with an ACSE value
abbrev pub acse_data : Tags → Meaning → Meaning
acse_data tags meaning = one_data AcseContext (tagged tags meaning)

-- ---- presentation

-- normal mode
abbrev pub mode_selector : Meaning
mode_selector = sequence (required (context 0) (fixed 1) ∷ [])

abbrev pub transfer_syntaxes : Meaning
transfer_syntaxes = sequence_of (universal 6) (object_identifier None Transfer)

-- an entry of the context definition list
abbrev pub proposal : Meaning
proposal = exactly (
    required (universal 2) (integer None Proposal) ∷
    required (universal 6) (object_identifier None Abstract) ∷
    required (universal 16) transfer_syntaxes ∷ [])

abbrev pub refused_outcome : List Field
refused_outcome = required (context 0) (integer (Some 2) Outcome) ∷ []

abbrev pub accepted_outcome : List Field
accepted_outcome =
    required (context 0) (integer (Some 0) Outcome) ∷
    required (context 1) (object_identifier (Some ber) Stated) ∷ []

-- the first of these values is a primitive [0] with the number 2
abbrev pub refuses : List Tree → Bool
refuses [] = false
refuses (plain tag octets ∷ trees) = if is_tagged (context 0) (plain tag octets) then is_two octets else false
refuses (built tag parts ∷ trees) = false

-- An entry of the result list: an acceptance with the transfer syntax, or a rejection by the provider, after which a
-- transfer syntax is skipped. The result stands before the transfer syntax.
abbrev pub outcome : Meaning
outcome = constructed (λ trees. if refuses (known accepted_outcome trees) then fields_among refused_outcome trees else fields_among accepted_outcome trees)

abbrev pub cp_parameters : Meaning
cp_parameters = sequence (
    required (context 4) (sequence_of (universal 16) proposal) ∷
    required (application 1) (acse_data (application 0) aarq) ∷ [])

abbrev pub cp : Meaning
cp = set (required (context 0) mode_selector) (required (context 2) cp_parameters)

-- the fields of a CPR, and of the parameters of a CPA
abbrev pub response : ℕ → List Field
response result =
    required (context 5) (sequence_of (universal 16) outcome) ∷
    required (application 1) (acse_data (application 1) (aare result)) ∷ []

abbrev pub cpa : Meaning
cpa = set (required (context 0) mode_selector) (required (context 2) (sequence (response 0)))

abbrev pub cpr : Meaning
cpr = sequence (response 1)

abbrev pub aru : Meaning
aru = sequence (required (application 1) (acse_data (application 4) abrt) ∷ [])

-- RS and RSA: a list of contexts that nobody uses here, and one PDU
abbrev pub resynchronization : Meaning
resynchronization = sequence (
    optional (context 0) skipped ∷
    required (application 1) (one_data AnyContext any) ∷ [])

-- ---- what the user data of each SPDU mean

-- no SPDU of another kind has user data
abbrev pub none : Meaning
none tree = None

abbrev pub meaning_of : SpduKind → Meaning
meaning_of CN = tagged (universal 17) cp
meaning_of AC = tagged (universal 17) cpa
meaning_of RF = tagged (universal 16) cpr
meaning_of FN = tagged (application 1) (acse_data (application 2) release)
meaning_of DN = tagged (application 1) (acse_data (application 3) release)
meaning_of AB = tagged (context 0) aru
meaning_of DT = tagged (application 1) all_data
meaning_of RS = tagged (universal 16) resynchronization
meaning_of RA = tagged (universal 16) resynchronization
meaning_of kind = none

-- octets that are one value mean what it means
abbrev pub meant_by : Meaning → ℕ → Reading → Option (List Mark)
meant_by meaning len (Read tree n) = if nat_eq n len then meaning tree else None
meant_by meaning len other = None

abbrev pub meant : Meaning → List ℕ → Option (List Mark)
meant meaning octets = meant_by meaning (length octets) (reading octets)
