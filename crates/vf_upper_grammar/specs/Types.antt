-- The types of presentation (ISO 8823, 8.2) and ACSE (ISO 8650-1, 9), with the fields that this profile reads. Their
-- tags are those of the modules of the standards: a field without a universal tag is implicit unless it says explicit.
use Rattle.std.specs.Prelude.{ℕ, Bool, true, false, nat_eq, List, [], ◌∷◌, Option, None, Some, Err, if◌then◌else◌}
use Rattle.vf_base.specs.declared.spdu_kind.SpduKind.{SpduKind}
use Rattle.vf_base.specs.declared.spdu_kind.SpduKind.TheVariants.{CN, AC, RF, FN, DN, AB, DT, RS, RA}
use Rattle.vf_upper_grammar.specs.declared.labels.NameLabel.TheVariants.{Stated, Abstract, Transfer, Application}
use Rattle.vf_upper_grammar.specs.declared.labels.NumberLabel.{NumberLabel}
use Rattle.vf_upper_grammar.specs.declared.labels.NumberLabel.TheVariants.{Fixed, Proposal, Outcome, AcseContext, PciContext, AnyContext}
use Rattle.vf_upper_grammar.specs.Forms.{constructed, exactly, Field, Form, in_order, integer, leading, object_identifier, sequence, sequence_of, set, skipped, Tags}
use Rattle.vf_upper_grammar.specs.Marks.{Found}
use Rattle.vf_upper_grammar.specs.Parts.{Part, Parts}
use Rattle.vf_upper_grammar.specs.Syntaxes.{ber}
use Rattle.vf_upper_grammar.specs.Texts.{OctetForm, carried, carried_data, one, typed}

abbrev pub universal : ℕ → Tags
universal number = record { class = 0; from = number; to = number }

abbrev pub application : ℕ → Tags
application number = record { class = 1; from = number; to = number }

abbrev pub context : ℕ → Tags
context number = record { class = 2; from = number; to = number }

-- [0] or [1]
abbrev pub zero_or_one : Tags
zero_or_one = record { class = 2; from = 0; to = 1 }

abbrev pub required : Tags → Form → Field
required tags read = record { tags = tags; is_required = true; read = read }

abbrev pub optional : Tags → Form → Field
optional tags read = record { tags = tags; is_required = false; read = read }

-- an explicit tag, which holds one value
abbrev pub explicit : Tags → Form → Form
explicit tags read = exactly (required tags read ∷ [])

-- ---- values in contexts

-- PDV-list: a transfer syntax, a context, and what stands in [0], one value, or in [1], octets with values
abbrev pub pdv_list : NumberLabel → Form → Form
pdv_list label read = exactly (
    optional (universal 6) (object_identifier None Stated) ∷
    required (universal 2) (integer None label) ∷
    required zero_or_one read ∷ [])

-- user data: fully encoded, any number of PDV-lists
abbrev pub all_data : Form
all_data = sequence_of (universal 16) (pdv_list AnyContext carried_data)

-- the same with one PDV-list and one value
abbrev pub one_data : NumberLabel → OctetForm → Form
one_data label form = exactly (required (universal 16) (pdv_list label (carried form)) ∷ [])

-- EXTERNAL: a value by the context that it stands in
abbrev pub external : NumberLabel → Form
external label = exactly (
    required (universal 2) (integer None label) ∷
    required zero_or_one (carried one) ∷ [])

-- user information: one EXTERNAL, the PDU
abbrev pub user_information : NumberLabel → Form
user_information label = exactly (required (universal 8) (external label) ∷ [])

-- ---- ACSE

abbrev pub application_context_name : Form
application_context_name = explicit (universal 6) (object_identifier None Application)

abbrev pub fixed : ℕ → Form
fixed number = integer (Some number) Fixed

abbrev pub aarq : Form
aarq = sequence (
    required (context 1) application_context_name ∷
    required (context 30) (user_information PciContext) ∷ [])

-- the result: accepted 0, rejected 1; the source of its diagnostic: the ACSE user, with no reason
abbrev pub aare : ℕ → Form
aare result = sequence (
    required (context 1) application_context_name ∷
    required (context 2) (explicit (universal 2) (fixed result)) ∷
    required (context 3) (explicit (context 1) (explicit (universal 2) (fixed 0))) ∷
    required (context 30) (user_information PciContext) ∷ [])

-- RLRQ and RLRE
abbrev pub release : Form
release = sequence (required (context 30) (user_information AnyContext) ∷ [])

-- the source: the ACSE user
abbrev pub abrt : Form
abrt = sequence (
    required (context 0) (fixed 0) ∷
    required (context 30) (user_information AnyContext) ∷ [])

-- user data with an ACSE value
abbrev pub acse_data : Tags → Form → Form
acse_data tags read = one_data AcseContext (typed tags read)

-- ---- presentation

-- normal mode
abbrev pub mode_selector : Form
mode_selector = sequence (required (context 0) (fixed 1) ∷ [])

abbrev pub transfer_syntaxes : Form
transfer_syntaxes = sequence_of (universal 6) (object_identifier None Transfer)

-- an entry of the context definition list
abbrev pub proposal : Form
proposal = exactly (
    required (universal 2) (integer None Proposal) ∷
    required (universal 6) (object_identifier None Abstract) ∷
    required (universal 16) transfer_syntaxes ∷ [])

abbrev pub refused_outcome : List Field
refused_outcome = required (context 0) (integer (Some 2) Outcome) ∷ []

abbrev pub accepted_outcome : List Field
accepted_outcome =
    required (context 0) (integer (Some 0) Outcome) ∷
    required (context 1) (object_identifier (Some ber) Stated) ∷ []

-- its contents are the octet of the number 2
abbrev pub is_two : List ℕ → Bool
is_two [] = false
is_two (octet ∷ []) = nat_eq octet 2
is_two (octet ∷ other ∷ octets) = false

-- a primitive [0], whose first octet is 128, with the number 2
abbrev pub refuses : Option Part → Bool
refuses None = false
refuses (Some part) = if nat_eq part.first 128 then is_two part.contents.octets else false

-- An entry of the result list: an acceptance with the transfer syntax, or a rejection by the provider, after which a
-- transfer syntax is skipped. The result stands before the transfer syntax.
abbrev pub outcome_fields : Parts → List Field
outcome_fields parts = if refuses (leading accepted_outcome parts) then refused_outcome else accepted_outcome

abbrev pub outcome : Form
outcome = constructed (λ parts. in_order parts true (outcome_fields parts) (outcome_fields parts))

abbrev pub cp_parameters : Form
cp_parameters = sequence (
    required (context 4) (sequence_of (universal 16) proposal) ∷
    required (application 1) (acse_data (application 0) aarq) ∷ [])

abbrev pub cp : Form
cp = set (required (context 0) mode_selector) (required (context 2) cp_parameters)

-- the fields of a CPR, and of the parameters of a CPA
abbrev pub response : ℕ → List Field
response result =
    required (context 5) (sequence_of (universal 16) outcome) ∷
    required (application 1) (acse_data (application 1) (aare result)) ∷ []

abbrev pub cpa : Form
cpa = set (required (context 0) mode_selector) (required (context 2) (sequence (response 0)))

abbrev pub cpr : Form
cpr = sequence (response 1)

abbrev pub aru : Form
aru = sequence (required (application 1) (acse_data (application 4) abrt) ∷ [])

-- RS and RSA: a list of contexts that nobody uses here, and one PDU
abbrev pub resynchronization : Form
resynchronization = sequence (
    optional (context 0) skipped ∷
    required (application 1) (one_data AnyContext one) ∷ [])

-- ---- what the user data of each SPDU is

abbrev pub user_data_of : SpduKind → Option OctetForm
user_data_of CN = Some (typed (universal 17) cp)
user_data_of AC = Some (typed (universal 17) cpa)
user_data_of RF = Some (typed (universal 16) cpr)
user_data_of FN = Some (typed (application 1) (acse_data (application 2) release))
user_data_of DN = Some (typed (application 1) (acse_data (application 3) release))
user_data_of AB = Some (typed (context 0) aru)
user_data_of DT = Some (typed (application 1) all_data)
user_data_of RS = Some (typed (universal 16) resynchronization)
user_data_of RA = Some (typed (universal 16) resynchronization)
user_data_of kind = None

-- all that is found in user data; an SPDU that has none is a fault
abbrev pub found_in : Option OctetForm → List ℕ → Found
found_in None octets = Err 0
found_in (Some form) octets = form octets []
