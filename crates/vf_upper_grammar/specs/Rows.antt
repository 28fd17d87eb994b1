-- The names that the code has for types, and the types that they name.
use Rattle.std.specs.Prelude.{◌≡◌, ℕ, Bool, true, false, ◌&&◌, nat_eq, nat_lt, List, [], ◌∷◌, Option, None, Some, if◌then◌else◌}
use Rattle.vf_base.specs.declared.spdu_kind.SpduKind.{SpduKind}
use Rattle.vf_base.specs.declared.spdu_kind.SpduKind.TheVariants.{CN, AC, RF, FN, DN}
use Rattle.vf_upper_grammar.specs.declared.form.TypeName.{TypeName}
use Rattle.vf_upper_grammar.specs.declared.form.TypeName.TheVariants as types
use Rattle.vf_upper_grammar.specs.declared.form.Pair.{Pair}
use Rattle.vf_upper_grammar.specs.declared.form.Pair.TheVariants as pairs
use Rattle.vf_upper_grammar.specs.declared.form.Listing.{Listing}
use Rattle.vf_upper_grammar.specs.declared.form.Listing.TheVariants as listings
use Rattle.vf_upper_grammar.specs.declared.form.DataValues.{DataValues}
use Rattle.vf_upper_grammar.specs.declared.form.DataValues.TheVariants as data_values
use Rattle.vf_upper_grammar.specs.declared.form.Form.{Form}
use Rattle.vf_upper_grammar.specs.declared.form.Form.TheVariants as forms
use Rattle.vf_upper_grammar.specs.declared.form.Field.{Field}
use Rattle.vf_upper_grammar.specs.declared.labels.NameLabel.TheVariants.{Stated}
use Rattle.vf_upper_grammar.specs.declared.labels.NumberLabel.{NumberLabel}
use Rattle.vf_upper_grammar.specs.declared.labels.NumberLabel.TheVariants.{AcseContext, PciContext, AnyContext}
use Rattle.vf_upper_grammar.specs.Forms as grammar
use Rattle.vf_upper_grammar.specs.Syntaxes.{ber}
use Rattle.vf_upper_grammar.specs.Texts.{carried, carried_data, one, some, typed}
use Rattle.vf_upper_grammar.specs.Texts as texts
use Rattle.vf_upper_grammar.specs.Types.{aare, aarq, abrt, acse_data, all_data, application, application_context_name, user_data_of, context, explicit, external, fixed, mode_selector, one_data, outcome, pdv_list, proposal, release, required, resynchronization, transfer_syntaxes, universal, user_information}

-- ---- what the SPDU decides

abbrev pub label_in : SpduKind → NumberLabel
label_in CN = PciContext
label_in AC = PciContext
label_in RF = PciContext
label_in kind = AnyContext

abbrev pub result_in : SpduKind → ℕ
result_in AC = 0
result_in kind = 1

abbrev pub apdu_tags : SpduKind → grammar.Tags
apdu_tags CN = application 0
apdu_tags AC = application 1
apdu_tags RF = application 1
apdu_tags FN = application 2
apdu_tags DN = application 3
apdu_tags kind = application 4

abbrev pub apdu_type : SpduKind → TypeName
apdu_type CN = types.Aarq
apdu_type AC = types.Aare
apdu_type RF = types.Aare
apdu_type FN = types.Release
apdu_type DN = types.Release
apdu_type kind = types.Abrt

abbrev pub apdu_in : SpduKind → grammar.Form
apdu_in CN = aarq
apdu_in AC = aare 0
apdu_in RF = aare 1
apdu_in FN = release
apdu_in DN = release
apdu_in kind = abrt

-- ---- names and types

abbrev pub type_of : SpduKind → TypeName → grammar.Form
type_of kind types.Mode = mode_selector
type_of kind types.Parameters = grammar.sequence (
    required (context 4) (grammar.sequence_of (universal 16) proposal) ∷
    required (application 1) (acse_data (apdu_tags kind) (apdu_in kind)) ∷ [])
type_of kind types.Response = grammar.sequence (
    required (context 5) (grammar.sequence_of (universal 16) outcome) ∷
    required (application 1) (acse_data (apdu_tags kind) (apdu_in kind)) ∷ [])
type_of kind types.Proposal = proposal
type_of kind types.UserAbort = grammar.sequence (required (application 1) (acse_data (apdu_tags kind) (apdu_in kind)) ∷ [])
type_of kind types.Resynchronization = resynchronization
type_of kind types.AcseData = acse_data (apdu_tags kind) (apdu_in kind)
type_of kind types.AcseList = pdv_list AcseContext (carried (typed (apdu_tags kind) (apdu_in kind)))
type_of kind types.OneData = one_data AnyContext one
type_of kind types.OneList = pdv_list AnyContext (carried one)
type_of kind types.DataList = pdv_list AnyContext carried_data
type_of kind types.Aarq = grammar.sequence (
    required (context 1) application_context_name ∷
    required (context 30) (user_information (label_in kind)) ∷ [])
type_of kind types.Aare = grammar.sequence (
    required (context 1) application_context_name ∷
    required (context 2) (explicit (universal 2) (fixed (result_in kind))) ∷
    required (context 3) (explicit (context 1) (explicit (universal 2) (fixed 0))) ∷
    required (context 30) (user_information (label_in kind)) ∷ [])
type_of kind types.Release = grammar.sequence (required (context 30) (user_information (label_in kind)) ∷ [])
type_of kind types.Abrt = grammar.sequence (
    required (context 0) (fixed 0) ∷
    required (context 30) (user_information (label_in kind)) ∷ [])
type_of kind types.ContextName = application_context_name
type_of kind types.AareResult = explicit (universal 2) (fixed (result_in kind))
type_of kind types.Source = explicit (context 1) (explicit (universal 2) (fixed 0))
type_of kind types.Reason = explicit (universal 2) (fixed 0)
type_of kind types.Information = user_information (label_in kind)
type_of kind types.External = external (label_in kind)

-- which skip other fields
abbrev pub skips : TypeName → Bool
skips types.Mode = true
skips types.Parameters = true
skips types.Response = true
skips types.UserAbort = true
skips types.Resynchronization = true
skips types.Aarq = true
skips types.Aare = true
skips types.Release = true
skips types.Abrt = true
skips kind = false

abbrev pub pair_of : SpduKind → Pair → grammar.Form
pair_of kind pairs.Cp = grammar.set (required (context 0) mode_selector) (required (context 2) (type_of kind types.Parameters))
pair_of kind pairs.Cpa = grammar.set (required (context 0) mode_selector) (required (context 2) (type_of kind types.Response))

abbrev pub values_read : SpduKind → DataValues → grammar.Form
values_read kind data_values.One = carried one
values_read kind data_values.Some = carried_data
values_read kind data_values.Apdu = carried (typed (apdu_tags kind) (apdu_in kind))

-- what octets are within [0] or [1], by its number
abbrev pub values_within : SpduKind → DataValues → ℕ → texts.OctetForm
values_within kind data_values.One number = one
values_within kind data_values.Some number = if nat_eq number 0 then one else some
values_within kind data_values.Apdu number = typed (apdu_tags kind) (apdu_in kind)

abbrev pub listing_of : Listing → grammar.Form
listing_of listings.Proposals = grammar.sequence_of (universal 16) proposal
listing_of listings.Transfers = transfer_syntaxes
listing_of listings.Outcomes = grammar.sequence_of (universal 16) outcome
listing_of listings.Data = all_data

abbrev pub read_of : SpduKind → Form → grammar.Form
read_of kind (forms.Number only label) = grammar.integer only label
read_of kind forms.AareResult = fixed (result_in kind)
read_of kind forms.PduContext = grammar.integer None (label_in kind)
read_of kind (forms.Name label) = grammar.object_identifier None label
read_of kind forms.Ber = grammar.object_identifier (Some ber) Stated
read_of kind forms.Skipped = grammar.skipped
read_of kind (forms.Fields name) = type_of kind name
read_of kind (forms.Set pair) = pair_of kind pair
read_of kind (forms.Each listing) = listing_of listing
read_of kind forms.Outcome = outcome
read_of kind (forms.Carried values) = values_read kind values

abbrev pub tags_of : Field → grammar.Tags
tags_of field = record { class = field.class; from = field.from; to = field.to }

abbrev pub field_of : SpduKind → Field → grammar.Field
field_of kind field = record { tags = tags_of field; is_required = field.is_required; read = read_of kind field.form }

-- a type by its fields
abbrev pub fields_read : TypeName → List grammar.Field → grammar.Form
fields_read name fields = if skips name then grammar.sequence fields else grammar.exactly fields

-- ---- what the user data of each SPDU is

abbrev pub IsUserData : SpduKind → Option Field → Type 0
IsUserData kind None = user_data_of kind ≡ None
IsUserData kind (Some field) = user_data_of kind ≡ Some (typed (tags_of field) (read_of kind field.form))

-- ---- how deep types nest

abbrev pub type_rank : TypeName → ℕ
type_rank types.External = 1
type_rank types.Information = 2
type_rank types.ContextName = 1
type_rank types.AareResult = 1
type_rank types.Reason = 1
type_rank types.Source = 2
type_rank types.Aarq = 3
type_rank types.Aare = 3
type_rank types.Release = 3
type_rank types.Abrt = 3
type_rank types.AcseList = 5
type_rank types.AcseData = 6
type_rank types.Proposal = 2
type_rank types.Mode = 1
type_rank types.Parameters = 7
type_rank types.Response = 7
type_rank types.UserAbort = 7
type_rank types.OneList = 1
type_rank types.OneData = 2
type_rank types.DataList = 1
type_rank types.Resynchronization = 3

abbrev pub listing_rank : Listing → ℕ
listing_rank listings.Proposals = 3
listing_rank listings.Transfers = 1
listing_rank listings.Outcomes = 3
listing_rank listings.Data = 2

abbrev pub values_rank : DataValues → ℕ
values_rank data_values.One = 0
values_rank data_values.Some = 0
values_rank data_values.Apdu = 4

abbrev pub rank : Form → ℕ
rank (forms.Fields name) = type_rank name
rank (forms.Set pair) = 8
rank (forms.Each listing) = listing_rank listing
rank forms.Outcome = 2
rank (forms.Carried values) = values_rank values
rank form = 0

abbrev pub are_below : ℕ → List Field → Bool
are_below bound [] = true
are_below bound (field ∷ fields) = nat_lt (rank field.form) bound && are_below bound fields
