-- The primitive that user data are, by what is found in them.
use Rattle.std.specs.Prelude.{ℕ, ℤ, pos, Bool, true, false, ◌&&◌, ◌||◌, List, [], ◌∷◌, map, Option, None, Some, Result, Ok, Err, if◌then◌else◌}
use Rattle.std.specs.Ordering.{int_eq}
use Rattle.vf_base.specs.declared.spdu_kind.SpduKind.{SpduKind}
use Rattle.vf_base.specs.declared.spdu_kind.SpduKind.TheVariants.{CN, AC, RF, FN, DN, AB}
use Rattle.vf_upper.specs.declared.contexts.ContextEntry.{ContextEntry}
use Rattle.vf_upper.specs.declared.contexts.Offer.{Offer}
use Rattle.vf_upper.specs.declared.errors.UpperError.{UpperError}
use Rattle.vf_upper.specs.declared.errors.UpperError.TheVariants as errors
use Rattle.vf_upper_grammar.specs.declared.labels.NameLabel.{NameLabel}
use Rattle.vf_upper_grammar.specs.declared.labels.NameLabel.TheVariants.{Abstract, Transfer, Application}
use Rattle.vf_upper_grammar.specs.declared.labels.NumberLabel.{NumberLabel}
use Rattle.vf_upper_grammar.specs.declared.labels.NumberLabel.TheVariants.{Proposal, Outcome, AcseContext, PciContext, AnyContext}
use Rattle.vf_upper.specs.declared.primitive.Primitive.{Primitive}
use Rattle.vf_upper.specs.declared.primitive.Primitive.TheVariants as primitives
use Rattle.vf_upper.specs.CarriedCode.{Carried}
use Rattle.vf_upper_grammar.specs.Forms.{are_arcs}
use Rattle.vf_upper_grammar.specs.Marks.{Mark, number, name, value, Found}
use Rattle.vf_upper_grammar.specs.Syntaxes as syntaxes
use Rattle.vf_upper_grammar.specs.Types.{user_data_of, found_in}

-- ---- what was found

abbrev pub is_proposal : NumberLabel → Bool
is_proposal Proposal = true
is_proposal label = false

abbrev pub is_outcome : NumberLabel → Bool
is_outcome Outcome = true
is_outcome label = false

-- the context of a value
abbrev pub is_context : NumberLabel → Bool
is_context AcseContext = true
is_context PciContext = true
is_context AnyContext = true
is_context label = false

abbrev pub is_abstract : NameLabel → Bool
is_abstract Abstract = true
is_abstract label = false

abbrev pub is_transfer : NameLabel → Bool
is_transfer Transfer = true
is_transfer label = false

abbrev pub is_application : NameLabel → Bool
is_application Application = true
is_application label = false

-- among the transfer syntaxes that come next are the basic encoding rules
abbrev pub offers_ber : List Mark → Bool
offers_ber [] = false
offers_ber (number label n ∷ marks) = false
offers_ber (name label arcs ∷ marks) = is_transfer label && (are_arcs arcs syntaxes.ber || offers_ber marks)
offers_ber (value tree ∷ marks) = false

-- the proposals; the last identifier is that of the next abstract syntax
abbrev pub offers_from : ℤ → List Mark → List Offer
offers_from id [] = []
offers_from id (number label n ∷ marks) = offers_from (if is_proposal label then n else id) marks
offers_from id (name label arcs ∷ marks) =
    if is_abstract label
    then record { id = id; syntax = arcs; ber = offers_ber marks } ∷ offers_from id marks
    else offers_from id marks
offers_from id (value tree ∷ marks) = offers_from id marks

abbrev pub offers_of : List Mark → List Offer
offers_of marks = offers_from (pos 0) marks

abbrev pub results_of : List Mark → List Bool
results_of [] = []
results_of (number label n ∷ marks) = if is_outcome label then int_eq n (pos 0) ∷ results_of marks else results_of marks
results_of (name label arcs ∷ marks) = results_of marks
results_of (value tree ∷ marks) = results_of marks

-- the values, each in the last context before it
abbrev pub values_from : ℤ → List Mark → List Carried
values_from context [] = []
values_from context (number label n ∷ marks) = values_from (if is_context label then n else context) marks
values_from context (name label arcs ∷ marks) = values_from context marks
values_from context (value tree ∷ marks) = record { context = context; tree = tree } ∷ values_from context marks

abbrev pub values_of : List Mark → List Carried
values_of marks = values_from (pos 0) marks

-- ---- contexts

-- a context, and its abstract syntax where it is accepted
pub record Negotiated : Type 0 where
  pub id : ℤ
  pub syntax : Option (List ℕ)

-- a called end accepts its own syntaxes in the basic encoding rules
abbrev pub offered : Offer → Negotiated
offered offer = record { id = offer.id; syntax = if offer.ber && syntaxes.is_ours offer.syntax then Some offer.syntax else None }

abbrev pub with_result : Bool → ContextEntry → Negotiated
with_result accepted entry = record { id = entry.id; syntax = if accepted then Some entry.syntax else None }

-- proposals with their results: those without one aren't accepted, and further results tell nothing
abbrev pub answered : List ContextEntry → List Bool → List Negotiated
answered [] results = []
answered (entry ∷ entries) [] = with_result false entry ∷ answered entries []
answered (entry ∷ entries) (result ∷ results) = with_result result entry ∷ answered entries results

-- The contexts of the values: of a CN those that it proposes, of an AC or RF those that the other end had proposed, by
-- their results, of others those that are accepted.
abbrev pub negotiated_in : SpduKind → List ContextEntry → List Mark → List Negotiated
negotiated_in CN contexts marks = map offered (offers_of marks)
negotiated_in AC contexts marks = answered contexts (results_of marks)
negotiated_in RF contexts marks = answered contexts (results_of marks)
negotiated_in kind contexts marks = map (with_result true) contexts

-- of two with one identifier the first counts
abbrev pub syntax_of : ℤ → List Negotiated → Option (List ℕ)
syntax_of id [] = None
syntax_of id (negotiated ∷ others) = if int_eq negotiated.id id then negotiated.syntax else syntax_of id others

-- An ACSE value stands in a context of ACSE, and the PDU of an AARQ or AARE in one of FTAM PCI (profile).
abbrev pub suits : NumberLabel → List ℕ → Bool
suits AcseContext syntax = are_arcs syntax syntaxes.acse
suits PciContext syntax = are_arcs syntax syntaxes.pci
suits label syntax = true

abbrev pub is_suited : NumberLabel → Option (List ℕ) → Bool
is_suited label None = false
is_suited label (Some syntax) = suits label syntax

-- why one of the things that are found isn't admitted, if so
abbrev pub refused : List Negotiated → Mark → Option UpperError
refused negotiated (number label n) =
    if is_context label then (if is_suited label (syntax_of n negotiated) then None else Some (errors.Context n)) else None
refused negotiated (name label arcs) =
    if is_application label then (if are_arcs arcs syntaxes.ftam then None else Some errors.Application) else None
refused negotiated (value tree) = None

abbrev pub first_of : Option UpperError → Option UpperError → Option UpperError
first_of None other = other
first_of (Some error) other = Some error

-- The first reason in the order of octets why what is found isn't admitted.
abbrev pub refusal : List Negotiated → List Mark → Option UpperError
refusal negotiated [] = None
refusal negotiated (mark ∷ marks) = first_of (refused negotiated mark) (refusal negotiated marks)

-- ---- primitives

abbrev pub primitive_of : SpduKind → List Mark → Primitive
primitive_of CN marks = primitives.Associate (offers_of marks) (values_of marks)
primitive_of AC marks = primitives.Accepted (results_of marks) (values_of marks)
primitive_of RF marks = primitives.Refused (results_of marks) (values_of marks)
primitive_of FN marks = primitives.Release (values_of marks)
primitive_of DN marks = primitives.Released (values_of marks)
primitive_of AB marks = primitives.Abort (values_of marks)
primitive_of kind marks = primitives.Data (values_of marks)

abbrev pub admitted : SpduKind → List Mark → Option UpperError → Result Primitive UpperError
admitted kind marks None = Ok (primitive_of kind marks)
admitted kind marks (Some error) = Err error

abbrev pub concluded : SpduKind → List ContextEntry → Found → Result Primitive UpperError
concluded kind contexts (Ok marks) = admitted kind marks (refusal (negotiated_in kind contexts marks) marks)
concluded kind contexts (Err place) = Err (errors.Grammar place)

-- A refusal or an abort may have no user data, and then has no values.
abbrev pub may_lack : SpduKind → Bool
may_lack RF = true
may_lack AB = true
may_lack kind = false

abbrev pub is_bare : SpduKind → List ℕ → Bool
is_bare kind [] = may_lack kind
is_bare kind (octet ∷ octets) = false

-- the primitive that the user data of an SPDU of this kind are, or why they aren't any
abbrev pub reading : SpduKind → List ContextEntry → List ℕ → Result Primitive UpperError
reading kind contexts octets =
    if is_bare kind octets then Ok (primitive_of kind []) else concluded kind contexts (found_in (user_data_of kind) octets)
