-- What was written is read as the primitive again.
use Rattle.std.specs.Prelude.{◌≡◌, ℕ, ◌+◌, ◌*◌, ◌≤◌, ℤ, true, false, List, [], ◌∷◌, length, MatchOption, Option, None, Some, Result, Ok, Err}
use Rattle.std.specs.Int.{w64}
use Rattle.std.specs.Int.RustNames.{FitsSigned}
use Rattle.std.specs.List.{All}
use Rattle.vf_base.specs.Oid.{IsOid}
use Rattle.vf_base.specs.declared.limits.TheConstants.{MOST_VALUE_OCTETS}
use Rattle.vf_base.specs.declared.spdu_kind.SpduKind.{SpduKind}
use Rattle.vf_base.specs.declared.spdu_kind.SpduKind.TheVariants.{CN, AC, RF, FN, DN, AB, DT, RS, RA}
use Rattle.vf_ber.specs.Limits.{IsTooLarge}
use Rattle.vf_ber.specs.Spelling.{spell}
use Rattle.vf_ber.specs.Tags.{IsTree}
use Rattle.vf_ber.specs.Tree.{Tree, depth}
use Rattle.vf_upper.specs.declared.contexts.ContextEntry.{ContextEntry}
use Rattle.vf_upper.specs.declared.contexts.Offer.{Offer}
use Rattle.vf_upper.specs.declared.primitive.Primitive.{Primitive}
use Rattle.vf_upper.specs.declared.primitive.Primitive.TheVariants.{Associate, Accepted, Refused, Release, Released, Data, Abort}
use Rattle.vf_upper.specs.declared.errors.UpperError.{UpperError}
use Rattle.vf_upper.specs.declared.errors.UpperError.TheVariants.{Grammar}
use Rattle.vf_upper.specs.CarriedCode.{Carried}
use Rattle.vf_upper.specs.Primitives.{admitted, answered, is_bare, Negotiated, negotiated_in, reading, refusal, syntax_of}
use Rattle.vf_upper_grammar.specs.FaultPlaces.{fault_places, IsLeast}
use Rattle.vf_upper_grammar.specs.Faults.{Places}
use Rattle.vf_upper_grammar.specs.Modules.{meaning_of, meant}
use Rattle.vf_upper.specs.Written.{accepted, holding, is_empty, is_placed, IsWritable, universal, user_octets, written}

abbrev pub carrier_of : Primitive → SpduKind
carrier_of (Associate offers values) = CN
carrier_of (Accepted results values) = AC
carrier_of (Refused results values) = RF
carrier_of (Release values) = FN
carrier_of (Released values) = DN
carrier_of (Data values) = DT
carrier_of (Abort values) = AB

-- ---- what the types of the code keep

abbrev pub IsIdentifier : ℤ → Type 0
IsIdentifier id = FitsSigned w64 id

abbrev pub IsOffer : Offer → Type 0
IsOffer offer = IsIdentifier offer.id × IsOid offer.syntax

abbrev pub IsCarried : Carried → Type 0
IsCarried carried = IsIdentifier carried.context × IsTree carried.tree

abbrev pub AreCarried : List Carried → Type 0
AreCarried values = All IsCarried values

abbrev pub IsPrimitive : Primitive → Type 0
IsPrimitive (Associate offers values) = All IsOffer offers × AreCarried values
IsPrimitive (Accepted results values) = AreCarried values
IsPrimitive (Refused results values) = AreCarried values
IsPrimitive (Release values) = AreCarried values
IsPrimitive (Released values) = AreCarried values
IsPrimitive (Data values) = AreCarried values
IsPrimitive (Abort values) = AreCarried values

abbrev pub AreContexts : List ContextEntry → Type 0
AreContexts contexts = All (λ entry. IsIdentifier entry.id) contexts

-- ---- the law

abbrev pub SameContexts : List Negotiated → List Negotiated → Type 0
SameContexts a b = (id : ℤ) → syntax_of id a ≡ syntax_of id b

-- The contexts that the reading end hands in: those of its proposals that the results accept are the contexts with
-- which an acceptance or a refusal was written; other primitives are read with those that they were written with. An
-- association request says its contexts itself, and without values none are asked for.
abbrev pub AreHeard : Primitive → List ContextEntry → List ContextEntry → Type 0
AreHeard (Associate offers values) contexts heard = Unit {0}
AreHeard (Accepted results values) contexts heard = SameContexts (answered heard results) (accepted contexts)
AreHeard (Refused [] []) contexts heard = Unit {0}
AreHeard (Refused results values) contexts heard = SameContexts (answered heard results) (accepted contexts)
AreHeard (Abort []) contexts heard = Unit {0}
AreHeard primitive contexts heard = heard ≡ contexts

abbrev pub IsReadAgain : Type 0
IsReadAgain =
    (primitive : Primitive) (contexts heard : List ContextEntry) → IsPrimitive primitive → AreContexts contexts
    → IsWritable primitive contexts → AreHeard primitive contexts heard
    → reading (carrier_of primitive) heard (user_octets primitive contexts) ≡ Ok primitive

-- The same of one value within the SEQUENCE of a resynchronization and of its response.
abbrev pub IsReadInSequence : SpduKind → Type 0
IsReadInSequence kind =
    (value : Carried) (contexts : List ContextEntry) → IsCarried value → IsWritable (Data (value ∷ [])) contexts
    → ¬ IsTooLarge (holding (universal 16) (written (Data (value ∷ [])) contexts ∷ []))
    → reading kind contexts (spell (holding (universal 16) (written (Data (value ∷ [])) contexts ∷ []))) ≡ Ok (Data (value ∷ []))

abbrev pub IsReadInResynchronizations : Type 0
IsReadInResynchronizations = IsReadInSequence RS × IsReadInSequence RA

-- ---- room

abbrev pub carried_in : Primitive → List Carried
carried_in (Associate offers values) = values
carried_in (Accepted results values) = values
carried_in (Refused results values) = values
carried_in (Release values) = values
carried_in (Released values) = values
carried_in (Data values) = values
carried_in (Abort values) = values

-- how many contexts it proposes or answers
abbrev pub contexts_in : Primitive → ℕ
contexts_in (Associate offers values) = length offers
contexts_in (Accepted results values) = length results
contexts_in (Refused results values) = length results
contexts_in primitive = 0

-- the offers of a proposal are offers of the code
abbrev pub AreProposed : Primitive → Type 0
AreProposed (Associate offers values) = All IsOffer offers
AreProposed primitive = Unit {0}

abbrev pub in_context : ℤ → Tree → Carried
in_context id tree = record { context = id; tree = tree }

-- A primitive with one value in contexts that suit it is writable where the value is at most 23 deep and leaves 128 octets,
-- and as many for each context that is proposed or answered; its user data have no more than these.
abbrev pub IsRoomy : Primitive → List ContextEntry → ℕ → Type 0
IsRoomy primitive contexts most = IsWritable primitive contexts × (length (spell (written primitive contexts)) ≤ most)

abbrev pub HasRoom : Type 0
HasRoom =
    (primitive : Primitive) (contexts : List ContextEntry) (value : Carried) → AreProposed primitive → carried_in primitive ≡ value ∷ []
    → is_placed primitive contexts ≡ true → depth value.tree ≤ 23 → 128 * (contexts_in primitive + 1) + length (spell value.tree) ≤ MOST_VALUE_OCTETS
    → IsRoomy primitive contexts (128 * (contexts_in primitive + 1) + length (spell value.tree))

-- So is one without user data.
abbrev pub EmptyHasRoom : Type 0
EmptyHasRoom = (primitive : Primitive) (contexts : List ContextEntry) → is_empty primitive ≡ true → IsWritable primitive contexts

-- The user data of a primitive have so many octets, or none where they pass the limits of a value.
abbrev pub Measures : Primitive → List ContextEntry → Option ℕ → Type 0
Measures primitive contexts None = IsTooLarge (written primitive contexts)
Measures primitive contexts (Some most) = (¬ IsTooLarge (written primitive contexts)) × (length (spell (written primitive contexts)) ≡ most)

-- ---- what user data mean

-- a fault of the form
abbrev pub IsGrammar : Result Primitive UpperError → Type 0
IsGrammar (Ok primitive) = ⊥
IsGrammar (Err (Grammar at)) = Unit {0}
IsGrammar (Err error) = ⊥

-- User data that aren't absent and are one value of the type of their SPDU are answered by what this value means in the
-- words of both modules, with its contexts; all others have a fault of the form.
abbrev pub IsAnswered : Type 0
IsAnswered =
    (kind : SpduKind) (contexts : List ContextEntry) (octets : List ℕ) → is_bare kind octets ≡ false
    → MatchOption (meant (meaning_of kind) octets) (IsGrammar (reading kind contexts octets)) (λ marks. reading kind contexts octets ≡ admitted kind marks (refusal (negotiated_in kind contexts marks) marks))

-- ---- which fault is told

-- a fault of the form, by all the places of one; other answers tell that there is none
abbrev pub TellsLeast : Result Primitive UpperError → Places → Type 0
TellsLeast (Ok primitive) places = places ≡ []
TellsLeast (Err (Grammar at)) places = IsLeast places at
TellsLeast (Err error) places = places ≡ []

-- User data that aren't absent have no fault of the form, or are answered by the least place of one. So a context or an
-- application that isn't admitted is told only of user data whose form is right.
abbrev pub LeastIsAnswered : Type 0
LeastIsAnswered =
    (kind : SpduKind) (contexts : List ContextEntry) (octets : List ℕ) → is_bare kind octets ≡ false
    → TellsLeast (reading kind contexts octets) (fault_places kind octets)
