-- The user data that are written for a primitive: each value in [0] of its PDV-list or EXTERNAL, contexts by their
-- identifiers, and no field that may be absent.
use Rattle.std.specs.Prelude.{ℕ, ◌≡◌, ℤ, pos, Bool, true, false, ◌&&◌, List, [], ◌∷◌, map, Option, None, Some, if◌then◌else◌}
use Rattle.std.specs.List.{list_all}
use Rattle.vf_ber.specs.Contents.{integer_octets, oid_octets}
use Rattle.vf_ber.specs.Limits.{IsTooLarge}
use Rattle.vf_ber.specs.Spelling.{spell}
use Rattle.vf_ber.specs.Tree.{Tag, Tree, plain, built, Trees, none, more}
use Rattle.vf_upper.specs.declared.contexts.ContextEntry.{ContextEntry}
use Rattle.vf_upper.specs.declared.contexts.Offer.{Offer}
use Rattle.vf_upper_grammar.specs.declared.labels.NumberLabel.{NumberLabel}
use Rattle.vf_upper_grammar.specs.declared.labels.NumberLabel.TheVariants.{AcseContext, PciContext, AnyContext}
use Rattle.vf_upper.specs.declared.primitive.Primitive.{Primitive}
use Rattle.vf_upper.specs.declared.primitive.Primitive.TheVariants.{Associate, Accepted, Refused, Release, Released, Data, Abort}
use Rattle.vf_upper.specs.CarriedCode.{Carried}
use Rattle.vf_upper_grammar.specs.Forms.{are_arcs}
use Rattle.vf_upper.specs.Primitives.{is_suited, offered, Negotiated, with_result, syntax_of}
use Rattle.vf_upper_grammar.specs.Syntaxes as syntaxes

-- ---- values

abbrev pub universal : ℕ → Tag
universal number = record { class = 0; number = number }

abbrev pub application : ℕ → Tag
application number = record { class = 1; number = number }

abbrev pub context : ℕ → Tag
context number = record { class = 2; number = number }

abbrev pub trees : List Tree → Trees
trees [] = none
trees (first ∷ others) = more first (trees others)

abbrev pub holding : Tag → List Tree → Tree
holding tag parts = built tag (trees parts)

abbrev pub integer : ℤ → Tree
integer n = plain (universal 2) (integer_octets n)

abbrev pub object_identifier : List ℕ → Tree
object_identifier arcs = plain (universal 6) (oid_octets arcs)

-- ---- presentation

abbrev pub pdv_list : ℤ → Tree → Tree
pdv_list id tree = holding (universal 16) (integer id ∷ holding (context 0) (tree ∷ []) ∷ [])

abbrev pub carried_list : Carried → Tree
carried_list carried = pdv_list carried.context carried.tree

abbrev pub user_data : List Tree → Tree
user_data lists = holding (application 1) lists

abbrev pub proposal : Offer → Tree
proposal offer =
    holding (universal 16) (integer offer.id ∷ object_identifier offer.syntax ∷ holding (universal 16) (object_identifier syntaxes.ber ∷ []) ∷ [])

abbrev pub outcome : Bool → Tree
outcome true = holding (universal 16) (plain (context 0) (integer_octets (pos 0)) ∷ plain (context 1) (oid_octets syntaxes.ber) ∷ [])
outcome false = holding (universal 16) (plain (context 0) (integer_octets (pos 2)) ∷ [])

abbrev pub mode_selector : Tree
mode_selector = holding (context 0) (plain (context 0) (integer_octets (pos 1)) ∷ [])

abbrev pub in_mode : List Tree → Tree
in_mode parameters = holding (universal 17) (mode_selector ∷ holding (context 2) parameters ∷ [])

-- ---- ACSE

abbrev pub external : Carried → Tree
external carried = holding (universal 8) (integer carried.context ∷ holding (context 0) (carried.tree ∷ []) ∷ [])

abbrev pub user_information : List Carried → Tree
user_information values = holding (context 30) (map external values)

abbrev pub application_context_name : Tree
application_context_name = holding (context 1) (object_identifier syntaxes.ftam ∷ [])

abbrev pub aarq : List Carried → Tree
aarq values = holding (application 0) (application_context_name ∷ user_information values ∷ [])

abbrev pub source : Tree
source = holding (context 3) (holding (context 1) (integer (pos 0) ∷ []) ∷ [])

abbrev pub aare : ℤ → List Carried → Tree
aare result values = holding (application 1) (
    application_context_name ∷
    holding (context 2) (integer result ∷ []) ∷
    source ∷
    user_information values ∷ [])

abbrev pub rlrq : List Carried → Tree
rlrq values = holding (application 2) (user_information values ∷ [])

abbrev pub rlre : List Carried → Tree
rlre values = holding (application 3) (user_information values ∷ [])

abbrev pub abrt : List Carried → Tree
abrt values = holding (application 4) (plain (context 0) (integer_octets (pos 0)) ∷ user_information values ∷ [])

-- ---- contexts

abbrev pub accepted : List ContextEntry → List Negotiated
accepted contexts = map (with_result true) contexts

abbrev pub has_syntax : List ℕ → Option (List ℕ) → Bool
has_syntax syntax None = false
has_syntax syntax (Some other) = are_arcs other syntax

-- the first identifier among these entries that is one of a context of this syntax
abbrev pub id_among : List ContextEntry → List ℕ → List ContextEntry → Option ℤ
id_among contexts syntax [] = None
id_among contexts syntax (entry ∷ entries) =
    if has_syntax syntax (syntax_of entry.id (accepted contexts)) then Some entry.id else id_among contexts syntax entries

-- the first context of this syntax; of two with one identifier the first counts
abbrev pub id_of : List ℕ → List ContextEntry → Option ℤ
id_of syntax contexts = id_among contexts syntax contexts

abbrev pub or_zero : Option ℤ → ℤ
or_zero None = pos 0
or_zero (Some id) = id

-- an ACSE value stands in the first context of ACSE
abbrev pub acse_id : List ContextEntry → ℤ
acse_id contexts = or_zero (id_of syntaxes.acse contexts)

abbrev pub acse_data : List ContextEntry → Tree → Tree
acse_data contexts tree = user_data (pdv_list (acse_id contexts) tree ∷ [])

-- ---- primitives

abbrev pub written : Primitive → List ContextEntry → Tree
written (Associate offers values) contexts = in_mode (holding (context 4) (map proposal offers) ∷ acse_data contexts (aarq values) ∷ [])
written (Accepted results values) contexts = in_mode (holding (context 5) (map outcome results) ∷ acse_data contexts (aare (pos 0) values) ∷ [])
written (Refused results values) contexts =
    holding (universal 16) (holding (context 5) (map outcome results) ∷ acse_data contexts (aare (pos 1) values) ∷ [])
written (Release values) contexts = acse_data contexts (rlrq values)
written (Released values) contexts = acse_data contexts (rlre values)
written (Data values) contexts = user_data (map carried_list values)
written (Abort values) contexts = holding (context 0) (acse_data contexts (abrt values) ∷ [])

-- a refusal or an abort without a value has no user data
abbrev pub is_empty : Primitive → Bool
is_empty (Refused [] []) = true
is_empty (Abort []) = true
is_empty primitive = false

-- the octets that are written
abbrev pub user_octets : Primitive → List ContextEntry → List ℕ
user_octets primitive contexts = if is_empty primitive then [] else spell (written primitive contexts)

-- ---- which primitives have user data

abbrev pub suits_in : List Negotiated → NumberLabel → ℤ → Bool
suits_in negotiated label id = is_suited label (syntax_of id negotiated)

-- there is a context of ACSE and one value, both in contexts that suit them
abbrev pub has_pdu : List Negotiated → List ContextEntry → NumberLabel → List Carried → Bool
has_pdu negotiated contexts label [] = false
has_pdu negotiated contexts label (value ∷ []) = suits_in negotiated AcseContext (acse_id contexts) && suits_in negotiated label value.context
has_pdu negotiated contexts label (value ∷ other ∷ values) = false

-- Its values stand in contexts that suit them. Of an association request these are the contexts that it offers, each in
-- the basic encoding rules.
abbrev pub is_placed : Primitive → List ContextEntry → Bool
is_placed (Associate offers values) contexts = list_all (λ offer. offer.ber) offers && has_pdu (map offered offers) contexts PciContext values
is_placed (Accepted results values) contexts = has_pdu (accepted contexts) contexts PciContext values
is_placed (Refused [] []) contexts = true
is_placed (Refused results values) contexts = has_pdu (accepted contexts) contexts PciContext values
is_placed (Release values) contexts = has_pdu (accepted contexts) contexts AnyContext values
is_placed (Released values) contexts = has_pdu (accepted contexts) contexts AnyContext values
is_placed (Data values) contexts = list_all (λ value. suits_in (accepted contexts) AnyContext value.context) values
is_placed (Abort []) contexts = true
is_placed (Abort values) contexts = has_pdu (accepted contexts) contexts AnyContext values

-- It has user data within the limits with these contexts, which are the accepted ones, or of an association request
-- those that it proposes.
pub record IsWritable (primitive : Primitive) (contexts : List ContextEntry) : Type 0 where
  pub placed : is_placed primitive contexts ≡ true
  pub small : ¬ IsTooLarge (written primitive contexts)
