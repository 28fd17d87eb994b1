-- What is written is a tree, and identifiers are numbers of eight octets.
use Rattle.std.proofs.Common.{◌≡◌, Bool, true, false, List, [], ◌∷◌, All, map, refl, arith}
use Rattle.std.specs.Prelude.{ℕ, ℤ, pos, Option, Some, if◌then◌else◌}
use Rattle.std.proofs.lemmas.List.Elements.{All-head, All-map, All-tail, All-weaker}
use Rattle.vf_ber.specs.Tags.{AreTrees, IsTag, IsTree}
use Rattle.vf_ber.specs.Tree.{Tag, Tree, plain}
use Rattle.vf_upper.specs.declared.contexts.ContextEntry.{ContextEntry}
use Rattle.vf_upper.specs.declared.contexts.Offer.{Offer}
use Rattle.vf_upper.specs.declared.primitive.Primitive.{Primitive}
use Rattle.vf_upper.specs.declared.primitive.Primitive.TheVariants.{Associate, Accepted, Refused, Release, Released, Data, Abort}
use Rattle.vf_upper.specs.CarriedCode.{Carried}
use Rattle.vf_upper.specs.Laws.{AreCarried, AreContexts, IsCarried, IsIdentifier, IsOffer, IsPrimitive}
use Rattle.vf_upper.specs.Written.{aare, aarq, abrt, accepted, acse_data, acse_id, application, application_context_name, carried_list, context, external, has_syntax, id_among, in_mode, holding, or_zero, outcome, pdv_list, proposal, rlre, rlrq, source, trees, universal, user_information, written}
use Rattle.vf_upper.specs.Primitives.{syntax_of}
use Rattle.vf_upper.proofs.Parts.{is_low, low-by, trees-are}
use Rattle.vf_upper_grammar.specs.Syntaxes as syntaxes

-- ---- identifiers

pub zero_fits : IsIdentifier (pos 0)
zero_fits = record { sfits = omega arith }

pub one_fits : IsIdentifier (pos 1)
one_fits = record { sfits = omega arith }

pub two_fits : IsIdentifier (pos 2)
two_fits = record { sfits = omega arith }

-- the identifier of a context, or none
chosen : (b : Bool) (id : ℤ) (other : Option ℤ) → IsIdentifier id → IsIdentifier (or_zero other) → IsIdentifier (or_zero (if b then Some id else other))
chosen true id other here there = here
chosen false id other here there = there

among-fits : (contexts : List ContextEntry) (syntax : List ℕ) (entries : List ContextEntry) → AreContexts entries → IsIdentifier (or_zero (id_among contexts syntax entries))
among-fits contexts syntax [] are = zero_fits
among-fits contexts syntax (entry ∷ entries) are =
    let P : ContextEntry → Type 0 = λ e. IsIdentifier e.id in
    chosen (has_syntax syntax (syntax_of entry.id (accepted contexts))) entry.id (id_among contexts syntax entries) (All-head P entry entries are)
    (among-fits contexts syntax entries (All-tail P entry entries are))

pub acse_id-fits : (contexts : List ContextEntry) → AreContexts contexts → IsIdentifier (acse_id contexts)
acse_id-fits contexts are = among-fits contexts syntaxes.acse contexts are

-- ---- trees

low-tag : (tag : Tag) → is_low tag ≡ true → IsTag tag
low-tag tag low = (low-by (plain tag []) low).0

trees-of : {X : Type 0} (P : X → Type 0) (f : X → Tree) → ((x : X) → P x → IsTree (f x)) → (xs : List X) → All P xs → AreTrees (trees (map f xs))
trees-of P f is xs all = trees-are (map f xs) (All-map IsTree f xs (All-weaker P (λ x. IsTree (f x)) is xs all))

pdv_list-tree : (id : ℤ) (tree : Tree) → IsTree tree → IsTree (pdv_list id tree)
pdv_list-tree id tree is = (low-tag (universal 16) refl, (low-tag (universal 2) refl, ((low-tag (context 0) refl, (is, tt)), tt)))

external-tree : (v : Carried) → IsCarried v → IsTree (external v)
external-tree v is = (low-tag (universal 8) refl, (low-tag (universal 2) refl, ((low-tag (context 0) refl, (is.1, tt)), tt)))

user_information-tree : (values : List Carried) → AreCarried values → IsTree (user_information values)
user_information-tree values are = (low-tag (context 30) refl, trees-of IsCarried external external-tree values are)

name-tree : IsTree application_context_name
name-tree = (low-tag (context 1) refl, (low-tag (universal 6) refl, tt))

aarq-tree : (values : List Carried) → AreCarried values → IsTree (aarq values)
aarq-tree values are = (low-tag (application 0) refl, (name-tree, (user_information-tree values are, tt)))

source-tree : IsTree source
source-tree = (low-tag (context 3) refl, ((low-tag (context 1) refl, (low-tag (universal 2) refl, tt)), tt))

aare-tree : (result : ℤ) (values : List Carried) → AreCarried values → IsTree (aare result values)
aare-tree result values are =
    (low-tag (application 1) refl, (name-tree, ((low-tag (context 2) refl, (low-tag (universal 2) refl, tt)), (source-tree, (user_information-tree values are, tt)))))

rlrq-tree : (values : List Carried) → AreCarried values → IsTree (rlrq values)
rlrq-tree values are = (low-tag (application 2) refl, (user_information-tree values are, tt))

rlre-tree : (values : List Carried) → AreCarried values → IsTree (rlre values)
rlre-tree values are = (low-tag (application 3) refl, (user_information-tree values are, tt))

abrt-tree : (values : List Carried) → AreCarried values → IsTree (abrt values)
abrt-tree values are = (low-tag (application 4) refl, (low-tag (context 0) refl, (user_information-tree values are, tt)))

acse_data-tree : (contexts : List ContextEntry) (tree : Tree) → IsTree tree → IsTree (acse_data contexts tree)
acse_data-tree contexts tree is = (low-tag (application 1) refl, (pdv_list-tree (acse_id contexts) tree is, tt))

proposal-tree : (offer : Offer) → IsOffer offer → IsTree (proposal offer)
proposal-tree offer is =
    (low-tag (universal 16) refl, (low-tag (universal 2) refl, (low-tag (universal 6) refl, ((low-tag (universal 16) refl, (low-tag (universal 6) refl, tt)), tt))))

outcome-tree : (accepted : Bool) → IsTree (outcome accepted)
outcome-tree true = (low-tag (universal 16) refl, (low-tag (context 0) refl, (low-tag (context 1) refl, tt)))
outcome-tree false = (low-tag (universal 16) refl, (low-tag (context 0) refl, tt))

outcomes-tree : (results : List Bool) → IsTree (holding (context 5) (map outcome results))
outcomes-tree results = (low-tag (context 5) refl, trees-of (λ b. Unit {0}) outcome (λ b is. outcome-tree b) results (λ k d lt. tt))

in_mode-tree : (parameters : List Tree) → AreTrees (trees parameters) → IsTree (in_mode parameters)
in_mode-tree parameters are = (low-tag (universal 17) refl, ((low-tag (context 0) refl, (low-tag (context 0) refl, tt)), ((low-tag (context 2) refl, are), tt)))

pub written-tree : (p : Primitive) (contexts : List ContextEntry) → IsPrimitive p → IsTree (written p contexts)
written-tree (Associate offers values) contexts is =
    in_mode-tree (holding (context 4) (map proposal offers) ∷ acse_data contexts (aarq values) ∷ [])
    ((low-tag (context 4) refl, trees-of IsOffer proposal proposal-tree offers is.0), (acse_data-tree contexts (aarq values) (aarq-tree values is.1), tt))
written-tree (Accepted results values) contexts is =
    in_mode-tree (holding (context 5) (map outcome results) ∷ acse_data contexts (aare (pos 0) values) ∷ [])
    (outcomes-tree results, (acse_data-tree contexts (aare (pos 0) values) (aare-tree (pos 0) values is), tt))
written-tree (Refused results values) contexts is =
    (low-tag (universal 16) refl, (outcomes-tree results, (acse_data-tree contexts (aare (pos 1) values) (aare-tree (pos 1) values is), tt)))
written-tree (Release values) contexts is = acse_data-tree contexts (rlrq values) (rlrq-tree values is)
written-tree (Released values) contexts is = acse_data-tree contexts (rlre values) (rlre-tree values is)
written-tree (Data values) contexts is = (low-tag (application 1) refl, trees-of IsCarried carried_list (λ v is_v. pdv_list-tree v.context v.tree is_v.1) values is)
written-tree (Abort values) contexts is = (low-tag (context 0) refl, (acse_data-tree contexts (abrt values) (abrt-tree values is), tt))

-- within the SEQUENCE of a resynchronization
pub sequence-tree : (tree : Tree) → IsTree tree → IsTree (holding (universal 16) (tree ∷ []))
sequence-tree tree is = (low-tag (universal 16) refl, (is, tt))
