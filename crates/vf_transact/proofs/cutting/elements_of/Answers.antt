-- Text is a string a line, and records a record a line.
use Rattle.std.specs.Prelude.{IfOk}
use Rattle.std.proofs.Common.{◌≡◌, ℕ, false, List, Result, Ok, Err, sym, subst, refl, ◌∙◌, nat_eq, ◌⊎◌, inl, inr}
use Rattle.std.specs.List.{flat_map}
use Rattle.std.proofs.lemmas.List.Concat.{flat_map_single}
use Rattle.vf_base.specs.declared.element.Element.{Element}
use Rattle.vf_initiator.specs.Cutting.{elements_by, lines, text_of}
use Rattle.vf_transact.specs.Cutting.{elements_of_line}
use Rattle.vf_transact.proofs.cutting.elements_of.Goals as goal

text : (input : List ℕ) → flat_map (elements_of_line false) (lines input) ≡ elements_by 1 input
text input = flat_map_single text_of (lines input)

by_kind : (kind : ℕ) (input : List ℕ) → (kind ≡ 1) ⊎ ((kind ≡ 1 → ⊥) × (kind ≡ 2)) → flat_map (elements_of_line (nat_eq kind 2)) (lines input) ≡ elements_by kind input
by_kind kind input (inl one) = subst (λ (k : ℕ). flat_map (elements_of_line (nat_eq k 2)) (lines input) ≡ elements_by k input) (sym one) (text input)
by_kind kind input (inr two) = subst (λ (k : ℕ). flat_map (elements_of_line (nat_eq k 2)) (lines input) ≡ elements_by k input) (sym two.1) refl

made_by : {E : Type 0} (answer : Result (List Element) E) (meant other : List Element) → IfOk answer (λ made. made ≡ meant) → meant ≡ other → IfOk answer (λ made. made ≡ other)
made_by (Ok made) meant other is same = is ∙ same
made_by (Err error) meant other is same = tt

pub returns-then-kind-eq1 : goal.returns-then-kind-eq1
returns-then-kind-eq1 c =
    made_by c.lines_of.result (flat_map (elements_of_line (nat_eq c.args.kind 2)) (lines c.args.input.now)) (elements_by c.args.kind c.args.input.now) c.lines_of.ensures
    (by_kind c.args.kind c.args.input.now c.then-kind-eq1.either)
