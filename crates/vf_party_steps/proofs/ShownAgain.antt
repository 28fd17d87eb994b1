-- What a read showed is shown again from the position after it.
use Rattle.std.proofs.Common.{◌≡◌, ℕ, ◌-◌, ◌≤◌, Bool, true, false, cond, length, nat_eq, List, Option, None, Some, Result, Ok, Err, refl, ap, sym, ◌∙◌, arith}
use Rattle.std.specs.Prelude.{slice_get}
use Rattle.std.proofs.lemmas.Bool.{eq-eqb}
use Rattle.std.proofs.lemmas.Option.{slice_get_within}
use Rattle.vf_base.specs.declared.access.Constraint.{Constraint}
use Rattle.vf_base.specs.declared.access.Constraint.TheVariants.{Unstructured, SequentialFlat}
use Rattle.vf_base.specs.declared.access.Context.{Context}
use Rattle.vf_base.specs.declared.access.FaduId.{FaduId}
use Rattle.vf_base.specs.declared.access.FaduId.TheVariants.{Begin, End, First, Last, Current, Next, Previous, Number}
use Rattle.vf_base.specs.declared.element.Element.{Element}
use Rattle.vf_party_steps.specs.Recoveries.{again}
use Rattle.vf_tree.specs.Acts.{Reads, does, shown_of, shows}
use Rattle.vf_tree.specs.Contexts.{reading, reading_one, shown, takes, unit_there}
use Rattle.vf_tree.specs.FileTree.{DataUnit, FileTree}
use Rattle.vf_tree.specs.Identities as identities
use Rattle.vf_tree.specs.Identities.{meant}
use Rattle.vf_tree.specs.TreeRefusal.{TreeRefusal, BadContext}

abbrev answered_at : Result (List Element × ℕ) TreeRefusal → ℕ
answered_at (Ok answer) = answer.1
answered_at (Err refusal) = 0

-- a unit that was read is there, at its position
one_there : (context : Context) (units : List DataUnit) (i : ℕ) (elements : List Element) (at : ℕ) → reading_one context i (unit_there units i) ≡ Ok (elements, at)
    → (at ≡ i) × (1 ≤ i) × (i ≤ length units)
one_there context units i elements at is = by (nat_eq i 0) refl is
  where
    found : (unit_found : Option DataUnit) → slice_get units (i - 1) ≡ unit_found → nat_eq i 0 ≡ false → reading_one context i unit_found ≡ Ok (elements, at) → (at ≡ i) × (1 ≤ i) × (i ≤ length units)
    found None none off is = absurd cc
    found (Some unit) some off is =
        let within = slice_get_within units (i - 1) unit some in
        let same : at ≡ i = sym (ap answered_at is) in
        let differs : i ≡ 0 → ⊥ = λ e. (let yes = eq-eqb i 0 e in absurd cc) in
        (same, omega (arith, differs), omega (arith, within, differs))

    by : (b : Bool) → nat_eq i 0 ≡ b → reading_one context i (cond b None (slice_get units (i - 1))) ≡ Ok (elements, at) → (at ≡ i) × (1 ≤ i) × (i ≤ length units)
    by true e is = absurd cc
    by false e is = found (slice_get units (i - 1)) refl e is

-- from where it was read it is meant again
meant_again : (n from at : ℕ) (fadu : FaduId) → meant n (identities.standing n from) fadu ≡ at → 1 ≤ at → at ≤ n
    → meant n (identities.standing n at) (again fadu) ≡ at
meant_again n from at Begin is least most = is
meant_again n from at End is least most = is
meant_again n from at First is least most = is
meant_again n from at Last is least most = is
meant_again n from at Current is least most = omega (arith, least, most)
meant_again n from at Next is least most = omega (arith, least, most)
meant_again n from at Previous is least most = omega (arith, least, most)
meant_again n from at (Number k) is least most = is

abbrev flat_one : List DataUnit → (from : ℕ) → FaduId → Context → Result (List Element × ℕ) TreeRefusal
flat_one units from fadu context = let i = meant (length units) (identities.standing (length units) from) fadu in reading_one context i (unit_there units i)

flat_again : (units : List DataUnit) (from : ℕ) (fadu : FaduId) (context : Context) (elements : List Element) (at : ℕ)
    → flat_one units from fadu context ≡ Ok (elements, at) → flat_one units at (again fadu) context ≡ Ok (elements, at)
flat_again units from fadu context elements at is =
    let i = meant (length units) (identities.standing (length units) from) fadu in
    let there = one_there context units i elements at is in
    let least : 1 ≤ at = omega (arith, there.0, there.1) in
    let most : at ≤ length units = omega (arith, there.0, there.2) in
    let same = meant_again (length units) from at fadu (sym there.0) least most in
    ap (λ j. reading_one context j (unit_there units j)) (same ∙ there.0) ∙ is

whole_again : (units : List DataUnit) (from : ℕ) (fadu : FaduId) (context : Context) (elements : List Element) (at : ℕ) → reading Unstructured units from fadu context ≡ Ok (elements, at)
    → reading Unstructured units at (again fadu) context ≡ Ok (elements, at)
whole_again units from Begin context elements at is = is
whole_again units from First context elements at is = is
whole_again units from End context elements at is = absurd cc
whole_again units from Last context elements at is = absurd cc
whole_again units from Current context elements at is = absurd cc
whole_again units from Next context elements at is = absurd cc
whole_again units from Previous context elements at is = absurd cc
whole_again units from (Number k) context elements at is = absurd cc

reading_again : (constraint : Constraint) (units : List DataUnit) (from : ℕ) (fadu : FaduId) (context : Context) (elements : List Element) (at : ℕ) → reading constraint units from fadu context ≡ Ok (elements, at)
    → reading constraint units at (again fadu) context ≡ Ok (elements, at)
reading_again Unstructured units from fadu context elements at is = whole_again units from fadu context elements at is
reading_again SequentialFlat units from Begin context elements at is = is
reading_again SequentialFlat units from End context elements at is = flat_again units from End context elements at is
reading_again SequentialFlat units from First context elements at is = flat_again units from First context elements at is
reading_again SequentialFlat units from Last context elements at is = flat_again units from Last context elements at is
reading_again SequentialFlat units from Current context elements at is = flat_again units from Current context elements at is
reading_again SequentialFlat units from Next context elements at is = flat_again units from Next context elements at is
reading_again SequentialFlat units from Previous context elements at is = flat_again units from Previous context elements at is
reading_again SequentialFlat units from (Number k) context elements at is = flat_again units from (Number k) context elements at is

pub shown_again : (tree : FileTree) (from : ℕ) (fadu : FaduId) (context : Context) (elements : List Element) (at : ℕ) → shown tree from fadu context ≡ Ok (elements, at)
    → shown_of (does tree at (Reads (again fadu) context)) ≡ Ok (elements, at)
shown_again tree from fadu context elements at is = ap (λ one. shown_of (shows tree one)) (by (takes tree.constraint context) is)
  where
    by : (b : Bool) → cond b (reading tree.constraint tree.units from fadu context) (Err BadContext) ≡ Ok (elements, at)
        → cond b (reading tree.constraint tree.units at (again fadu) context) (Err BadContext) ≡ Ok (elements, at)
    by true is = reading_again tree.constraint tree.units from fadu context elements at is
    by false is = absurd cc
