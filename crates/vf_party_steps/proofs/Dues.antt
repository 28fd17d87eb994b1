-- Whether a check is due, by how many elements there are.
use Rattle.std.proofs.Common.{◌≡◌, ℕ, ◌<◌, ◌%◌, true, List, [], ◌∷◌, drop, length, is_some, Option, None, Some, refl, arith}
use Rattle.std.specs.Prelude.{nat_eq}
use Rattle.std.proofs.lemmas.List.{length-drop}
use Rattle.vf_base.specs.declared.element.Element.{Element}
use Rattle.vf_filestore.specs.Due.{is_check_due}

due_left : (window : Option ℕ) (count : ℕ) (left : List Element) → is_some window ≡ true → 0 < length left → is_check_due window count left ≡ nat_eq (count % 8) 0
due_left None count left some more = absurd cc
due_left (Some window) count [] some more = absurd (omega (arith, more))
due_left (Some window) count (element ∷ left) some more = refl

-- where others follow
pub due_behind : (window : Option ℕ) (count : ℕ) (elements : List Element) → is_some window ≡ true → count < length elements → is_check_due window count (drop count elements) ≡ nat_eq (count % 8) 0
due_behind window count elements some more = due_left window count (drop count elements) some (omega (arith, length-drop count elements, more))
