-- What a read of a sequential flat file comes to is told by positions alone.
use Rattle.std.proofs.Common.{◌≡◌, ◌⊎◌, ⊎_elim, ℕ, ◌+◌, ◌-◌, ◌<◌, ◌≤◌, min, Bool, true, false, ◌&&◌, if◌then◌else◌, List, length, Option, None, Some, refl, sym, ◌∙◌, ap, arith}
use Rattle.std.specs.Prelude.{nat_eq, nat_le, slice_get}
use Rattle.std.proofs.lemmas.Bool.Decides.{nat_tests}
use Rattle.std.proofs.lemmas.Option.{slice_get_cases, slice_get_within}
use Rattle.vf_base.specs.declared.access.Context.TheVariants.{FA}
use Rattle.vf_base.specs.declared.element.Element.{Element}
use Rattle.vf_tree.specs.Contexts.{reading_one, unit_there}
use Rattle.vf_tables.specs.Validity.{comes_to}

-- so many units have one at this position, which is that position
abbrev pub is_at : (count i position : ℕ) → Bool
is_at count i position = nat_le 1 i && nat_le i count && nat_eq i position

there_at : (count i position : ℕ) → 1 ≤ i → i ≤ count → nat_eq i position ≡ is_at count i position
there_at count i position least most = grind (arith, nat_tests)

none_at : (count i position : ℕ) → count < i → false ≡ is_at count i position
none_at count i position past = grind (arith, nat_tests)

none_at_begin : (count i position : ℕ) → nat_eq i 0 ≡ true → false ≡ is_at count i position
none_at_begin count i position begin = grind (arith, nat_tests)

past_end : (units : List (List Element)) (k : ℕ) → slice_get units k ≡ None → length units ≤ k
past_end units k none = ⊎_elim (λ some. let wrong = some.2 in absurd cc) (λ past. past.0) (slice_get_cases units k).1

one_found : (units : List (List Element)) (i position : ℕ) (found : Option (List Element)) → slice_get units (i - 1) ≡ found → 1 ≤ i → comes_to position (reading_one FA i found) ≡ is_at (length units) i position
one_found units i position None is least = none_at (length units) i position (omega (arith, past_end units (i - 1) is))
one_found units i position (Some unit) is least = there_at (length units) i position least (omega (arith, slice_get_within units (i - 1) unit is))

above_begin : (i : ℕ) → nat_eq i 0 ≡ false → 1 ≤ i
above_begin i not = grind (arith, nat_tests)

one_there : (units : List (List Element)) (i position : ℕ) (begin : Bool) → nat_eq i 0 ≡ begin
    → (let found : Option (List Element) = if begin then None else slice_get units (i - 1) in comes_to position (reading_one FA i found)) ≡ is_at (length units) i position
one_there units i position true is = none_at_begin (length units) i position is
one_there units i position false is = one_found units i position (slice_get units (i - 1)) refl (above_begin i is)

pub comes_at : (units : List (List Element)) (i position : ℕ) → comes_to position (reading_one FA i (unit_there units i)) ≡ is_at (length units) i position
comes_at units i position = one_there units i position (nat_eq i 0) refl

-- the positions at which each identity is
pub first_at : (count position : ℕ) → is_at count 1 position ≡ (nat_le 1 position && nat_le position count && nat_eq position 1)
first_at count position = grind (arith, nat_tests)

pub last_at : (count position : ℕ) → is_at count count position ≡ (nat_le 1 position && nat_le position count && nat_eq position count)
last_at count position = grind (arith, nat_tests)

pub current_at : (count position : ℕ) → is_at count (min position (count + 1)) position ≡ (nat_le 1 position && nat_le position count)
current_at count position = grind (arith, nat_tests)

pub next_at : (count position : ℕ) → is_at count (min (position - 1) (count + 1) + 1) position ≡ (nat_le 1 position && nat_le position count)
next_at count position = grind (arith, nat_tests)

pub previous_at : (count position : ℕ) → is_at count (min (position + 1) (count + 1) - 1) position ≡ (nat_le 1 position && nat_le position count)
previous_at count position = grind (arith, nat_tests)

pub number_at : (count number position : ℕ) → is_at count number position ≡ (nat_le 1 position && nat_le position count && nat_eq position number)
number_at count number position = grind (arith, nat_tests)

pub end_at : (count position : ℕ) → false ≡ is_at count (count + 1) position
end_at count position = grind (arith, nat_tests)

pub begin_at : (position : ℕ) → nat_eq position 0 ≡ nat_eq 0 position
begin_at position = grind (arith, nat_tests)

pub both_then : (b c : Bool) → b ≡ true → c ≡ (b && c)
both_then true c is = refl
both_then false c is = cc

pub both_else : (b c : Bool) → b ≡ false → b ≡ (b && c)
both_else true c is = cc
both_else false c is = refl
