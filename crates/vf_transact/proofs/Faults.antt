-- Which limit lines pass, line by line.
use Rattle.std.specs.Prelude.{if◌then◌else◌, nat_lt}
use Rattle.std.proofs.Common.{◌≡◌, ℕ, ◌+◌, Bool, true, false, List, ◌∷◌, length, Option, Some, ap, ◌∙◌}
use Rattle.vf_initiator.specs.Cutting.{elements_a_line, fault_of_lines, is_too_long}
use Rattle.vf_tree.specs.declared.limits.TheConstants.{MOST_FILE_OCTETS, MOST_FILE_PARTS}

module _ (kind octets elements : ℕ) (line : List ℕ) (later : List (List ℕ)) where
  abbrev rest : Option ℕ
  rest = fault_of_lines kind (octets + length line) (elements + elements_a_line kind) later

  abbrev by_octets : Bool → Option ℕ
  by_octets b = if b then Some 23 else rest

  abbrev by_length : Bool → Option ℕ
  by_length b = if b then Some 22 else by_octets (nat_lt MOST_FILE_OCTETS (octets + length line))

  abbrev by_parts : Bool → Option ℕ
  by_parts b = if b then Some 23 else by_length (is_too_long octets line)

  pub too_many : nat_lt MOST_FILE_PARTS (elements + elements_a_line kind) ≡ true → fault_of_lines kind octets elements (line ∷ later) ≡ Some 23
  too_many many = ap by_parts many

  pub too_long : nat_lt MOST_FILE_PARTS (elements + elements_a_line kind) ≡ false → is_too_long octets line ≡ true → fault_of_lines kind octets elements (line ∷ later) ≡ Some 22
  too_long few long = ap by_parts few ∙ ap by_length long

  pub too_large : nat_lt MOST_FILE_PARTS (elements + elements_a_line kind) ≡ false → is_too_long octets line ≡ false → nat_lt MOST_FILE_OCTETS (octets + length line) ≡ true
      → fault_of_lines kind octets elements (line ∷ later) ≡ Some 23
  too_large few short large = ap by_parts few ∙ ap by_length short ∙ ap by_octets large

  pub goes_on : nat_lt MOST_FILE_PARTS (elements + elements_a_line kind) ≡ false → is_too_long octets line ≡ false → nat_lt MOST_FILE_OCTETS (octets + length line) ≡ false
      → fault_of_lines kind octets elements (line ∷ later) ≡ fault_of_lines kind (octets + length line) (elements + elements_a_line kind) later
  goes_on few short small = ap by_parts few ∙ ap by_length short ∙ ap by_octets small
