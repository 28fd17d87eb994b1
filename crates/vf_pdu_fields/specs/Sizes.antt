-- How many octets the value of a field in range has at most, by its form.
use Rattle.std.specs.Prelude.{ℕ, ◌+◌, ◌*◌}
use Rattle.vf_pdu_fields.specs.declared.limits.TheConstants.{MOST_ITEMS, MOST_TEXT_OCTETS}
use Rattle.vf_pdu_fields.specs.Rows.{Simple, Integer, Boolean, Text, String, Controls, Oid, Date, Form, one, sequence, list, Row, end, field}

-- the contents octets
abbrev pub most_of : Simple → ℕ
most_of (Integer range) = 8
most_of Boolean = 1
most_of Text = MOST_TEXT_OCTETS
most_of String = MOST_TEXT_OCTETS
most_of (Controls count) = count
most_of Oid = 80
most_of Date = 15

abbrev mutual
  -- the most octets of a value of this form, with seven for the tag and the length
  pub most : Form → ℕ
  most (one simple) = most_of simple + 7
  most (sequence row) = most_in row + 7
  most (list row) = MOST_ITEMS * (most_in row + 7) + 7

  pub most_in : Row → ℕ
  most_in end = 0
  most_in (field number form need row) = most form + most_in row
