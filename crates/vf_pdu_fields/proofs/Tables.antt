-- The tags of each row rise, and each default is in range.
use Rattle.std.proofs.Common.{ℕ, ◌+◌, Bool, true, [], ◌∷◌}
use Rattle.std.specs.Prelude.{◌&&◌, nat_le, nat_lt}
use Rattle.vf_pdu_fields.specs.Meaning.{fits}
use Rattle.vf_pdu_fields.specs.Rows.{Range, Any, FromTo, Fadu, Simple, Integer, Boolean, Text, String, Controls, Oid, Date, Need, required, optional, default, Form, one, sequence, list, Row, end, field}

abbrev pub is_usual : Form → Need → Bool
is_usual form required = true
is_usual form optional = true
is_usual form (default content) = fits form content

-- its numbers are of 64 bits
abbrev pub is_short : Range → Bool
is_short Any = true
is_short (FromTo low high) = nat_lt high 9223372036854775808
is_short Fadu = true

abbrev pub is_simple : Simple → Bool
is_simple (Integer range) = is_short range
is_simple Boolean = true
is_simple Text = true
is_simple String = true
is_simple (Controls count) = true
is_simple Oid = true
is_simple Date = true

abbrev mutual
  pub is_form : Form → Bool
  is_form (one simple) = is_simple simple
  is_form (sequence row) = is_table 0 row
  is_form (list row) = is_table 0 row

  pub is_table : ℕ → Row → Bool
  is_table least end = true
  is_table least (field number form need row) = nat_le least number && (is_form form && (is_usual form need && is_table (number + 1) row))
