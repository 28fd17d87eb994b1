-- The last fields of attributes.
use Rattle.std.specs.Prelude.{ℕ, ◌+◌, [], ◌∷◌}
use Rattle.vf_pdu_fields.specs.Rows.{Any, Integer, Row, a, field, one, optional, row}
use Rattle.vf_pdu_parameters.specs.Parameters.{attribute_stamps, contents, grants, stamp}

abbrev pub size_field : Row
size_field = row (a 8 (one (Integer Any)) optional ∷ [])

-- the stamps of this number and the next one, and what follows
abbrev pub two_stamps : ℕ → Row → Row
two_stamps number row = field number stamp optional (field (number + 1) stamp optional row)

abbrev pub contents_and_terms : Row
contents_and_terms = field 2 contents optional (field 3 grants optional attribute_stamps)
