use Rattle.std.proofs.Common.{◌≡◌, drop, map}
use Rattle.vf_upper_grammar.specs.Forms.{is_known}
use Rattle.vf_upper_grammar.specs.Rows.{field_of}
use Rattle.vf_upper_grammar.proofs.fields.is_known.Given as goal

abbrev pub invariant-loop-field : goal.invariant-loop-field
invariant-loop-field l = is_known (map (field_of l.fn.carrier) l.fn.fields) l.first ≡ is_known (map (field_of l.fn.carrier) (drop l.field-index l.fn.fields)) l.first
