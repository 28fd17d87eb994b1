use Rattle.std.proofs.Common.{◌≡◌, drop, map}
use Rattle.std.specs.List.{list_any}
use Rattle.vf_upper_grammar.specs.Rows.{field_of}
use Rattle.vf_upper_grammar.proofs.fields.is_one_required.Given as goal

abbrev pub invariant-loop-field : goal.invariant-loop-field
invariant-loop-field l = list_any (λ field. field.is_required) (map (field_of l.fn.carrier) l.fn.fields) ≡ list_any (λ field. field.is_required) (map (field_of l.fn.carrier) (drop l.field-index l.fn.fields))
