use Rattle.std.proofs.Common.{◌≡◌, ◌≤◌, length, map}
use Rattle.vf_upper_grammar.specs.Forms.{due}
use Rattle.vf_upper_grammar.specs.Rows.{field_of}
use Rattle.vf_upper_grammar.specs.WalkViews.{most}
use Rattle.vf_upper_grammar.proofs.fields.due.Given as goal

abbrev pub invariant-loop-field : goal.invariant-loop-field
invariant-loop-field l = (due l.first (map (field_of l.fn.carrier) l.fn.fields) ≡ due l.first (map (field_of l.fn.carrier) l.rest)) × (most l.rest ≤ most l.fn.fields)

abbrev pub decreases-loop-field : goal.decreases-loop-field
decreases-loop-field l = length l.rest
