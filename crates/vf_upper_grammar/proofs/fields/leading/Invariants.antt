use Rattle.std.proofs.Common.{◌≡◌, length, map}
use Rattle.vf_upper_grammar.specs.Forms.{leading}
use Rattle.vf_upper_grammar.specs.Parts.{parts_of}
use Rattle.vf_upper_grammar.specs.Rows.{field_of}
use Rattle.vf_upper_grammar.specs.Views.{text_of}
use Rattle.vf_upper_grammar.proofs.fields.leading.Given as goal

abbrev pub invariant-loop-part : goal.invariant-loop-part
invariant-loop-part l = leading (map (field_of l.fn.carrier) l.fields) (parts_of (text_of l.fn.text)) ≡ leading (map (field_of l.fn.carrier) l.fields) (parts_of (text_of l.rest))

abbrev pub decreases-loop-part : goal.decreases-loop-part
decreases-loop-part l = length l.rest.octets.now
