use Rattle.std.proofs.Common.{◌≡◌, ◌+◌, ◌*◌, ◌≤◌, length}
use Rattle.vf_upper_grammar.specs.Forms.{each, in_order}
use Rattle.vf_upper_grammar.specs.HeldViews.{IsIn}
use Rattle.vf_upper_grammar.specs.MarkViews.{marks_of}
use Rattle.vf_upper_grammar.specs.Parts.{parts_of}
use Rattle.vf_upper_grammar.specs.Rows.{values_rank, listing_rank, rank, read_of, tags_of, type_rank}
use Rattle.vf_upper_grammar.specs.Views.{text_of}
use Rattle.vf_upper_grammar.specs.WalkViews.{fields_of, most}
use Rattle.vf_upper_grammar.proofs.walk.+walk.Given as goal

abbrev pub decreases-read_part : goal.decreases-read_part
decreases-read_part l = 8 * rank l.form + 7

abbrev pub decreases-sequence : goal.decreases-sequence
decreases-sequence l = 8 * type_rank l.name + 6

abbrev pub decreases-set : goal.decreases-set
decreases-set l = 70

abbrev pub decreases-list : goal.decreases-list
decreases-list l = 8 * listing_rank l.listing + 6

abbrev pub decreases-each : goal.decreases-each
decreases-each l = 8 * (rank l.element.form + 1)

abbrev pub decreases-outcome : goal.decreases-outcome
decreases-outcome l = 22

abbrev pub decreases-carried : goal.decreases-carried
decreases-carried l = 8 * values_rank l.values + 6

abbrev pub decreases-within : goal.decreases-within
decreases-within l = 8 * values_rank l.values + 5

abbrev pub decreases-typed : goal.decreases-typed
decreases-typed l = 8 * (rank l.field.form + 1) + 2

abbrev pub decreases-in_order : goal.decreases-in_order
decreases-in_order l = 8 * most l.fields.now + 1

abbrev pub decreases-step : goal.decreases-step
decreases-step l = 8 * most l.left.now

abbrev pub invariant-in_order-loop-part : goal.invariant-in_order-loop-part
invariant-in_order-loop-part l =
    (in_order (parts_of (text_of l.fn.text)) l.skips (fields_of l.carrier l.fn.fields) (fields_of l.carrier l.fn.fields) (marks_of l.fn.found)
    ≡ in_order (parts_of (text_of l.rest)) l.skips (fields_of l.carrier l.fn.fields) (fields_of l.carrier l.left) (marks_of l.found))
    × (most l.left ≤ most l.fn.fields) × IsIn l.all (text_of l.rest)

abbrev pub decreases-in_order-loop-part : goal.decreases-in_order-loop-part
decreases-in_order-loop-part l = length l.rest.octets.now

abbrev pub invariant-each-loop-part : goal.invariant-each-loop-part
invariant-each-loop-part l =
    (each (parts_of (text_of l.fn.text)) (tags_of l.element) (read_of l.carrier l.element.form) (marks_of l.fn.found)
    ≡ each (parts_of (text_of l.rest)) (tags_of l.element) (read_of l.carrier l.element.form) (marks_of l.found))
    × IsIn l.all (text_of l.rest)

abbrev pub decreases-each-loop-part : goal.decreases-each-loop-part
decreases-each-loop-part l = length l.rest.octets.now
