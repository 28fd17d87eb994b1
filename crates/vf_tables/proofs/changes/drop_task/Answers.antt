use Rattle.std.proofs.Common.{ap, ◌∙◌}
use Rattle.std.specs.List.{position}
use Rattle.vf_tables.specs.Entries.{is_task}
use Rattle.vf_tables.proofs.Placed.{dropped_by_place, place_within}
use Rattle.vf_tables.proofs.changes.drop_task.Goals as goal

pub drop_at-requires : goal.drop_at-requires
drop_at-requires c = place_within (is_task c.args.activity) c.args.tasks.now c.place_of_task-place.result (c.place_of_task-place.ensures ∙ ap (position (is_task c.args.activity)) c.as_slice.ensures)

pub returns : goal.returns
returns c = c.drop_at.ensures ∙ dropped_by_place (is_task c.args.activity) c.args.tasks.now c.place_of_task-place.result (c.place_of_task-place.ensures ∙ ap (position (is_task c.args.activity)) c.as_slice.ensures)
