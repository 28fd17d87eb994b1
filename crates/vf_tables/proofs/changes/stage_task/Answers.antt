use Rattle.vf_tables.specs.Entries.{is_task}
use Rattle.vf_tables.proofs.Placed.{changed_in_place, unchanged_in}
use Rattle.std.proofs.Common.{refl, ◌∙◌}
use Rattle.vf_tables.specs.Changes.{with_task_piece}
use Rattle.vf_tables.proofs.changes.stage_task.Goals as goal

pub returns-in_default : goal.returns-in_default
returns-in_default c = unchanged_in (is_task c.args.activity) (with_task_piece c.args.elements.now) c.args.tasks.now c.as_slice.result.now c.place_of_task.result c.place_of_task.ensures c.as_slice.ensures c.in_default.is

pub returns : goal.returns
returns c =
    changed_in_place (is_task c.args.activity) (with_task_piece c.args.elements.now) c.tasks.inside.items.items c.args.tasks.now c.as_slice.result.now c.place_of_task.result c.in-Some.place c.add_task_piece.new.task c.index_mut.result.now
    c.place_of_task.ensures c.as_slice.ensures c.tasks.view_is c.in-Some.is c.index_mut.ensures.value (c.in_ok-add_task_piece.ensures ∙ rw c.in_ok-elements.ensures refl)
