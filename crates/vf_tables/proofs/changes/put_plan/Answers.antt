use Rattle.std.proofs.Common.{List, refl, ap, ◌∙◌}
use Rattle.vf_base.specs.declared.element.Element.{Element}
use Rattle.vf_tables.specs.declared.task.Task.{Task}
use Rattle.vf_tables.specs.Entries.{is_task}
use Rattle.vf_tables.specs.Changes.{staged_for}
use Rattle.vf_tables.proofs.Placed.{put_in_place, put_last_in}
use Rattle.vf_tables.proofs.changes.put_plan.Goals as goal

pub returns-in_default : goal.returns-in_default
returns-in_default c =
    let entry : Task = record { plan = c.in_ok-made.made; staged = c.new.result } in
    put_last_in (is_task c.args.plan.now.activity) (λ (pieces : List (List Element)). record { plan = c.args.plan.now; staged = pieces }) staged_for c.args.tasks.now c.as_slice.result.now c.push.new.self c.place_of_task.result entry c.place_of_task.ensures c.as_slice.ensures c.in_default.is c.in_ok-push.ensures.ok
    (rw (c.in_ok-made.ensures, c.new.ensures) refl)

pub returns : goal.returns
returns c =
    put_in_place (is_task c.args.plan.now.activity) (λ (pieces : List (List Element)). record { plan = c.args.plan.now; staged = pieces }) staged_for (λ (entry : Task). entry.staged) c.tasks.inside.items.items c.args.tasks.now c.as_slice.result.now c.place_of_task.result c.in-Some.place c.set_plan.new.task c.index_mut.result.now
    c.place_of_task.ensures c.as_slice.ensures c.tasks.view_is c.in-Some.is c.index_mut.ensures.value (c.set_plan.ensures ∙ rw c.in_ok-made.ensures refl) (λ entry. refl)
