use Rattle.std.proofs.Common.{◌≡◌, ◌∙◌, [], None, ap, length}
use Rattle.vf_disk.specs.Memory.{Memory, state as state_of}
use Rattle.vf_disk.specs.Plans.{planned}
use Rattle.vf_journal.specs.Layout.{new_journal}
use Rattle.vf_store.specs.StoreState.{IsRepresented}
use Rattle.vf_tables.specs.Entries.{no_tables}
use Rattle.vf_cli_replay.proofs.Delivering.{if_ok}
use Rattle.vf_cli_replay.proofs.Firsts.{begins_new, made_with}
use Rattle.vf_cli_replay.proofs.Plans.{HasNone}
use Rattle.vf_cli_replay.specs.Disks.{may_leave, shown}
use Rattle.vf_cli_replay.specs.Standing.{IsNew}
use Rattle.vf_cli_replay.proofs.ends.new_store.Goals as goal

pub create-requires : goal.create-requires
create-requires c = ap (λ (d : Memory). length (state_of d).shown) c.in_ok-disk.ensures.disk

pub returns-in-Ok : goal.returns-in-Ok
returns-in-Ok c =
    let disk = c.create.new.disk in
    let shows = c.in-Ok.ensures.made [] (ap shown c.in_ok-disk.ensures.disk) in
    let plan : HasNone disk.plan None =
    made_with c.in_ok-disk.disk.plan disk.plan (ap (λ (d : Memory). d.plan) c.in_ok-disk.ensures.disk ∙ ap planned c.new.ensures.items) c.in-Ok.ensures.calls in
    if_ok c.opened.result _ (λ store. (store.tables ≡ no_tables) × IsRepresented shown may_leave store × IsNew store)
    (λ store has. (has.0, has.1, begins_new disk store shows plan has.2)) (c.opened.ensures new_journal no_tables shows c.in-Ok.ensures.represents)
