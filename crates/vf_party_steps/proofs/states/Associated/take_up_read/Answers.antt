use Rattle.std.proofs.Common.{◌≡◌, ℕ, true, [], ◌∷◌, List, None, Option, Some, refl, sym, ap, subst, ◌∙◌}
use Rattle.vf_attr.specs.declared.file.File.{File}
use Rattle.vf_elements.specs.declared.message.Said.TheVariants as answers
use Rattle.vf_filestore.specs.Aborts.{Setting}
use Rattle.vf_filestore.specs.State.{identity_in, identity_of}
use Rattle.vf_locks.specs.Holders.{passed}
use Rattle.vf_locks.specs.Table.{IsWith, held}
use Rattle.vf_locks.specs.declared.holder.Holder.{Holder}
use Rattle.vf_locks.specs.declared.holder.Holder.TheVariants.{Party}
use Rattle.vf_party_steps.specs.Leaving.{may_pass}
use Rattle.vf_party_steps.specs.Recoveries.{docket_row, put_at, read_by}
use Rattle.vf_party_steps.specs.declared.reading.Reading.{Reading}
use Rattle.vf_party_steps.specs.declared.step.Step.{Step}
use Rattle.vf_party_steps.proofs.FoundDockets.{row_found}
use Rattle.vf_party_steps.proofs.TakenRead.{takes_read}
use Rattle.vf_party_steps.proofs.states.Associated.take_up_read.Goals as goal
use Rattle.vf_pdu.specs.declared.pdu.Pdu.TheVariants.{RecoverResponse}

pub returns-clause-consequence : goal.returns-clause-consequence
returns-clause-consequence c = λ state party stands kept represents taken asked free.
    let setting : Setting = record { moment = c.args.moment; serial = c.args.serial; token = c.args.token; sync = c.args.sync } in
    let row = c.args.docket.now in
    let old = c.args.locks.now in
    let tables = c.args.tables.now in
    let name = sym (ap identity_in represents.stands) in
    let check = c.min-check.result in
    let again = c.in-Ok-resume.ensures.says in
    let after = c.in-Ok-resume.resumed.due in
    let shown = c.in-Ok-resume.resumed.shown in
    let made : Reading = record {
      opened = c.in_ok-opened.opened;
      fadu = row.regime.fadu;
      context = c.args.context;
      given = c.in-Ok-read_by.given;
      check = after.check;
      point = check;
      start = check;
      shown = shown;
    } in
    let step : Step Reading = record { state = made; said = after.said; changes = c.in-Ok-resume.resumed.changes } in
    let is = row_found tables old state party stands (identity_of party) c.args.activity row (subst (λ (n : List ℕ). docket_row tables old n c.args.activity ≡ Some row) name asked) in
    takes_read tables old state party c.args.self stands represents setting c.args.activity c.args.number c.args.point row is kept c.args.context c.requires.directed free
    c.in-Ok-read_by.given (c.in-Ok-read_by.ensures ∙ ap (λ (file : Option File). read_by file row.regime c.args.context) c.selected-file.ensures.found)
    again.first after shown (again.checked ∙ c.min-check.ensures) again.unanswered again.numbered again.says
    step c.take_hold.new.locks c.requires.may_send taken
    (λ i. record {
      opened = c.in_ok-opened.ensures.ok i;
      fadu = row.regime.fadu;
      context = c.args.context;
      given = c.in-Ok-read_by.given;
      check = after.check;
      point = c.min-check.ensures i;
      start = c.min-check.ensures i;
      shown = shown;
    })
    (again.said ∙ (λ i. answers.Pdu (RecoverResponse None (Some row.regime.number) (c.min-check.ensures i) true 0) ∷ []))
    refl
    (c.in-Ok-resume.ensures.changes ∙ ap (put_at row.regime) c.min-check.ensures)
    (subst (λ (holder : Holder). may_pass old row.regime.file holder (Party c.args.self.association.link) ≡ true
    → IsWith row.regime.file (passed holder (Party c.args.self.association.link) (held row.regime.file old)) old c.take_hold.new.locks) c.in-Ok.ensures c.take_hold.ensures)
