use Rattle.std.proofs.Common.{◌≡◌, ℕ, true, [], ◌∷◌, List, None, Some, sym, ap, subst, take, ◌∙◌}
use Rattle.vf_elements.specs.declared.message.Said.TheVariants as answers
use Rattle.vf_filestore.specs.Aborts.{Setting}
use Rattle.vf_filestore.specs.State.{identity_in, identity_of}
use Rattle.vf_base.specs.declared.element.Element.{Element}
use Rattle.vf_locks.specs.Holders.{passed}
use Rattle.vf_locks.specs.Table.{IsWith, held}
use Rattle.vf_locks.specs.declared.holder.Holder.{Holder}
use Rattle.vf_locks.specs.declared.holder.Holder.TheVariants.{Party}
use Rattle.vf_party_steps.specs.Leaving.{may_pass}
use Rattle.vf_party_steps.specs.Recoveries.{IsFilled, cut_to, docket_row, writing_by}
use Rattle.vf_party_steps.specs.declared.step.Step.{Step}
use Rattle.vf_party_steps.specs.declared.writing.Writing.{Writing}
use Rattle.vf_party_steps.proofs.FoundDockets.{row_found}
use Rattle.vf_party_steps.proofs.TakenWrite.{takes_write}
use Rattle.vf_party_steps.proofs.states.Associated.take_up_write.Goals as goal
use Rattle.vf_pdu.specs.declared.pdu.Pdu.TheVariants.{RecoverResponse}

pub returns-clause-consequence : goal.returns-clause-consequence
returns-clause-consequence c = λ state party stands kept represents taken asked free.
    let setting : Setting = record { moment = c.args.moment; serial = c.args.serial; token = c.args.token; sync = c.args.sync } in
    let row = c.args.docket.now in
    let old = c.args.locks.now in
    let tables = c.args.tables.now in
    let name = sym (ap identity_in represents.stands) in
    let made : Writing = c.in_ok-state.state in
    let received = made.received in
    let step : Step Writing = record { state = made; said = c.in-Ok-resume.done.0; changes = c.in-Ok-resume.done.1 } in
    let is = row_found tables old state party stands (identity_of party) c.args.activity row (subst (λ (n : List ℕ). docket_row tables old n c.args.activity ≡ Some row) name asked) in
    takes_write tables old state party c.args.self stands represents setting c.args.activity c.args.number c.args.point row is kept c.args.operation c.requires received
    (subst (λ (pieces : List (List Element)). IsFilled received pieces []) (λ i. take (c.min-check.ensures i) row.staged) c.in_ok-state.ensures.filled)
    free step c.take_hold.new.locks taken
    (c.in_ok-state.ensures.made ∙ (λ i. writing_by c.args.self row.regime c.args.operation (c.min-check.ensures i) received))
    (c.in-Ok-resume.ensures.said ∙ (λ i. answers.Pdu (RecoverResponse None (Some row.regime.number) (c.min-check.ensures i) true 0) ∷ []))
    (c.in-Ok-resume.ensures.changes ∙ ap (cut_to row.regime) c.min-check.ensures)
    (subst (λ (holder : Holder). may_pass old row.regime.file holder (Party c.args.self.association.link) ≡ true
    → IsWith row.regime.file (passed holder (Party c.args.self.association.link) (held row.regime.file old)) old c.take_hold.new.locks) c.in-Ok.ensures c.take_hold.ensures)
