use Rattle.std.proofs.Common.{◌≡◌, ℕ, true, Option, refl, ap, sym, subst, ◌∙◌, List, [], ◌∷◌, ◌++◌, None}
use Rattle.vf_elements.specs.Stages.{takes}
use Rattle.vf_elements.specs.declared.message.Message.TheVariants as messages
use Rattle.vf_elements.specs.declared.message.Said.{Said}
use Rattle.vf_elements.specs.declared.message.Said.TheVariants as answers
use Rattle.vf_filestore.specs.Aborts.{Setting}
use Rattle.vf_filestore.specs.History.{Nothing, Selection}
use Rattle.vf_filestore.specs.HoldersAfter.{IsDeselected, concluded_by}
use Rattle.vf_filestore.proofs.HeldCalls.{calls_follow}
use Rattle.vf_filestore.specs.Stage.{regime_stage}
use Rattle.vf_filestore.specs.State.{activity_in}
use Rattle.vf_locks.specs.Holders.{others}
use Rattle.vf_locks.specs.Table.{IsWith, held}
use Rattle.vf_locks.specs.declared.holder.Holder.TheVariants.{Party}
use Rattle.vf_pdu.specs.declared.pdu.Pdu.{Pdu}
use Rattle.vf_pdu.specs.declared.pdu.Pdu.TheVariants.{DeselectRequest, DeselectResponse}
use Rattle.vf_party_steps.specs.declared.states.Associated.{Associated}
use Rattle.vf_party_steps.specs.declared.step.Step.{Step}
use Rattle.vf_party_steps.specs.Represents.{IsAssociated}
use Rattle.vf_party_steps.specs.Steps.{Concludes, history_by}
use Rattle.vf_party_steps.proofs.Concluding.{quiet_step}
use Rattle.vf_party_steps.proofs.Kept.{none_left, tables_stay, with_history}
use Rattle.vf_party_steps.proofs.states.Selected.deselect.Goals as goal

pub returns-clause-consequence : goal.returns-clause-consequence
returns-clause-consequence c = λ state party stands represents.
    let setting : Setting = record { moment = c.args.moment; serial = c.args.serial; token = c.args.token; sync = c.args.sync } in
    let said : c.push_reserved.new.self.items ≡ answers.Pdu (DeselectResponse None) ∷ [] = c.push_reserved.ensures.items ∙ ap (λ (all : List Said). all ++ (answers.Pdu (DeselectResponse None) ∷ [])) c.in-Ok.ensures.items in
    let step : Step Associated = record { state = c.args.self.associated; said = c.push_reserved.new.self; changes = c.new.result } in
    let message = messages.Pdu DeselectRequest in
    let next = history_by state party setting message Nothing in
    let after = concluded_by state party setting message Nothing in
    let tables = c.args.tables.now in
    let file = c.args.self.selection.file in
    let released : IsWith file (others (Party party.link) (held file c.args.locks.now)) c.args.locks.now c.release.new.self =
    subst (λ (link : ℕ). IsWith file (others (Party link) (held file c.args.locks.now)) c.args.locks.now c.release.new.self) (sym represents.linked) c.release.ensures in
    subst (λ (r : Pdu). takes (regime_stage party.history) (messages.Pdu r) ≡ true → Concludes IsAssociated tables c.release.new.self state party setting (messages.Pdu r) step) (sym c.in-DeselectRequest.is)
    (λ taken. quiet_step IsAssociated tables c.args.locks.now c.release.new.self state party setting message Nothing step stands taken
    refl said represents.moved
    (record {
      linked = represents.linked;
      stands = represents.associated;
      selected = refl;
      opened = represents.opened;
      moved = represents.moved;
    })
    c.new.ensures
    (tables_stay state party next stands.stands (none_left (with_history next party) (ap activity_in represents.opened) ∙ sym (none_left party (ap activity_in represents.opened))))
    (λ after_held. calls_follow c.args.locks.now c.release.new.self state after file (others (Party party.link)) stands.held released
    (subst (λ (one : Option Selection). IsDeselected party.link one state after) represents.stands after_held)))
