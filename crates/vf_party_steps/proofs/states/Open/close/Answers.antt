use Rattle.std.proofs.Common.{◌≡◌, ℕ, true, Option, map, refl, ap, sym, subst, ◌∙◌}
use Rattle.vf_base.specs.declared.action.Controls.{Controls}
use Rattle.vf_elements.specs.Stages.{takes}
use Rattle.vf_elements.specs.declared.message.Message.TheVariants as messages
use Rattle.vf_filestore.specs.Aborts.{Setting}
use Rattle.vf_filestore.specs.Conclusion.{entry_of}
use Rattle.vf_filestore.specs.Controls.{joined, not_opened}
use Rattle.vf_filestore.specs.History.{Entry, Nothing, Selection}
use Rattle.vf_filestore.specs.HoldersAfter.{IsOpened, concluded_by}
use Rattle.vf_filestore.specs.Stage.{regime_stage}
use Rattle.vf_filestore.proofs.Decisions.{party_sound}
use Rattle.vf_filestore.proofs.HeldCalls.{calls_follow}
use Rattle.vf_locks.specs.Holders.{granted}
use Rattle.vf_locks.specs.Table.{IsWith, held}
use Rattle.vf_locks.specs.declared.holder.Holder.TheVariants.{Party}
use Rattle.vf_pdu.specs.declared.pdu.Pdu.{Pdu}
use Rattle.vf_pdu.specs.declared.pdu.Pdu.TheVariants.{CloseRequest}
use Rattle.vf_party_steps.specs.declared.states.Selected.{Selected}
use Rattle.vf_party_steps.specs.declared.step.Step.{Step}
use Rattle.vf_party_steps.specs.Dockets.{fields_of, no_transfer}
use Rattle.vf_party_steps.specs.Represents.{IsSelected}
use Rattle.vf_party_steps.specs.Steps.{Concludes, history_by}
use Rattle.vf_party_steps.proofs.Closes.{docket_closed}
use Rattle.vf_party_steps.proofs.Concluding.{held_then}
use Rattle.vf_party_steps.proofs.DocketChanges.{drop, drop_with}
use Rattle.vf_party_steps.proofs.Kept.{nothing_due}
use Rattle.vf_party_steps.proofs.Rows.{rows_open}
use Rattle.vf_party_steps.proofs.states.Open.close.Goals as goal

pub returns-clause-consequence : goal.returns-clause-consequence
returns-clause-consequence c = λ state party stands represents.
    let setting : Setting = record { moment = c.args.moment; serial = c.args.serial; token = c.args.token; sync = c.args.sync } in
    let message = messages.Pdu CloseRequest in
    let step : Step Selected = record { state = c.args.self.selected; said = c.in-Ok.done.0; changes = c.in-Ok.done.1 } in
    let entry : Entry = entry_of state party setting message Nothing in
    let next = history_by state party setting message Nothing in
    let after = concluded_by state party setting message Nothing in
    let tables = c.args.tables.now in
    let old = c.args.locks.now in
    let new = c.ended.new.locks in
    let regimes = c.args.self in
    let selection = regimes.selected.selection in
    let is = represents.opened in
    let controls : Controls = joined not_opened selection.controls in
    let with_controls : IsWith selection.file (granted (Party party.link) controls (held selection.file old)) old new =
    subst (λ (link : ℕ). IsWith selection.file (granted (Party link) controls (held selection.file old)) old new) (sym is.linked) c.in-Ok.ensures.held in
    subst (λ (r : Pdu). takes (regime_stage party.history) (messages.Pdu r) ≡ true → Concludes IsSelected tables new state party setting (messages.Pdu r) step) (sym c.in-CloseRequest.is)
    (λ taken. record {
      given = Nothing;
      granted = refl;
      said = c.in-Ok.ensures.said ∙ nothing_due party.history setting.serial entry represents.moved;
      next = record { linked = is.linked; associated = is.associated; stands = is.selected; opened = refl; moved = represents.moved };
      changes = c.in-Ok.ensures.changes ∙ sym (docket_closed tables state party next stands.sound stands.kept stands.stands refl
          ∙ ap (map drop) (rows_open regimes party (party_sound state party.link party stands.sound stands.stands).sound.nested represents)
          ∙ drop_with (fields_of regimes no_transfer));
      held = calls_follow old new state after selection.file (granted (Party party.link) controls) stands.held with_controls
          (subst (λ (one : Option Selection). IsOpened party.link not_opened one state after) is.selected
          (held_then IsSelected tables old new state party setting message Nothing stands taken refl));
    })
