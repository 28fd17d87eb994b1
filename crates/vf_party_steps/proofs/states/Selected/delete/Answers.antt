use Rattle.std.proofs.Common.{◌≡◌, ℕ, true, ◌∷◌, Option, refl, ap, sym, subst, ◌∙◌}
use Rattle.std.specs.Prelude.{IfSome}
use Rattle.vf_elements.specs.Stages.{takes}
use Rattle.vf_elements.specs.declared.message.Message.TheVariants as messages
use Rattle.vf_filestore.specs.Aborts.{Setting}
use Rattle.vf_filestore.specs.Changes.{file_changes}
use Rattle.vf_filestore.specs.Decision.{granted_unless}
use Rattle.vf_filestore.specs.Diagnostics.{Row, first_row}
use Rattle.vf_filestore.specs.Effects.{without_file}
use Rattle.vf_filestore.specs.History.{Nothing, Selection}
use Rattle.vf_filestore.specs.HoldersAfter.{IsDeselected, concluded_by}
use Rattle.vf_filestore.specs.Selecting.{delete_rows}
use Rattle.vf_filestore.specs.Sound.{IsThere}
use Rattle.vf_filestore.specs.Stage.{regime_stage}
use Rattle.vf_filestore.specs.State.{file_in, name_in, units_in, activity_in}
use Rattle.vf_filestore.specs.Units.{limited_management, unit_row}
use Rattle.vf_filestore.proofs.Decisions.{party_sound}
use Rattle.vf_filestore.proofs.HeldCalls.{calls_follow}
use Rattle.vf_locks.specs.Holders.{others}
use Rattle.vf_locks.specs.Table.{IsWith, held}
use Rattle.vf_locks.specs.declared.holder.Holder.TheVariants.{Party}
use Rattle.vf_pdu.specs.declared.pdu.Pdu.{Pdu}
use Rattle.vf_pdu.specs.declared.pdu.Pdu.TheVariants.{DeleteRequest}
use Rattle.vf_party_steps.specs.declared.states.Associated.{Associated}
use Rattle.vf_party_steps.specs.declared.step.Step.{Step}
use Rattle.vf_party_steps.specs.Represents.{IsAssociated}
use Rattle.vf_party_steps.specs.Steps.{Concludes, history_by}
use Rattle.vf_party_steps.proofs.Concluding.{filed_step, found_is}
use Rattle.vf_party_steps.proofs.FileChanges.{changes_dropped}
use Rattle.vf_party_steps.proofs.Kept.{none_left, tables_filed, with_history}
use Rattle.vf_party_steps.proofs.states.Selected.delete.Goals as goal

pub returns-clause-consequence : goal.returns-clause-consequence
returns-clause-consequence c = λ state party stands represents.
    let setting : Setting = record { moment = c.args.moment; serial = c.args.serial; token = c.args.token; sync = c.args.sync } in
    let step : Step Associated = record { state = c.args.self.associated; said = c.in-Ok.done.0; changes = c.in-Ok.done.1 } in
    let message = messages.Pdu DeleteRequest in
    let next = history_by state party setting message Nothing in
    let after = concluded_by state party setting message Nothing in
    let tables = c.args.tables.now in
    let old = c.args.locks.now in
    let new = c.release.new.self in
    let file = c.args.self.selection.file in
    let left = without_file (name_in party.history) state.files in
    let there : IsThere state.files (record { file = file; requested = c.args.self.selection.requested; controls = c.args.self.selection.controls; password = c.args.self.selection.password })
    = subst (λ (one : Option Selection). IfSome one (IsThere state.files)) represents.stands (party_sound state party.link party stands.sound stands.stands).sound.there in
    let released : IsWith file (others (Party party.link) (held file old)) old new =
    subst (λ (link : ℕ). IsWith file (others (Party link) (held file old)) old new) (sym represents.linked) c.release.ensures in
    subst (λ (r : Pdu). takes (regime_stage party.history) (messages.Pdu r) ≡ true → Concludes IsAssociated tables new state party setting (messages.Pdu r) step) (sym c.in-DeleteRequest.is)
    (λ taken. filed_step IsAssociated tables old new state party setting message Nothing left step stands taken
    (ap (λ (row : Row). granted_unless row Nothing)
    ((λ i. first_row (unit_row (units_in (represents.associated i)) limited_management ∷ delete_rows (found_is tables old state party stands i) (represents.linked i) (represents.stands i))) ∙ sym c.in_default-refused_delete.ensures))
    c.in-Ok.ensures.said represents.moved
    (record {
      linked = represents.linked;
      stands = represents.associated;
      selected = refl;
      opened = represents.opened;
      moved = represents.moved;
    })
    (c.in-Ok.ensures.changes ∙ sym (changes_dropped file state.files stands.sound.filed there)
    ∙ (λ i. file_changes (stands.kept i).files (without_file (file_in (sym represents.stands i)) state.files)))
    (tables_filed state party next left stands.stands (none_left (with_history next party) (ap activity_in represents.opened) ∙ sym (none_left party (ap activity_in represents.opened))))
    (λ after_held. calls_follow old new state after file (others (Party party.link)) stands.held released
    (subst (λ (one : Option Selection). IsDeselected party.link one state after) represents.stands after_held)))
