use Rattle.std.proofs.Common.{◌≡◌, ℕ, true, List, [], ◌∷◌, Option, None, Some, map, option_map, refl, ap, sym, subst, ◌∙◌}
use Rattle.std.specs.List.{AllByRecursion}
use Rattle.vf_base.specs.declared.action.Actions.{Actions}
use Rattle.vf_base.specs.declared.action.Controls.{Controls}
use Rattle.vf_elements.specs.Stages.{takes}
use Rattle.vf_elements.specs.declared.message.Message.TheVariants as messages
use Rattle.vf_elements.specs.declared.message.Said.TheVariants as answers
use Rattle.vf_filestore.specs.Aborts.{Setting}
use Rattle.vf_filestore.specs.Conclusion.{entry_of}
use Rattle.vf_filestore.specs.Controls.{content_controls, joined}
use Rattle.vf_filestore.specs.Decision.{Grants, Refuses, granted_unless, message_decision}
use Rattle.vf_filestore.specs.Diagnostics.{Row}
use Rattle.vf_filestore.specs.Files.{file_named}
use Rattle.vf_filestore.specs.History.{Entry, Nothing, Selection}
use Rattle.vf_filestore.specs.HoldersAfter.{IsOpened, concluded_by}
use Rattle.vf_filestore.specs.Replies.{contents_of}
use Rattle.vf_filestore.specs.Stage.{regime_stage}
use Rattle.vf_filestore.specs.State.{file_in}
use Rattle.vf_filestore.proofs.HeldCalls.{calls_follow}
use Rattle.vf_locks.specs.Holders.{granted}
use Rattle.vf_locks.specs.Table.{IsWith, held}
use Rattle.vf_locks.specs.declared.holder.Holder.TheVariants.{Party}
use Rattle.vf_pdu.specs.declared.pdu.Pdu.{Pdu}
use Rattle.vf_pdu.specs.declared.pdu.Pdu.TheVariants.{OpenRequest, OpenResponse}
use Rattle.vf_pdu_fields.specs.declared.controls.ContentControls.{ContentControls}
use Rattle.vf_regime_refusals.specs.declared.opening.Opening.{Opening}
use Rattle.vf_party_steps.specs.declared.states.Open.{Open}
use Rattle.vf_party_steps.specs.declared.states.OpenRegime.{OpenRegime}
use Rattle.vf_party_steps.specs.declared.step.Step.{Step}
use Rattle.vf_party_steps.specs.Dockets.{fields_of, no_transfer}
use Rattle.vf_party_steps.specs.Represents.{IsOpen}
use Rattle.vf_party_steps.specs.Steps.{Concludes, history_by}
use Rattle.vf_party_steps.proofs.Concluding.{held_then, nested_then}
use Rattle.vf_party_steps.proofs.DocketChanges.{IsBare, bare_with, put, put_with}
use Rattle.vf_party_steps.proofs.Kept.{nothing_due, with_history}
use Rattle.vf_party_steps.proofs.OpenRows.{open_decided}
use Rattle.vf_party_steps.proofs.Opens.{docket_opened, sound_then}
use Rattle.vf_party_steps.proofs.Rows.{rows_open}
use Rattle.vf_tables.specs.declared.docket.Docket.{Docket}
use Rattle.vf_party_steps.proofs.states.Selected.open.Goals as goal

pub returns-in-Some-clause-consequence : goal.returns-in-Some-clause-consequence
returns-in-Some-clause-consequence c = λ state party stands represents taken.
    let asks = c.in-OpenRequest in
    let setting : Setting = record { moment = c.args.moment; serial = c.args.serial; token = c.args.token; sync = c.args.sync } in
    let opening : Opening = record { mode = record { value = asks.mode }; contents = asks.contents; controls = c.content_controls.result; activity = asks.activity } in (
      subst (λ (r : Pdu). message_decision state party setting (messages.Pdu r) ≡ Refuses c.in-Some.diagnostic) (sym asks.is)
          (open_decided c.args.tables.now c.args.locks.now state party setting stands c.args.self represents opening asks.controls c.content_controls.ensures
          ∙ ap (λ (row : Row). granted_unless row Nothing) (sym c.in-Ok.ensures ∙ c.in-Some.is)),
      λ file. refl,
    )

pub returns-clause-consequence : goal.returns-clause-consequence
returns-clause-consequence c = λ state party stands represents.
    let asks = c.in-OpenRequest in
    let setting : Setting = record { moment = c.args.moment; serial = c.args.serial; token = c.args.token; sync = c.args.sync } in
    let mode : Actions = record { value = asks.mode } in
    let request = OpenRequest asks.mode asks.contents asks.controls asks.activity in
    let message = messages.Pdu request in
    let own = c.content_controls.result in
    let opening : Opening = record { mode = mode; contents = asks.contents; controls = own; activity = asks.activity } in
    let regime : OpenRegime = record { mode = mode; controls = own; activity = asks.activity; position = 0; done = 0; last = 0 } in
    let selected = c.args.self in
    let selection = selected.selection in
    let made : Open = record { selected = selected; regime = regime } in
    let step : Step Open = record { state = made; said = c.in-Ok-begun.done.0; changes = c.in-Ok-begun.done.1 } in
    let entry : Entry = entry_of state party setting message Nothing in
    let next = history_by state party setting message Nothing in
    let after = concluded_by state party setting message Nothing in
    let tables = c.args.tables.now in
    let old = c.args.locks.now in
    let new = c.begun.new.locks in
    let contents : ContentControls = content_controls mode asks.controls in
    let controls : Controls = joined contents selection.controls in
    let with_controls : IsWith selection.file (granted (Party party.link) controls (held selection.file old)) old new =
    subst (λ (link : ℕ). IsWith selection.file (granted (Party link) controls (held selection.file old)) old new) (sym represents.linked)
    (subst (λ (opened : ContentControls). IsWith selection.file (granted (Party selected.associated.association.link) (joined opened selection.controls) (held selection.file old)) old new) c.content_controls.ensures c.in-Ok-begun.ensures.held) in
    let granting : message_decision state party setting message ≡ Grants Nothing
    = open_decided tables old state party setting stands selected represents opening asks.controls c.content_controls.ensures
    ∙ ap (λ (row : Row). granted_unless row Nothing) (sym c.in-Ok.ensures ∙ c.in_default-refused.is) in
    let opens : IsOpen made party.link next = record {
      opened = record {
        linked = represents.linked;
        associated = represents.associated;
        selected = represents.stands;
        number = state.concluded;
        stands = λ i. Some (record { number = state.concluded; mode = mode; controls = sym c.content_controls.ensures i; activity = asks.activity });
        placed = refl;
        counted = refl;
        ended = refl;
      };
      moved = represents.moved;
    } in
    subst (λ (r : Pdu). takes (regime_stage party.history) (messages.Pdu r) ≡ true → Concludes IsOpen tables new state party setting (messages.Pdu r) step) (sym asks.is)
    (λ taken.
    let nested = nested_then IsOpen tables old new state party setting message Nothing stands taken refl in
    let rows = rows_open made (with_history next party) nested opens in
    record {
      given = Nothing;
      granted = granting;
      said = c.in-Ok-begun.ensures.said
          ∙ (λ i. answers.Pdu (OpenResponse None (option_map contents_of (file_named (file_in (sym represents.stands i)) (sym stands.kept i).files))) ∷ [])
          ∙ nothing_due party.history setting.serial entry represents.moved;
      next = opens;
      changes = c.in-Ok-begun.ensures.changes ∙ sym (docket_opened tables state party next stands.sound (sound_then state party setting request Nothing stands.sound stands.stands taken granting tt)
          stands.kept stands.stands nested represents.opened refl (subst (λ (left : List Docket). AllByRecursion IsBare left) (sym rows) (bare_with (fields_of made no_transfer)))
          ∙ ap (map put) rows ∙ put_with (fields_of made no_transfer));
      held = calls_follow old new state after selection.file (granted (Party party.link) controls) stands.held with_controls
          (subst (λ (one : Option Selection). IsOpened party.link contents one state after) represents.stands
          (held_then IsOpen tables old new state party setting message Nothing stands taken granting));
    })
