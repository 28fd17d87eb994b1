use Rattle.std.proofs.Common.{◌≡◌, ℕ, true, Some, ap, sym, subst, ◌∙◌, List, [], ◌∷◌, ◌++◌, None}
use Rattle.vf_base.specs.declared.action.Controls.{Controls}
use Rattle.vf_elements.specs.Stages.{takes}
use Rattle.vf_elements.specs.declared.message.Message.TheVariants as messages
use Rattle.vf_elements.specs.declared.message.Said.{Said}
use Rattle.vf_elements.specs.declared.message.Said.TheVariants as answers
use Rattle.vf_filestore.specs.Aborts.{Setting}
use Rattle.vf_filestore.specs.Controls.{attribute_controls, joined, not_opened}
use Rattle.vf_filestore.specs.Decision.{granted_unless}
use Rattle.vf_filestore.specs.Diagnostics.{Row, first_row}
use Rattle.vf_filestore.specs.History.{Nothing}
use Rattle.vf_filestore.specs.HoldersAfter.{concluded_by}
use Rattle.vf_filestore.specs.Selecting.{select_rows}
use Rattle.vf_filestore.specs.Stage.{regime_stage}
use Rattle.vf_filestore.specs.State.{identity_in, activity_in}
use Rattle.vf_filestore.proofs.HeldCalls.{calls_follow}
use Rattle.vf_locks.specs.Holders.{granted}
use Rattle.vf_locks.specs.Table.{IsWith, held}
use Rattle.vf_locks.specs.declared.holder.Holder.TheVariants.{Party}
use Rattle.vf_pdu.specs.declared.pdu.Pdu.{Pdu}
use Rattle.vf_pdu.specs.declared.pdu.Pdu.TheVariants.{SelectRequest, SelectResponse}
use Rattle.vf_pdu_fields.specs.declared.controls.AttributeControls.{AttributeControls}
use Rattle.vf_regime_refusals.specs.Asked.{found_in, wanted_of}
use Rattle.vf_regime_refusals.specs.declared.association.Selection.{Selection}
use Rattle.vf_party_steps.specs.declared.states.Selected.{Selected}
use Rattle.vf_party_steps.specs.declared.step.Step.{Step}
use Rattle.vf_party_steps.specs.Represents.{IsSelected}
use Rattle.vf_party_steps.specs.Steps.{Concludes, history_by}
use Rattle.vf_party_steps.proofs.Concluding.{found_is, quiet_step}
use Rattle.vf_party_steps.proofs.Kept.{none_left, tables_stay, with_history}
use Rattle.vf_party_steps.proofs.Unopposed.{selection_unopposed}
use Rattle.vf_party_steps.proofs.states.Associated.select.Goals as goal

pub hold_selected-requires : goal.hold_selected-requires
hold_selected-requires c =
    let selection : Selection = record { file = c.in-SelectRequest.name; requested = c.in-SelectRequest.requested; controls = c.attribute_controls.result; password = c.in-SelectRequest.password } in
    selection_unopposed (found_in c.args.tables.now.files c.args.locks.now) (wanted_of c.args.self.association selection) c.in-SelectRequest.name (sym c.in-Ok.ensures ∙ c.in_default-refused.is)

pub returns-clause-consequence : goal.returns-clause-consequence
returns-clause-consequence c = λ state party stands represents.
    let setting : Setting = record { moment = c.args.moment; serial = c.args.serial; token = c.args.token; sync = c.args.sync } in
    let name = c.in-SelectRequest.name in
    let requested = c.in-SelectRequest.requested in
    let request = SelectRequest name requested c.in-SelectRequest.controls c.in-SelectRequest.password in
    let message = messages.Pdu request in
    let selection : Selection = record { file = name; requested = requested; controls = c.attribute_controls.result; password = c.in-SelectRequest.password } in
    let made : Selected = record { associated = c.args.self; selection = selection } in
    let said : c.push_reserved.new.self.items ≡ answers.Pdu (SelectResponse None) ∷ [] = c.push_reserved.ensures.items ∙ ap (λ (all : List Said). all ++ (answers.Pdu (SelectResponse None) ∷ [])) c.in-Ok-hold_selected.ensures.said in
    let step : Step Selected = record { state = made; said = c.push_reserved.new.self; changes = c.new.result } in
    let next = history_by state party setting message Nothing in
    let after = concluded_by state party setting message Nothing in
    let tables = c.args.tables.now in
    let old = c.args.locks.now in
    let new = c.hold_selected.new.locks in
    let controls : Controls = joined not_opened (attribute_controls requested c.in-SelectRequest.controls) in
    let with_controls : IsWith name (granted (Party party.link) controls (held name old)) old new =
    subst (λ (link : ℕ). IsWith name (granted (Party link) controls (held name old)) old new) (sym represents.linked)
    (subst (λ (all : AttributeControls). IsWith name (granted (Party c.args.self.association.link) (joined not_opened all) (held name old)) old new) c.attribute_controls.ensures c.in-Ok-hold_selected.ensures.held) in
    subst (λ (r : Pdu). takes (regime_stage party.history) (messages.Pdu r) ≡ true → Concludes IsSelected tables new state party setting (messages.Pdu r) step) (sym c.in-SelectRequest.is)
    (λ taken. quiet_step IsSelected tables old new state party setting message Nothing step stands taken
    (ap (λ (row : Row). granted_unless row Nothing)
    ((λ i. first_row (select_rows (found_is tables old state party stands i) (record { link = represents.linked i; identity = identity_in (represents.stands i); password = c.in-SelectRequest.password; requested = requested; controls = sym c.attribute_controls.ensures i }) name)) ∙ sym c.in-Ok.ensures ∙ c.in_default-refused.is))
    said represents.moved
    (record {
      linked = represents.linked;
      associated = represents.stands;
      stands = λ i. Some (record { file = name; requested = requested; controls = sym c.attribute_controls.ensures i; password = c.in-SelectRequest.password });
      opened = represents.opened;
      moved = represents.moved;
    })
    c.new.ensures
    (tables_stay state party next stands.stands (none_left (with_history next party) (ap activity_in represents.opened) ∙ sym (none_left party (ap activity_in represents.opened))))
    (λ after_held. calls_follow old new state after name (granted (Party party.link) controls) stands.held with_controls after_held))
