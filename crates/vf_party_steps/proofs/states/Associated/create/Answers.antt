use Rattle.std.proofs.Common.{◌≡◌, ℕ, true, List, ◌∷◌, Some, Err, ap, sym, subst, ◌∙◌}
use Rattle.vf_base.specs.declared.action.Controls.{Controls}
use Rattle.vf_elements.specs.Stages.{takes}
use Rattle.vf_elements.specs.declared.message.Message.TheVariants as messages
use Rattle.vf_filestore.specs.Aborts.{Setting}
use Rattle.vf_filestore.specs.Changes.{file_changes}
use Rattle.vf_filestore.specs.Controls.{attribute_controls, joined, not_opened}
use Rattle.vf_filestore.specs.Decision.{granted_unless, made_unless}
use Rattle.vf_filestore.specs.Diagnostics.{Row, first_row}
use Rattle.vf_filestore.specs.Effects.{created_where}
use Rattle.vf_filestore.specs.Ending.{stamp_of}
use Rattle.vf_filestore.specs.Files.{file_named}
use Rattle.vf_filestore.specs.HoldersAfter.{concluded_by}
use Rattle.vf_filestore.specs.Selecting.{create_rows}
use Rattle.vf_filestore.specs.Stage.{regime_stage}
use Rattle.vf_filestore.specs.State.{identity_in, units_in, activity_in}
use Rattle.vf_filestore.specs.Units.{limited_management, unit_row}
use Rattle.vf_filestore.specs.declared.creation.NewFile.{NewFile}
use Rattle.vf_filestore.proofs.HeldCalls.{calls_follow}
use Rattle.vf_locks.specs.Holders.{granted}
use Rattle.vf_locks.specs.Table.{IsWith, held}
use Rattle.vf_locks.specs.declared.holder.Holder.TheVariants.{Party}
use Rattle.vf_pdu.specs.declared.pdu.Pdu.{Pdu}
use Rattle.vf_pdu.specs.declared.pdu.Pdu.TheVariants.{CreateRequest}
use Rattle.vf_pdu_fields.specs.declared.controls.AttributeControls.{AttributeControls}
use Rattle.vf_regime_refusals.specs.Asked.{found_in, stamp_by, wanted_of}
use Rattle.vf_regime_refusals.specs.declared.association.Selection.{Selection}
use Rattle.vf_party_steps.specs.declared.states.Selected.{Selected}
use Rattle.vf_party_steps.specs.declared.step.Step.{Step}
use Rattle.vf_party_steps.specs.Creations.{changes_of, creation_in}
use Rattle.vf_party_steps.specs.Represents.{IsSelected}
use Rattle.vf_party_steps.specs.Steps.{Concludes, MeetsStep, history_by}
use Rattle.vf_party_steps.proofs.Concluding.{filed_step, found_is}
use Rattle.vf_party_steps.proofs.Creations.{changes_are, gives_back, made_in, refusal_in, refusal_is}
use Rattle.vf_party_steps.proofs.Kept.{none_left, tables_filed, with_history}
use Rattle.vf_party_steps.proofs.states.Associated.create.Goals as goal

pub returns-in-Ok-created-clause-consequence : goal.returns-in-Ok-created-clause-consequence
returns-in-Ok-created-clause-consequence c = λ state party stands represents.
    let asks = c.in-CreateRequest in
    let setting : Setting = record { moment = c.args.moment; serial = c.args.serial; token = c.args.token; sync = c.args.sync } in
    let name = asks.name in
    let requested = asks.requested in
    let request = CreateRequest asks.over name asks.contents asks.permitted asks.terms requested asks.controls asks.password in
    let message = messages.Pdu request in
    let new_file : NewFile = record { name = name; contents = asks.contents; permitted = asks.permitted; terms = asks.terms } in
    let association = c.args.self.association in
    let selection : Selection = record { file = c.in-Ok.file; requested = requested; controls = c.attribute_controls.result; password = asks.password } in
    let wanted_is = wanted_of association selection in
    let made : Selected = record { associated = c.args.self; selection = selection } in
    let step : Step Selected = record { state = made; said = c.in-Ok-created.done.0; changes = c.in-Ok-created.done.1 } in
    let given = made_unless (file_named name state.files) in
    let next = history_by state party setting message given in
    let after = concluded_by state party setting message given in
    let tables = c.args.tables.now in
    let old = c.args.locks.now in
    let new = c.created.new.locks in
    let files = created_where given new_file (stamp_of party c.args.moment) state.files in
    let found = found_in tables.files old in
    let stamp = stamp_by association c.args.moment in
    let comes = c.in-Ok-created.ensures.made in
    let free = ap refusal_in comes in
    let controls : Controls = joined not_opened (attribute_controls requested asks.controls) in
    let with_controls : IsWith name (granted (Party party.link) controls (held name old)) old new =
    subst (λ (file : List ℕ). IsWith file (granted (Party party.link) controls (held file old)) old new) c.in-Ok.ensures
    (subst (λ (link : ℕ). IsWith c.in-Ok.file (granted (Party link) controls (held c.in-Ok.file old)) old new) (sym represents.linked)
    (subst (λ (all : AttributeControls). IsWith c.in-Ok.file (granted (Party association.link) (joined not_opened all) (held c.in-Ok.file old)) old new) c.attribute_controls.ensures c.in-Ok-created.ensures.held)) in
    subst (λ (r : Pdu). takes (regime_stage party.history) (messages.Pdu r) ≡ true → Concludes IsSelected tables new state party setting (messages.Pdu r) step) (sym asks.is)
    (λ taken. filed_step IsSelected tables old new state party setting message given files step stands taken
    (ap (λ (row : Row). granted_unless row given)
    ((λ i. first_row (unit_row (units_in (represents.stands i)) limited_management
    ∷ create_rows (found_is tables old state party stands i) (record { link = represents.linked i; identity = identity_in (represents.stands i); password = asks.password; requested = requested; controls = sym c.attribute_controls.ensures i }) asks.over (record { moment = c.args.moment; identity = identity_in (represents.stands i) }) new_file))
    ∙ sym (refusal_is found wanted_is asks.over stamp new_file association.units) ∙ free))
    c.in-Ok-created.ensures.said represents.moved
    (record {
      linked = represents.linked;
      associated = represents.stands;
      stands = λ i. Some (record { file = sym c.in-Ok.ensures i; requested = requested; controls = sym c.attribute_controls.ensures i; password = asks.password });
      opened = represents.opened;
      moved = represents.moved;
    })
    (ap made_in (sym comes) ∙ changes_are found wanted_is asks.over stamp new_file association.units free
    ∙ (λ i. file_changes tables.files (created_where (made_unless (file_named name (sym stands.kept i).files)) new_file (record { moment = c.args.moment; identity = identity_in (sym represents.stands i) }) (sym stands.kept i).files)))
    (tables_filed state party next files stands.stands (none_left (with_history next party) (ap activity_in represents.opened) ∙ sym (none_left party (ap activity_in represents.opened))))
    (λ after_held. calls_follow old new state after name (granted (Party party.link) controls) stands.held with_controls after_held))

pub returns-in-Err-clause-consequence : goal.returns-in-Err-clause-consequence
returns-in-Err-clause-consequence c = λ state party stands represents taken.
    let asks = c.in-CreateRequest in
    let setting : Setting = record { moment = c.args.moment; serial = c.args.serial; token = c.args.token; sync = c.args.sync } in
    let new : NewFile = record { name = asks.name; contents = asks.contents; permitted = asks.permitted; terms = asks.terms } in
    let association = c.args.self.association in
    let selection : Selection = record { file = c.in-Ok.file; requested = asks.requested; controls = c.attribute_controls.result; password = asks.password } in
    let wanted = wanted_of association selection in
    let tables = c.args.tables.now in
    let old = c.args.locks.now in
    let found = found_in tables.files old in
    let stamp = stamp_by association c.args.moment in
    let given = made_unless (file_named asks.name state.files) in
    let message = messages.Pdu (CreateRequest asks.over asks.name asks.contents asks.permitted asks.terms asks.requested asks.controls asks.password) in
    subst (λ (r : Pdu). MeetsStep IsSelected tables old c.created.new.locks state party setting (messages.Pdu r) (Err (c.args.self, c.in-Err.error))) (sym asks.is)
    (gives_back IsSelected tables old c.created.new.locks state party setting message c.args.self (changes_of (creation_in tables old association selection asks.over c.args.moment new)) given c.in-Err.error
    (ap (λ (row : Row). granted_unless row given)
    ((λ i. first_row (unit_row (units_in (represents.stands i)) limited_management
    ∷ create_rows (found_is tables old state party stands i) (record { link = represents.linked i; identity = identity_in (represents.stands i); password = asks.password; requested = asks.requested; controls = sym c.attribute_controls.ensures i }) asks.over (record { moment = c.args.moment; identity = identity_in (represents.stands i) }) new))
    ∙ sym (refusal_is found wanted asks.over stamp new association.units)))
    c.in-Err.ensures.refused c.in-Err.ensures.kept)
