use Rattle.std.proofs.Common.{◌≡◌, ℕ, List, ◌∷◌, Option, Some, option_map, ap, sym, subst, ◌∙◌, true}
use Rattle.vf_attr.specs.declared.changes.AttributeChange.{AttributeChange}
use Rattle.vf_elements.specs.Stages.{takes}
use Rattle.vf_elements.specs.declared.message.Message.TheVariants as messages
use Rattle.vf_filestore.specs.Aborts.{Setting}
use Rattle.vf_filestore.specs.Changes.{file_changes}
use Rattle.vf_filestore.specs.Controls.{joined, not_opened}
use Rattle.vf_filestore.specs.Decision.{granted_unless}
use Rattle.vf_filestore.specs.Diagnostics.{Row, first_row}
use Rattle.vf_filestore.specs.Effects.{changed, put_where}
use Rattle.vf_filestore.specs.Ending.{stamp_of}
use Rattle.vf_filestore.specs.Files.{file_named}
use Rattle.vf_filestore.specs.History.{Nothing, Regime, Selection, regime, renamed}
use Rattle.vf_filestore.specs.HoldersAfter.{IsRenamed, concluded_by}
use Rattle.vf_filestore.specs.Selecting.{change_attrib_rows}
use Rattle.vf_filestore.specs.Stage.{regime_stage}
use Rattle.vf_filestore.specs.State.{activity_in, file_in, identity_in, name_in, selected_file, units_in}
use Rattle.vf_filestore.specs.Units.{enhanced_management, unit_row}
use Rattle.vf_pdu.specs.declared.pdu.Pdu.{Pdu}
use Rattle.vf_pdu.specs.declared.pdu.Pdu.TheVariants.{ChangeAttribRequest}
use Rattle.vf_regime_refusals.specs.Asked.{selection_of, stamp_by}
use Rattle.vf_party_steps.specs.declared.states.Selected.{Selected}
use Rattle.vf_party_steps.specs.declared.step.Step.{Step}
use Rattle.vf_party_steps.specs.Renames as moves
use Rattle.vf_party_steps.specs.Renames.{named_as}
use Rattle.vf_party_steps.specs.Represents.{IsSelected}
use Rattle.vf_party_steps.specs.Steps.{Concludes, history_by}
use Rattle.vf_party_steps.proofs.Concluding.{filed_step, found_is}
use Rattle.vf_party_steps.proofs.Kept.{none_left, tables_filed, with_history}
use Rattle.vf_party_steps.proofs.Renames.{changes_named, renames_follow}
use Rattle.vf_party_steps.proofs.states.Selected.change_attrib.Goals as goal

pub returns-clause-consequence : goal.returns-clause-consequence
returns-clause-consequence c = λ state party stands represents.
    let asks = c.in-ChangeAttribRequest in
    let setting : Setting = record { moment = c.args.moment; serial = c.args.serial; token = c.args.token; sync = c.args.sync } in
    let request = ChangeAttribRequest asks.name asks.permitted asks.terms asks.others in
    let message = messages.Pdu request in
    let change : AttributeChange = record { name = asks.name; permitted = asks.permitted; terms = asks.terms; others = asks.others } in
    let step : Step Selected = record { state = c.with_name.result; said = c.in-Ok-renamed.done.0; changes = c.in-Ok-renamed.done.1 } in
    let next = history_by state party setting message Nothing in
    let after = concluded_by state party setting message Nothing in
    let tables = c.args.tables.now in
    let old = c.args.locks.now in
    let new = c.renamed.new.locks in
    let self = c.args.self in
    let link = self.associated.association.link in
    let file = self.selection.file in
    let stamp = stamp_by self.associated.association c.args.moment in
    let one = selection_of self.selection in
    let files = put_where (name_in party.history) (changed (selected_file state party.history) (stamp_of party c.args.moment) change) state.files in
    let made : c.with_name.result ≡ named_as asks.name self = c.with_name.ensures ∙ ap (λ (name : Option (List ℕ)). named_as name self) c.in-Ok.ensures in
    let moved : moves.IsRenamed party.link file asks.name (joined not_opened self.selection.controls) old new =
    subst (λ (link : ℕ). moves.IsRenamed link file asks.name (joined not_opened self.selection.controls) old new) (sym represents.linked)
    (subst (λ (name : Option (List ℕ)). moves.IsRenamed link file name (joined not_opened self.selection.controls) old new) c.in-Ok.ensures c.in-Ok-renamed.ensures.held) in
    subst (λ (r : Pdu). takes (regime_stage party.history) (messages.Pdu r) ≡ true → Concludes IsSelected tables new state party setting (messages.Pdu r) step) (sym asks.is)
    (λ taken. filed_step IsSelected tables old new state party setting message Nothing files step stands taken
    (ap (λ (row : Row). granted_unless row Nothing)
    ((λ i. first_row (unit_row (units_in (represents.associated i)) enhanced_management ∷ change_attrib_rows (found_is tables old state party stands i) (represents.linked i) (represents.stands i) (sym c.as_ref.ensures.value i) asks.others)) ∙ sym c.in_default-refused_change_attrib.ensures))
    c.in-Ok-renamed.ensures.said represents.moved
    (subst (λ (state : Selected). IsSelected state party.link next) (sym made)
    (record {
      linked = represents.linked;
      associated = represents.associated;
      stands = ap (option_map (renamed asks.name)) represents.stands;
      opened = represents.opened;
      moved = represents.moved;
    }))
    (c.in-Ok-renamed.ensures.changes ∙ changes_named file tables.files stamp change
    ∙ (λ i. file_changes tables.files (put_where (file_in (sym represents.stands i)) (changed (file_named (file_in (sym represents.stands i)) (sym stands.kept i).files) (record { moment = c.args.moment; identity = identity_in (sym represents.associated i) }) change) (sym stands.kept i).files)))
    (tables_filed state party next files stands.stands (none_left (with_history next party) (ap activity_in represents.opened) ∙ sym (none_left party (ap activity_in represents.opened))))
    (λ after_held. renames_follow old new state after party.link one asks.name stands.held moved
    (subst (λ (opened : Option Regime). IsRenamed party.link asks.name opened (Some one) state after) represents.opened
    (subst (λ (all : Option Selection). IsRenamed party.link asks.name (regime party.history) all state after) represents.stands after_held))))
