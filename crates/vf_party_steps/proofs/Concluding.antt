-- What a good step owes that ends outside of a transfer and changes nothing that a store keeps, or files alone; and one
-- before and after which the same open regime stands.
use Rattle.std.proofs.Common.{◌≡◌, true, List, [], ◌∷◌, ◌++◌, None, sym, subst, ap, ◌∙◌}
use Rattle.vf_attr.specs.declared.file.File.{File}
use Rattle.vf_elements.specs.Stages.{takes}
use Rattle.vf_elements.specs.declared.message.Message.{Message}
use Rattle.vf_filestore.specs.Aborts.{Setting}
use Rattle.vf_filestore.specs.Changes.{delta, file_changes}
use Rattle.vf_filestore.specs.Conclusion.{concluding_entry, entry_of, taken_up}
use Rattle.vf_filestore.specs.Decision.{Grants, message_decision}
use Rattle.vf_filestore.specs.History.{Entry, Given, History, association, regime}
use Rattle.vf_filestore.specs.Holders.{held_files}
use Rattle.vf_filestore.specs.HoldersAfter.{IsHeldAfter, Keeps, concluded_by}
use Rattle.vf_filestore.specs.Sound.{IsNested}
use Rattle.vf_filestore.specs.Stage.{regime_stage}
use Rattle.vf_filestore.specs.State.{State, StandingParty, with_party}
use Rattle.vf_filestore.specs.Tables.{tables_of}
use Rattle.vf_filestore.specs.Transfers.{under_way}
use Rattle.vf_filestore.proofs.Decisions.{party_sound, put_again}
use Rattle.vf_filestore.proofs.HeldAfter.{held_after}
use Rattle.vf_regime_refusals.specs.Asked.{found_in}
use Rattle.vf_party_steps.specs.declared.step.Step.{Step}
use Rattle.vf_party_steps.specs.Dockets.{own_changes}
use Rattle.vf_party_steps.specs.Steps.{Concludes, HoldersOfFiles, Represents, StandsIn, history_by}
use Rattle.vf_party_steps.proofs.Kept.{files_change, no_change, nothing_due, with_history}
use Rattle.vf_party_steps.proofs.OwnDockets.{docket_moved}
use Rattle.vf_party_steps.proofs.Retained.{placed_message, rows_left}
use Rattle.vf_tables.specs.declared.docket.Docket.{Docket}
use Rattle.vf_tables.specs.declared.tables.Tables.{Tables}

-- what a request finds in the state is what it finds in the tables and the locks
pub found_is : (tables : Tables) (locks : HoldersOfFiles) (state : State) (party : StandingParty) → StandsIn tables locks state party → held_files state ≡ found_in tables.files locks
found_is tables locks state party stands = λ i. record { files = ap (λ (t : Tables). t.files) stands.kept i; holders = λ file. sym (stands.held file) i }

module _ {New : Type 0} (after : Represents New) (tables : Tables) (old new : HoldersOfFiles)
    (state : State) (party : StandingParty) (setting : Setting) (message : Message) (given : Given) where
  -- the entry before anything is due, and the history to which it is added
  abbrev pub replied : Entry
  replied = entry_of state party setting message given

  abbrev pub earlier : History
  earlier = taken_up state party message

  abbrev pub later : State
  later = concluded_by state party setting message given

  -- how the holders of each file change
  pub held_then : StandsIn tables old state party → takes (regime_stage party.history) message ≡ true → message_decision state party setting message ≡ Grants given
      → IsHeldAfter state party message later
  held_then stands taken granted =
      held_after state party setting message given state.parties party.trace stands.sound stands.stands (put_again party.link state.parties party stands.stands) granted taken

  pub quiet_step : (step : Step New) → StandsIn tables old state party → takes (regime_stage party.history) message ≡ true
      → message_decision state party setting message ≡ Grants given → step.said.items ≡ replied.said → under_way (replied ∷ earlier) ≡ None
      → after step.state party.link (history_by state party setting message given) → step.changes ≡ [] → tables_of later ≡ tables_of state
      → (IsHeldAfter state party message later → Keeps new later) → Concludes after tables new state party setting message step
  quiet_step step stands taken granted said quiet next changes same held = record {
    given = given;
    granted = granted;
    said = said ∙ nothing_due earlier setting.serial replied quiet;
    next = next;
    changes = changes ∙ sym (no_change tables state later stands.sound stands.kept same);
    held = held (held_then stands taken granted);
  }

  -- where the files are these after it
  pub filed_step : (files : List File) (step : Step New) → StandsIn tables old state party → takes (regime_stage party.history) message ≡ true
      → message_decision state party setting message ≡ Grants given → step.said.items ≡ replied.said → under_way (replied ∷ earlier) ≡ None
      → after step.state party.link (history_by state party setting message given) → step.changes ≡ file_changes tables.files files
      → tables_of later ≡ record (tables_of state) { files = files }
      → (IsHeldAfter state party message later → Keeps new later) → Concludes after tables new state party setting message step
  filed_step files step stands taken granted said quiet next changes becomes held = record {
    given = given;
    granted = granted;
    said = said ∙ nothing_due earlier setting.serial replied quiet;
    next = next;
    changes = changes ∙ sym (files_change tables state later files stands.sound stands.kept becomes);
    held = held (held_then stands taken granted);
  }

  -- the history after it, of a message that takes up none
  pub nested_then : StandsIn tables old state party → takes (regime_stage party.history) message ≡ true → earlier ≡ party.history
      → IsNested (history_by state party setting message given)
  nested_then stands taken same =
      subst (λ (history : History). IsNested (concluding_entry state party setting message given ∷ history)) (sym same)
      (placed_message party.history message taken, (party_sound state party.link party stands.sound stands.stands).sound.nested)

  -- The same open regime stands before it and after it: files change, and the docket of the open, where it has one.
  pub opened_step : (files : List File) (was is : List Docket) (step : Step New) → StandsIn tables old state party → takes (regime_stage party.history) message ≡ true
      → message_decision state party setting message ≡ Grants given → step.said.items ≡ (concluding_entry state party setting message given).said
      → after step.state party.link (history_by state party setting message given)
      → earlier ≡ party.history → regime (history_by state party setting message given) ≡ regime party.history → association (history_by state party setting message given) ≡ association party.history
      → tables_of later ≡ tables_of (record state { files = files; parties = with_party (with_history (history_by state party setting message given) party) state.parties })
      → rows_left party ≡ was → rows_left (with_history (history_by state party setting message given) party) ≡ is
      → step.changes ≡ file_changes tables.files files ++ own_changes was is
      → (IsHeldAfter state party message later → Keeps new later) → Concludes after tables new state party setting message step
  opened_step files was is step stands taken granted said next same opened associated becomes rows_was rows_is changes held = record {
    given = given;
    granted = granted;
    said = said;
    next = next;
    changes = changes ∙ sym (ap (delta tables) becomes
        ∙ docket_moved tables state party (history_by state party setting message given) files stands.sound stands.kept stands.stands opened associated (nested_then stands taken same)
        ∙ (λ i. file_changes tables.files files ++ own_changes (rows_was i) (rows_is i)));
    held = held (held_then stands taken granted);
  }
