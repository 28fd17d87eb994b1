-- What a recovery answers: the decision by the row, whether it is refused, aborted for want of the token, or granted.
use Rattle.std.proofs.Common.{◌≡◌, ℕ, Bool, true, false, cond, not, ◌&&◌, List, Option, None, Some, Result, Ok, Err, is_none, refl, ap, sym, subst, ◌∙◌}
use Rattle.std.specs.Option.{option_or}
use Rattle.std.proofs.lemmas.Bool.{and_parts}
use Rattle.vf_elements.specs.declared.message.Message.{Message}
use Rattle.vf_filestore.specs.Aborts.{Setting}
use Rattle.vf_filestore.specs.Decision.{Aborts, Grants, Refuses, granted_unless, message_decision, unless_without_token}
use Rattle.vf_filestore.specs.Diagnostics.{Row, wrong_state}
use Rattle.vf_filestore.specs.History.{History, Nothing}
use Rattle.vf_filestore.specs.Recovering as recovering
use Rattle.vf_filestore.specs.Recovering.{resumed}
use Rattle.vf_filestore.specs.State as states
use Rattle.vf_filestore.specs.State.{State, StandingParty, docket_of, identity_in, identity_of}
use Rattle.vf_filestore.specs.Tables.{direction_by, direction_of}
use Rattle.vf_filestore.specs.Transfers.{Movement, Reads, Writes, Transfer, under_way}
use Rattle.vf_base.specs.declared.diagnostic.Diagnostic.{Diagnostic}
use Rattle.vf_party_steps.specs.Recoveries.{AbortsRead, IsRecovered, IsRefusedBy, MeetsTaken, docket_row, is_read, is_read_row, refusal_in, step_as, would_read}
use Rattle.vf_party_steps.specs.Represents.{IsAssociated}
use Rattle.vf_party_steps.specs.Steps.{HoldersOfFiles, MeetsStep, Represents, StandsIn}
use Rattle.vf_party_steps.specs.declared.recovering.Recovered.{Recovered}
use Rattle.vf_party_steps.specs.declared.states.Associated.{Associated}
use Rattle.vf_party_steps.specs.declared.step.Step.{Step}
use Rattle.vf_party_steps.specs.declared.step.StepError.{StepError}
use Rattle.vf_party_steps.specs.declared.step.StepError.TheVariants as errors
use Rattle.vf_party_steps.proofs.FoundDockets.{row_found, row_there}
use Rattle.vf_party_steps.proofs.TakenUp as up
use Rattle.vf_filestore.proofs.Nested.{none_some}
use Rattle.vf_tables.specs.declared.docket.Docket as rows
use Rattle.vf_tables.specs.declared.tables.Tables.{Tables}

-- without a row it is refused
pub never_free : (one : Row) (known : Diagnostic) → option_or one (option_or (Some known) None) ≡ None → ⊥
never_free None known is = cc
never_free (Some diagnostic) known is = cc

-- a step is that of what is taken up
pub meets : {New : Type 0} (after : Represents New) (made : New → Recovered) → ((state : New) (link : ℕ) (history : History) → after state link history → IsRecovered (made state) link history)
    → (tables : Tables) (old new : HoldersOfFiles) (state : State) (party : StandingParty) (setting : Setting) (message : Message) (result : Result (Step New) Associated)
    → MeetsTaken after tables old new state party setting message result → MeetsStep IsRecovered tables old new state party setting message (step_as made result)
meets after made as_it tables old new state party setting message (Ok step) concludes = record {
  given = concludes.given;
  granted = concludes.granted;
  said = concludes.said;
  next = as_it step.state party.link _ concludes.next;
  changes = concludes.changes;
  held = concludes.held;
}
meets after made as_it tables old new state party setting message (Err back) held = held

reads_by : (moving : Option Transfer) → is_read (direction_of moving) ≡ true → recovering.is_read moving ≡ true
reads_by None is = absurd cc
reads_by (Some transfer) is = by transfer.movement is
  where
    by : (movement : Movement) → is_read (direction_by movement) ≡ true → recovering.is_reading movement ≡ true
    by (Reads fadu context) is = refl
    by (Writes operation fadu) is = absurd cc

module _ (tables : Tables) (old : HoldersOfFiles) (state : State) (party : StandingParty) (self : Associated) (stands : StandsIn tables old state party) (represents : IsAssociated self party.link party.history)
    (setting : Setting) (activity number point : ℕ) where
  abbrev message : Message
  message = up.message tables old state party self stands represents setting activity number point

  name_is : self.association.identity ≡ identity_of party
  name_is = sym (ap identity_in represents.stands)

  pub decision_refused : (row : Option rows.Docket) → docket_row tables old self.association.identity activity ≡ row → (diagnostic : Diagnostic) → refusal_in tables.files self.association.units row number ≡ Some diagnostic
      → message_decision state party setting message ≡ Refuses diagnostic
  decision_refused (Some row) asked diagnostic refused =
      let is = row_found tables old state party stands (identity_of party) activity row (subst (λ (n : List ℕ). docket_row tables old n activity ≡ Some row) name_is asked) in
      up.decision_some tables old state party self stands represents setting activity number point row is
      ∙ ap (λ (one : Row). unless_without_token setting (Some is.docket) (granted_unless one (resumed (Some is.docket) point))) refused
  decision_refused None asked diagnostic refused = by (docket_of (identity_of party) activity state.dockets) refl
    where
      by : (one : Option states.Docket) → docket_of (identity_of party) activity state.dockets ≡ one → message_decision state party setting message ≡ Refuses diagnostic
      by None none = up.decision_none tables old state party self stands represents setting activity number point none ∙ ap (λ (one : Row). granted_unless one Nothing) refused
      by (Some docket) found =
          absurd (none_some ⊥ (docket_row tables old (identity_of party) activity) (subst (λ (n : List ℕ). docket_row tables old n activity ≡ None) name_is asked)
          (row_there tables old state party stands (identity_of party) activity docket found))

  -- the party is given back with what refuses it
  pub gives_back : (error : StepError) → IsRefusedBy (refusal_in tables.files self.association.units (docket_row tables old self.association.identity activity) number) error
      → MeetsStep {Old = Associated} IsRecovered tables old old state party setting message (Err (self, error))
  gives_back (errors.Refused diagnostic) refused = (decision_refused (docket_row tables old self.association.identity activity) refl diagnostic refused, λ file. refl)
  gives_back errors.NoMemory refused = λ file. refl

  decision_aborted : (row : Option rows.Docket) → docket_row tables old self.association.identity activity ≡ row → is_read_row row ≡ true → is_none (refusal_in tables.files self.association.units row number) ≡ true
      → setting.token ≡ false → message_decision state party setting message ≡ Aborts wrong_state
  decision_aborted None asked reads free lacks = absurd cc
  decision_aborted (Some row) asked reads free lacks =
      let is = row_found tables old state party stands (identity_of party) activity row (subst (λ (n : List ℕ). docket_row tables old n activity ≡ Some row) name_is asked) in
      let read : recovering.is_read (under_way is.docket.history) ≡ true
      = reads_by (under_way is.docket.history) (ap (λ (one : rows.Docket). is_read one.regime.direction) is.row_is ∙ reads) in
      up.decision_granted tables old state party self stands represents setting activity number point row is (none_is (refusal_in tables.files self.association.units (Some row) number) free)
      ∙ (λ i. cond (read i && not (lacks i)) (Aborts wrong_state) (Grants (resumed (Some is.docket) point)))
    where
      none_is : (one : Row) → is_none one ≡ true → one ≡ None
      none_is None is = refl
      none_is (Some diagnostic) is = absurd cc

pub aborts_read : (tables : Tables) (locks : HoldersOfFiles) (self : Associated) (activity number point : ℕ) (reads : Bool) → reads ≡ would_read tables locks self.association activity number
    → AbortsRead tables locks self activity number point reads
aborts_read tables locks self activity number point reads exact state party setting stands represents is lacks =
    let found = docket_row tables locks self.association.identity activity in
    let parts = and_parts (is_read_row found) (is_none (refusal_in tables.files self.association.units found number)) (sym exact ∙ is) in
    decision_aborted tables locks state party self stands represents setting activity number point found refl parts.0 parts.1 lacks
