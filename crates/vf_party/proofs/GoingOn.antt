-- A party that goes on after a message stands in the state that the message leaves, of which code has the tables and the
-- holders, once the changes are made.
use Rattle.std.proofs.Common.{◌≡◌, ℕ, List, Option, None, Some, ap, sym, subst, ◌∙◌}
use Rattle.vf_elements.specs.declared.message.Message.{Message}
use Rattle.vf_filestore.specs.Aborts.{Setting}
use Rattle.vf_filestore.specs.Decision.{decision}
use Rattle.vf_filestore.specs.Keeping.{AreHistoriesKept}
use Rattle.vf_filestore.specs.Records.{changes_by, changes_of_party, changes_where, given_way}
use Rattle.vf_filestore.specs.Sound.{IsSound}
use Rattle.vf_filestore.specs.State.{State, StandingParty, party_of}
use Rattle.vf_filestore.specs.Tables.{tables_of}
use Rattle.vf_filestore.specs.Transition.{Turn, answered, superseded_by, taking_over, transition, transition_of, turn_of}
use Rattle.vf_filestore.proofs.Decisions.{answered_sound}
use Rattle.vf_filestore.proofs.Parties.{located}
use Rattle.vf_filestore.proofs.Preserved.{IsAny, answered_stays}
use Rattle.vf_filestore.proofs.Recorded.{messages_lead}
use Rattle.vf_filestore.proofs.StaysKept.{histories_stay}
use Rattle.vf_party.specs.GoingOn.{StandsAs}
use Rattle.vf_party_steps.specs.Steps.{HoldersOfFiles, StandsIn}
use Rattle.vf_party.specs.Turns.{IsNext, IsTaken}
use Rattle.vf_party.specs.declared.party.Outcome.{Outcome}
use Rattle.vf_party.specs.declared.party.Party.{Party}
use Rattle.vf_tables.specs.Changes.{after_all}
use Rattle.vf_tables.specs.declared.change.Change.{Change}
use Rattle.vf_tables.specs.declared.tables.Tables.{Tables}

module _ (state : State) (party : StandingParty) (setting : Setting) (message : Message) (found : party_of party.link state.parties ≡ Some party)
    (nobody : superseded_by state party message ≡ None) where
  -- where no other party gives way, the transition is what the party answers
  pub answers_alone : transition state party.link setting message ≡ turn_of party (answered state party setting message)
  answers_alone =
      ap (transition_of state setting message) found
      ∙ ap (λ (other : Option StandingParty). taking_over other state party setting message) nobody

  changes_alone : changes_by state party.link setting message ≡ changes_where state party setting message (decision state party setting message)
  changes_alone =
      ap (changes_of_party state setting message) found
      ∙ ap (λ (other : Option StandingParty). changes_where (given_way other state) party setting message (decision (given_way other state) party setting message)) nobody

  -- and its changes lead to what is kept after it
  pub changes_lead_on : IsSound state
      → after_all (tables_of state) (changes_where state party setting message (decision state party setting message)) ≡ tables_of (answered state party setting message).state
  changes_lead_on sound =
      ap (λ (changes : List Change). after_all (tables_of state) changes) (sym changes_alone)
      ∙ (messages_lead state party.link setting message sound).lead
      ∙ ap (λ (turn : Turn). tables_of turn.state) answers_alone

-- the party of a link has it
pub has_link : (state : State) (link : ℕ) (party : StandingParty) → party_of link state.parties ≡ Some party → party.link ≡ link
has_link state link party found = (located link state.parties party found).same

module _ (tables : Tables) (old new : HoldersOfFiles) (state : State) (party : StandingParty) (setting : Setting) (message : Message) (outcome : Outcome)
    (stands : StandsIn tables old state party) (nobody : superseded_by state party message ≡ None)
    (taken : IsTaken tables new state party setting message outcome) where
  -- once its changes are made the tables are those of the next state
  pub tables_go_on : tables_of (answered state party setting message).state ≡ after_all tables outcome.changes
  tables_go_on =
      sym (changes_lead_on state party setting message stands.stands nobody stands.sound)
      ∙ ap (λ (changes : List Change). after_all (tables_of state) changes) (sym taken.differs)
      ∙ ap (λ (kept : Tables). after_all kept outcome.changes) stands.kept

  turn_goes_on : (next : Party) → AreHistoriesKept state → IsNext (Some next) (party_of party.link (answered state party setting message).state.parties)
      → StandsAs (after_all tables outcome.changes) new (answered state party setting message).state party.link next
  turn_goes_on next histories (standing, found, represented) =
      let linked = has_link (answered state party setting message).state party.link standing found in
      record {
        standing = standing;
        linked = linked;
        represented = represented;
        stands = record {
          sound = answered_sound state party.link party setting message stands.sound stands.stands;
          kept = tables_go_on;
          held = taken.held;
          stands = subst (λ (link : ℕ). party_of link (answered state party setting message).state.parties ≡ Some standing) (sym linked) found;
        };
        histories = answered_stays IsAny AreHistoriesKept histories_stay state party.link party setting message tt stands.sound histories stands.stands;
      }

  pub turns_go_on : (next : Party) → AreHistoriesKept state → outcome.party ≡ Some next
      → StandsAs (after_all tables outcome.changes) new (answered state party setting message).state party.link next
  turns_go_on next histories is =
      turn_goes_on next histories (subst (λ (one : Option Party). IsNext one (party_of party.link (answered state party setting message).state.parties)) is taken.next)
