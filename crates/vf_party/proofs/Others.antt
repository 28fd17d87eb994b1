-- A message of one party leaves the parties of other links as they stand.
use Rattle.std.proofs.Common.{◌≡◌, ℕ, Bool, true, false, cond, not, List, [], ◌∷◌, Option, None, Some, refl, ap, sym, ◌∙◌}
use Rattle.std.specs.Prelude.{count_by, flat_map, nat_eq, nat_le}
use Rattle.std.proofs.lemmas.Bool.{eqb-true}
use Rattle.vf_elements.specs.declared.message.Message.{Message}
use Rattle.vf_elements.specs.declared.message.Message.TheVariants as messages
use Rattle.vf_pdu.specs.declared.pdu.Pdu.{Pdu}
use Rattle.vf_filestore.specs.Aborts.{Setting}
use Rattle.vf_filestore.specs.Conclusion.{Answered, concluded, concluding_entry, grants, has_abort, taken_up}
use Rattle.vf_filestore.specs.Decision.{Decision, Aborts, Refuses, Grants, Waits, Groups, Ends, Leaves, decision, trial_decision}
use Rattle.vf_filestore.specs.Dockets.{broken}
use Rattle.vf_filestore.specs.Groups.{between, is_good, said_in_vain, said_of, trial, trial_by, trial_step}
use Rattle.vf_filestore.specs.History.{Given}
use Rattle.vf_filestore.specs.Keeping.{AreHistoriesKept}
use Rattle.vf_filestore.specs.Replies.{refusal}
use Rattle.vf_filestore.specs.State.{State, StandingParty, party_of, with_party, without_party}
use Rattle.vf_filestore.specs.Transition.{answered, associates, leaves, met, superseded_by, with_message}
use Rattle.vf_filestore.proofs.Decisions.{answered_sound}
use Rattle.vf_filestore.proofs.Parties.{located}
use Rattle.vf_filestore.proofs.Preserved.{IsAny, answered_stays}
use Rattle.vf_filestore.proofs.StaysKept.{histories_stay}
use Rattle.vf_party.specs.GoingOn.{StandsAs}
use Rattle.vf_party_steps.specs.Steps.{HoldersOfFiles, StandsIn}
use Rattle.vf_party.specs.Turns.{IsTaken}
use Rattle.vf_party.specs.declared.party.Outcome.{Outcome}
use Rattle.vf_party.specs.declared.party.Party.{Party}
use Rattle.vf_party.proofs.GoingOn.{tables_go_on}
use Rattle.vf_tables.specs.Changes.{after_all}
use Rattle.vf_tables.specs.declared.tables.Tables.{Tables}

-- the party of a link is not the one in the place of which another is put
put_other : (link : ℕ) (next : StandingParty) (parties : List StandingParty) → nat_eq next.link link ≡ false → party_of link (with_party next parties) ≡ party_of link parties
put_other link next [] other = refl
put_other link next (first ∷ parties) other = by (nat_eq first.link next.link) refl (put_other link next parties other)
  where
    by : (b : Bool) → nat_eq first.link next.link ≡ b → party_of link (with_party next parties) ≡ party_of link parties
        → party_of link (cond b (next ∷ parties) (first ∷ with_party next parties)) ≡ party_of link (first ∷ parties)
    by true same rest =
        let off : nat_eq first.link link ≡ false = ap (λ (n : ℕ). nat_eq n link) (eqb-true first.link next.link same) ∙ other in
        ap (λ (b : Bool). cond b (Some next) (party_of link parties)) other ∙ sym (ap (λ (b : Bool). cond b (Some first) (party_of link parties)) off)
    by false same rest = ap (λ (found : Option StandingParty). cond (nat_eq first.link link) (Some first) found) rest

left_other : (link gone : ℕ) (parties : List StandingParty) → nat_eq gone link ≡ false → party_of link (without_party gone parties) ≡ party_of link parties
left_other link gone [] other = refl
left_other link gone (first ∷ parties) other = by (nat_eq first.link gone) refl (left_other link gone parties other)
  where
    by : (b : Bool) → nat_eq first.link gone ≡ b → party_of link (without_party gone parties) ≡ party_of link parties
        → party_of link (cond (not b) (first ∷ without_party gone parties) (without_party gone parties)) ≡ party_of link (first ∷ parties)
    by true same rest =
        let off : nat_eq first.link link ≡ false = ap (λ (n : ℕ). nat_eq n link) (eqb-true first.link gone same) ∙ other in
        rest ∙ sym (ap (λ (b : Bool). cond b (Some first) (party_of link parties)) off)
    by false same rest = ap (λ (found : Option StandingParty). cond (nat_eq first.link link) (Some first) found) rest

-- and so an association that is gone leaves it
pub broken_other : (link gone : ℕ) (state : State) → nat_eq gone link ≡ false → party_of link (broken gone state).parties ≡ party_of link state.parties
broken_other link gone state other = left_other link gone state.parties other

module _ (link : ℕ) (setting : Setting) where
  granted_other : (state : State) (party : StandingParty) (message : Message) (given : Given) → nat_eq party.link link ≡ false
      → party_of link (grants state party setting message given).state.parties ≡ party_of link state.parties
  granted_other state party message given other = by (has_abort (concluding_entry state party setting message given).said)
    where
      after : State
      after = concluded state party (concluding_entry state party setting message given)

      put : party_of link (concluded state party (concluding_entry state party setting message given)).parties ≡ party_of link state.parties
      put = put_other link (record party { history = concluding_entry state party setting message given ∷ taken_up state party message }) state.parties other

      by : (b : Bool)
          → party_of link (cond b (broken party.link (concluded state party (concluding_entry state party setting message given))) (concluded state party (concluding_entry state party setting message given))).parties
          ≡ party_of link state.parties
      by true = broken_other link party.link (concluded state party (concluding_entry state party setting message given)) other ∙ put
      by false = put

  trial_other : (n : ℕ) (items : List Pdu) (state : State) → nat_eq n link ≡ false → party_of link (trial n setting items state).state.parties ≡ party_of link state.parties
  trial_other n [] state other = refl
  trial_other n (item ∷ items) state other = by (λ next. trial_other n items next other) (party_of n state.parties) refl
    where
      step : ((next : State) → party_of link (trial n setting items next).state.parties ≡ party_of link next.parties) → (party : StandingParty) → nat_eq party.link link ≡ false → (one : Decision)
          → party_of link (trial_step (trial n setting items) setting item state party one).state.parties ≡ party_of link state.parties
      step rest party off (Grants given) = rest (grants state party setting (messages.Pdu item) given).state ∙ granted_other state party (messages.Pdu item) given off
      step rest party off (Refuses diagnostic) = rest state
      step rest party off (Aborts number) = rest state
      step rest party off Waits = rest state
      step rest party off (Groups group) = rest state
      step rest party off Ends = rest state
      step rest party off Leaves = rest state

      by : ((next : State) → party_of link (trial n setting items next).state.parties ≡ party_of link next.parties) → (one : Option StandingParty) → party_of n state.parties ≡ one
          → party_of link (trial_by (trial n setting items) setting item state one).state.parties ≡ party_of link state.parties
      by rest None found = rest state
      by rest (Some party) found =
          let off : nat_eq party.link link ≡ false = ap (λ (m : ℕ). nat_eq m link) (located n state.parties party found).same ∙ other in
          step rest party off (trial_decision state party setting item)

  met_other : (state : State) (party : StandingParty) (message : Message) → nat_eq party.link link ≡ false → (one : Decision)
      → party_of link (met state party setting message one).state.parties ≡ party_of link state.parties
  met_other state party message other (Aborts number) = broken_other link party.link state other
  met_other state party message other (Refuses diagnostic) = by (associates message)
    where
      by : (b : Bool) → party_of link (cond b (leaves state party (refusal diagnostic message)) (record { said = refusal diagnostic message; state = state })).state.parties ≡ party_of link state.parties
      by true = broken_other link party.link state other
      by false = refl
  met_other state party message other (Grants given) = granted_other state party message given other
  met_other state party message other Waits = refl
  met_other state party message other (Groups group) = by (nat_le group.threshold (count_by is_good (trial party.link setting group.items state).tried))
    where
      by : (b : Bool)
          → party_of link (cond {A = Answered} b
          (record { said = between (flat_map said_of (trial party.link setting group.items state).tried); state = (trial party.link setting group.items state).state })
          (record { said = between (flat_map said_in_vain (trial party.link setting group.items state).tried); state = state })).state.parties ≡ party_of link state.parties
      by true = trial_other party.link group.items state other
      by false = refl
  met_other state party message other Ends = broken_other link party.link state other
  met_other state party message other Leaves = broken_other link party.link state other

  -- whatever a party answers, who stands on another link stands on
  pub others_go_on : (state : State) (party : StandingParty) (message : Message) → nat_eq party.link link ≡ false
      → party_of link (answered state party setting message).state.parties ≡ party_of link state.parties
  others_go_on state party message other =
      let heard = with_message message party in
      met_other (record state { parties = with_party heard state.parties }) heard message other (decision state party setting message)
      ∙ put_other link heard state.parties other

-- and code's party of another link stands as before in the state after it
module _ (tables : Tables) (old new : HoldersOfFiles) (state : State) (party : StandingParty) (setting : Setting) (message : Message) (outcome : Outcome)
    (stands : StandsIn tables old state party) (nobody : superseded_by state party message ≡ None)
    (taken : IsTaken tables new state party setting message outcome) where
  pub others_stand : (link : ℕ) (other : Party) → nat_eq party.link link ≡ false → StandsAs tables old state link other
      → StandsAs (after_all tables outcome.changes) new (answered state party setting message).state link other
  others_stand link other differs there =
      let off : nat_eq party.link there.standing.link ≡ false = ap (nat_eq party.link) there.linked ∙ differs in
      record {
        standing = there.standing;
        linked = there.linked;
        represented = there.represented;
        stands = record {
          sound = answered_sound state party.link party setting message stands.sound stands.stands;
          kept = tables_go_on tables old new state party setting message outcome stands nobody taken;
          held = taken.held;
          stands = others_go_on there.standing.link setting state party message off ∙ there.stands.stands;
        };
        histories = answered_stays IsAny AreHistoriesKept histories_stay state party.link party setting message tt stands.sound there.histories stands.stands;
      }
