-- What the one party answers is what the whole filestore does, and it stays the only one.
use Rattle.std.proofs.Common.{◌≡◌, ℕ, suc, ◌≤◌, Bool, true, false, true≢false, cond, not, List, [], ◌∷◌, ◌++◌, length, map, Option, None, Some, Result, Ok, is_some, refl, ap, sym, subst, ◌∙◌, arith}
use Rattle.std.specs.Prelude.{◌&&◌, if◌then◌else◌, find, nat_eq, nat_le, count_by, flat_map}
use Rattle.std.specs.List.{All, AllByRecursion, IsDistinct, list_any}
use Rattle.std.specs.Str.{bytes_eq}
use Rattle.std.proofs.lemmas.List.Elements.{All-from_recursion}
use Rattle.vf_elements.specs.Stages.{takes}
use Rattle.vf_elements.specs.declared.message.Message.{Message}
use Rattle.vf_elements.specs.declared.message.Message.TheVariants as messages
use Rattle.vf_elements.specs.declared.message.Said.{Said}
use Rattle.vf_elements.specs.declared.stage.Stage.TheVariants as stages
use Rattle.vf_pdu.specs.declared.pdu.Pdu.{Pdu}
use Rattle.vf_pdu.specs.declared.pdu.Pdu.TheVariants.{RecoverRequest}
use Rattle.vf_pdu_fields.proofs.Plain.{some_is}
use Rattle.vf_filestore.specs.Aborts.{Setting}
use Rattle.vf_filestore.specs.Conclusion.{Answered, concluded, concluding_entry, grants, has_abort, taken_up}
use Rattle.vf_filestore.specs.Decision.{Decision, Aborts, Refuses, Grants, Waits, Groups, Ends, Leaves, decision, trial_decision}
use Rattle.vf_filestore.specs.Dockets.{broken}
use Rattle.vf_filestore.specs.Groups.{between, is_good, said_in_vain, said_of as item_said, trial, trial_by, trial_step}
use Rattle.vf_filestore.specs.History.{Association, Given, Regime, Selection, association, regime, selection}
use Rattle.vf_filestore.specs.Keeping.{AreHistoriesKept}
use Rattle.vf_filestore.specs.Opening.{has_activity, is_at}
use Rattle.vf_filestore.specs.Replies.{refusal}
use Rattle.vf_filestore.specs.Runs.{Arrives, beginning}
use Rattle.vf_filestore.specs.Sayable.{CanTell, IsReadWhole, IsSayable}
use Rattle.vf_filestore.specs.Stage.{Group, moving_stage, pending, stage, stage_by}
use Rattle.vf_filestore.specs.State.{State, StandingParty, activity_in, arrived, identity_of, is_of_link, party_of, with_party, without_party}
use Rattle.vf_filestore.specs.Transfers.{Movement, Reads, Writes, Transfer, data_end, under_way, was_shown}
use Rattle.vf_filestore.specs.Transition.{Turn, answered, associates, leaves, met, sent_on, superseded_by, transition, turn_of, with_message}
use Rattle.vf_cli_dialogue.specs.declared.conversation.Filestore.{Filestore}
use Rattle.vf_cli_dialogue.specs.declared.conversation.After.TheVariants as after
use Rattle.vf_cli_dialogue.specs.Conversation.{Holds, IsAnsweredBy, IsPut, Makes}
use Rattle.vf_cli_dialogue.specs.Dialogue.{is_abort, link, opened, reply, said_in, said_of, setting}
use Rattle.vf_party.specs.GoingOn.{StandsAs}
use Rattle.vf_party_steps.specs.Steps.{HoldersOfFiles, StandsIn}
use Rattle.vf_party.specs.Turns.{IsNext, IsParty, IsTaken, IsTurnIn}
use Rattle.vf_party.specs.declared.party.Outcome.{Outcome}
use Rattle.vf_party.specs.declared.party.Party.{Party}
use Rattle.vf_party.proofs.GoingOn.{answers_alone, turns_go_on}
use Rattle.vf_base.specs.declared.errors.NoMemory.{NoMemory}
use Rattle.vf_tables.specs.Changes.{after_all}
use Rattle.vf_tables.specs.declared.change.Change.{Change}
use Rattle.vf_tables.specs.Entries.{no_tables}
use Rattle.vf_tables.specs.declared.tables.Tables.{Tables}
use Rattle.vf_filestore.proofs.Lists.{all_map}
use Rattle.vf_filestore.proofs.ToldStates.{begins_telling, messages_telling, runs_sayable, said_sayable}
use Rattle.vf_locks.specs.Table.{held}

pub found_here : (state : State) (filestore : Filestore) (holds : Holds filestore state) → party_of link state.parties ≡ Some holds.goes.standing
found_here state filestore holds = subst (λ (n : ℕ). party_of n state.parties ≡ Some holds.goes.standing) holds.goes.linked holds.goes.stands.stands

-- ---- nobody gives way

-- who may ask for a recovery has no open
no_open : (one : Option Association) (other : Option Selection) (opened : Option Regime) (moving : Option Transfer) (ended shown : Bool) (activity number point : ℕ)
    → takes (stage_by one other opened moving ended shown) (messages.Pdu (RecoverRequest activity number point)) ≡ true → opened ≡ None
no_open one other None moving ended shown activity number point taken = refl
no_open one other (Some opened) None ended shown activity number point taken = absurd cc
no_open one other (Some opened) (Some transfer) ended shown activity number point taken = by transfer.movement ended shown taken
  where
    by : (movement : Movement) (ended shown : Bool) → takes (moving_stage movement ended shown) (messages.Pdu (RecoverRequest activity number point)) ≡ true → Some opened ≡ None
    by (Reads fadu context) ended true taken = absurd cc
    by (Reads fadu context) ended false taken = absurd cc
    by (Writes operation fadu) true shown taken = absurd cc
    by (Writes operation fadu) false shown taken = absurd cc

asks_recovery : (party : StandingParty) (activity number point : ℕ) → takes (stage party) (messages.Pdu (RecoverRequest activity number point)) ≡ true → regime party.history ≡ None
asks_recovery party activity number point taken = by (pending party.trace) taken
  where
    by : (one : Option Group)
        → takes (cond (is_some one) stages.Grouping (stage_by (association party.history) (selection party.history) (regime party.history) (under_way party.history) (is_some (data_end party.history)) (was_shown party.history)))
        (messages.Pdu (RecoverRequest activity number point)) ≡ true → regime party.history ≡ None
    by None taken =
        no_open (association party.history) (selection party.history) (regime party.history) (under_way party.history) (is_some (data_end party.history)) (was_shown party.history) activity number point taken
    by (Some group) taken = absurd cc

not_both : (one : Bool) → (one && false) ≡ false
not_both true = refl
not_both false = refl

not_at : (party : StandingParty) (identity : List ℕ) (activity : ℕ) → regime party.history ≡ None → is_at identity activity party ≡ false
not_at party identity activity none =
    ap (λ (one : Option Regime). bytes_eq (identity_of party) identity && has_activity activity (activity_in one)) none ∙ not_both (bytes_eq (identity_of party) identity)

-- the only party of a list is the one that is found
only : (n : ℕ) (parties : List StandingParty) (party : StandingParty) → length parties ≤ 1 → party_of n parties ≡ Some party → parties ≡ party ∷ []
only n [] party few found = absurd cc
only n (one ∷ []) party few found = by (is_of_link n one) found
  where
    by : (b : Bool) → cond b (Some one) None ≡ Some party → one ∷ [] ≡ party ∷ []
    by true found = ap (λ (p : StandingParty). p ∷ []) (some_is one party found)
    by false found = absurd cc
only n (one ∷ other ∷ parties) party few found = absurd (omega (arith, few))

pub nobody_gives_way : (state : State) (n : ℕ) (party : StandingParty) (message : Message) → length state.parties ≤ 1 → party_of n state.parties ≡ Some party
    → superseded_by state party message ≡ None
nobody_gives_way state n party message few found = of message
  where
    recovers : (activity number point : ℕ) → (b : Bool) → takes (stage party) (messages.Pdu (RecoverRequest activity number point)) ≡ b
        → cond b (find (is_at (identity_of party) activity) state.parties) None ≡ None
    recovers activity number point false taken = refl
    recovers activity number point true taken =
        ap (find (is_at (identity_of party) activity)) (only n state.parties party few found)
        ∙ ap (λ (b : Bool). cond b (Some party) None) (not_at party (identity_of party) activity (asks_recovery party activity number point taken))

    request : (pdu : Pdu) → superseded_by state party (messages.Pdu pdu) ≡ None
    request (RecoverRequest activity number point) = recovers activity number point (takes (stage party) (messages.Pdu (RecoverRequest activity number point))) refl
    request pdu = refl

    of : (message : Message) → superseded_by state party message ≡ None
    of (messages.Pdu pdu) = request pdu
    of message = refl

-- ---- it stays the only one

put_few : (next : StandingParty) (parties : List StandingParty) → length (with_party next parties) ≡ length parties
put_few next [] = refl
put_few next (party ∷ parties) = by (nat_eq party.link next.link) (put_few next parties)
  where
    by : (b : Bool) → length (with_party next parties) ≡ length parties → length (cond b (next ∷ parties) (party ∷ with_party next parties)) ≡ length (party ∷ parties)
    by true rest = refl
    by false rest = ap (λ (n : ℕ). suc n) rest

left_few : (n : ℕ) (parties : List StandingParty) → length (without_party n parties) ≤ length parties
left_few n [] = omega arith
left_few n (party ∷ parties) = by (is_of_link n party) (left_few n parties)
  where
    by : (b : Bool) → length (without_party n parties) ≤ length parties → length (cond (not b) (party ∷ without_party n parties) (without_party n parties)) ≤ length (party ∷ parties)
    by true rest = omega (arith, rest)
    by false rest = omega (arith, rest)

broken_few : (n : ℕ) (state : State) → length state.parties ≤ 1 → length (broken n state).parties ≤ 1
broken_few n state few = omega (arith, few, left_few n state.parties)

granted_few : (state : State) (party : StandingParty) (during : Setting) (message : Message) (given : Given) → length state.parties ≤ 1
    → length (grants state party during message given).state.parties ≤ 1
granted_few state party during message given few = by (has_abort (concluding_entry state party during message given).said)
  where
    after : State
    after = concluded state party (concluding_entry state party during message given)

    after_few : length after.parties ≤ 1
    after_few = omega (arith, few, put_few (record party { history = concluding_entry state party during message given ∷ taken_up state party message }) state.parties)

    by : (b : Bool) → length (cond b (broken party.link after) after).parties ≤ 1
    by true = broken_few party.link after after_few
    by false = after_few

trial_few : (n : ℕ) (during : Setting) (items : List Pdu) (state : State) → length state.parties ≤ 1 → length (trial n during items state).state.parties ≤ 1
trial_few n during [] state few = few
trial_few n during (item ∷ items) state few = by (λ next few. trial_few n during items next few) (party_of n state.parties)
  where
    step : ((next : State) → length next.parties ≤ 1 → length (trial n during items next).state.parties ≤ 1) → (party : StandingParty) (one : Decision) → length (trial_step (trial n during items) during item state party one).state.parties ≤ 1
    step rest party (Grants given) = rest (grants state party during (messages.Pdu item) given).state (granted_few state party during (messages.Pdu item) given few)
    step rest party (Refuses diagnostic) = rest state few
    step rest party (Aborts number) = rest state few
    step rest party Waits = rest state few
    step rest party (Groups group) = rest state few
    step rest party Ends = rest state few
    step rest party Leaves = rest state few

    by : ((next : State) → length next.parties ≤ 1 → length (trial n during items next).state.parties ≤ 1) → (one : Option StandingParty) → length (trial_by (trial n during items) during item state one).state.parties ≤ 1
    by rest None = rest state few
    by rest (Some party) = step rest party (trial_decision state party during item)

met_few : (state : State) (party : StandingParty) (during : Setting) (message : Message) (one : Decision) → length state.parties ≤ 1
    → length (met state party during message one).state.parties ≤ 1
met_few state party during message (Aborts number) few = broken_few party.link state few
met_few state party during message (Refuses diagnostic) few = by (associates message)
  where
    by : (b : Bool) → length (cond b (leaves state party (refusal diagnostic message)) (record { said = refusal diagnostic message; state = state })).state.parties ≤ 1
    by true = broken_few party.link state few
    by false = few
met_few state party during message (Grants given) few = granted_few state party during message given few
met_few state party during message Waits few = few
met_few state party during message (Groups group) few = by (nat_le group.threshold (count_by is_good (trial party.link during group.items state).tried))
  where
    by : (b : Bool) → length (cond {A = Answered} b
        (record { said = between (flat_map item_said (trial party.link during group.items state).tried); state = (trial party.link during group.items state).state })
        (record { said = between (flat_map said_in_vain (trial party.link during group.items state).tried); state = state })).state.parties ≤ 1
    by true = trial_few party.link during group.items state few
    by false = few
met_few state party during message Ends few = broken_few party.link state few
met_few state party during message Leaves few = broken_few party.link state few

pub stays_alone : (state : State) (party : StandingParty) (during : Setting) (message : Message) → length state.parties ≤ 1
    → length (answered state party during message).state.parties ≤ 1
stays_alone state party during message few =
    let heard = with_message message party in
    met_few (record state { parties = with_party heard state.parties }) heard during message (decision state party during message)
    (omega (arith, few, put_few heard state.parties))

-- ---- what it is told

said_again : (n : ℕ) (said : List Said) → map said_of (map (sent_on n) said) ≡ said
said_again n [] = refl
said_again n (one ∷ said) = ap (λ (l : List Said). one ∷ l) (said_again n said)

module _ (state : State) (filestore : Filestore) (holds : Holds filestore state) (message : Message) where
  abbrev party : StandingParty
  party = holds.goes.standing

  pub gives_none : superseded_by state holds.goes.standing message ≡ None
  gives_none = nobody_gives_way state link party message holds.alone (found_here state filestore holds)

  pub turn_is : transition state link setting message ≡ turn_of holds.goes.standing (answered state holds.goes.standing setting message)
  turn_is =
      subst (λ (n : ℕ). transition state n setting message ≡ turn_of party (answered state party setting message)) holds.goes.linked
      (answers_alone state party setting message holds.goes.stands.stands gives_none)

  pub said_is : said_in (transition state link setting message) ≡ (answered state holds.goes.standing setting message).said
  said_is = ap said_in turn_is ∙ said_again party.link (answered state party setting message).said

-- What a turn makes of the filestore that holds.
module _ (state : State) (filestore : Filestore) (holds : Holds filestore state) (message : Message) (read : IsReadWhole message) (locks : HoldersOfFiles) (outcome : Outcome)
    (taken : IsTaken filestore.tables locks state holds.goes.standing setting message outcome) where
  abbrev one : StandingParty
  one = holds.goes.standing

  state_is : (answered state holds.goes.standing setting message).state ≡ (transition state link setting message).state
  state_is = sym (ap (λ (turn : Turn). turn.state) (turn_is state filestore holds message))

  said_same : (said : List Said) → said ≡ outcome.said.items → said ≡ said_in (transition state link setting message)
  said_same said is = is ∙ taken.says ∙ sym (said_is state filestore holds message)

  -- it has a value, as all that is sent
  pub all_told : (said : List Said) → said ≡ outcome.said.items → All IsSayable said
  all_told said is =
      let turn = transition state link setting message in
      let told : AllByRecursion IsSayable (said_in turn) = all_map said_of IsSayable turn.sent (said_sayable state link setting message (omega arith) read holds.telling) in
      All-from_recursion IsSayable said (subst (AllByRecursion IsSayable) (sym (said_same said is)) told)

  pub replies_told : (old new : List ℕ) (said : List Said) → said ≡ outcome.said.items → new ≡ old ++ flat_map reply said
      → new ≡ old ++ flat_map reply (said_in (transition state link setting message))
  replies_told old new said is told = told ∙ ap (λ (l : List Said). old ++ flat_map reply l) (said_same said is)

  pub abort_told : (aborted : Bool) (said : List Said) → said ≡ outcome.said.items → aborted ≡ list_any is_abort said
      → list_any is_abort (said_in (transition state link setting message)) ≡ aborted
  abort_told aborted said is told = sym (told ∙ ap (list_any is_abort) (said_same said is))

  pub party_goes : (next : Party) (tables : Tables) → outcome.party ≡ Some next → tables ≡ after_all filestore.tables outcome.changes
      → Holds (record { party = next; tables = tables; locks = locks }) (transition state link setting message).state
  party_goes next tables is made =
      let goes = turns_go_on filestore.tables filestore.locks locks state one setting message outcome holds.goes.stands (gives_none state filestore holds message) taken next holds.goes.histories is in
      let here = subst (λ (n : ℕ). StandsAs (after_all filestore.tables outcome.changes) locks (answered state one setting message).state n next) holds.goes.linked goes in
      let kept = subst (λ (t : Tables). StandsAs t locks (answered state one setting message).state link next) (sym made) here in
      let telling : CanTell (answered state one setting message).state = subst CanTell (sym state_is) (messages_telling state link setting message (omega arith) read holds.telling) in
      subst (λ (s : State). Holds (record { party = next; tables = tables; locks = locks }) s) state_is
      (record { goes = kept; alone = stays_alone state one setting message holds.alone; telling = telling })

  pub party_gone : outcome.party ≡ None → party_of link (transition state link setting message).state.parties ≡ None
  party_gone is =
      let gone : party_of one.link (answered state one setting message).state.parties ≡ None =
      subst (λ (found : Option Party). IsNext found (party_of one.link (answered state one setting message).state.parties)) is taken.next in
      subst (λ (s : State). party_of link s.parties ≡ None) state_is
      (subst (λ (n : ℕ). party_of n (answered state one setting message).state.parties ≡ None) holds.goes.linked gone)

-- What was answered makes the turn, once its changes are made and its replies appended.
module _ (state : State) (before : Filestore) (holds : Holds before state) (message : Message) (read : IsReadWhole message) (filestore : Filestore) (goes : Bool) (said told : List Said) (changes : List Change)
    (answered : IsAnsweredBy state before holds message filestore goes said changes) (same : told ≡ said) (old new : List ℕ) (lines : new ≡ old ++ flat_map reply told) where
  now_said : new ≡ old ++ flat_map reply (said_in (transition state link setting message))
  now_said = replies_told state before holds message read filestore.locks answered.outcome answered.taken old new told (same ∙ answered.says) lines

  now_aborted : (aborted : Bool) → aborted ≡ list_any is_abort told → list_any is_abort (said_in (transition state link setting message)) ≡ aborted
  now_aborted aborted is = abort_told state before holds message read filestore.locks answered.outcome answered.taken aborted told (same ∙ answered.says) is

  pub makes_abort : (next : Filestore) (aborted : Bool) → aborted ≡ list_any is_abort told → aborted ≡ true
      → Makes (transition state link setting message) old new next after.Aborted
  makes_abort next aborted is abort = record { said = now_said; comes = now_aborted aborted is ∙ abort }

  pub makes_rest : (tables : Tables) (aborted : Bool) → aborted ≡ list_any is_abort told → aborted ≡ false → tables ≡ after_all before.tables changes
      → Makes (transition state link setting message) old new (record { party = filestore.party; tables = tables; locks = filestore.locks }) (if goes then after.Goes else after.Gone)
  makes_rest tables aborted is none made = by goes answered.outcome.party refl answered.put
    where
      silent : list_any is_abort (said_in (transition state link setting message)) ≡ false
      silent = now_aborted aborted is ∙ none

      made_so : tables ≡ after_all before.tables answered.outcome.changes
      made_so = made ∙ ap (after_all before.tables) answered.differs

      gone : answered.outcome.party ≡ None → Makes (transition state link setting message) old new (record { party = filestore.party; tables = tables; locks = filestore.locks }) after.Gone
      gone is = record { said = now_said; comes = (party_gone state before holds message read filestore.locks answered.outcome answered.taken is, silent) }

      goes_on : (next : Party) → answered.outcome.party ≡ Some next → filestore.party ≡ next
          → Makes (transition state link setting message) old new (record { party = filestore.party; tables = tables; locks = filestore.locks }) after.Goes
      goes_on next is put = record {
        said = now_said;
        comes = (party_goes state before holds message read filestore.locks answered.outcome answered.taken filestore.party tables (is ∙ ap Some (sym put)) made_so, silent);
      }

      by : (goes : Bool) (next : Option Party) → answered.outcome.party ≡ next → IsPut next filestore.party goes
          → Makes (transition state link setting message) old new (record { party = filestore.party; tables = tables; locks = filestore.locks }) (if goes then after.Goes else after.Gone)
      by true None is put = absurd cc
      by false None is put = gone is
      by true (Some next) is put = goes_on next is put.0
      by false (Some next) is put = absurd (true≢false (sym put.1))

-- a party that took a message in its place
pub put_in_place : (next : Party) (goes : Bool) → IsPut (if goes then Some next else None) next goes
put_in_place next true = (refl, refl)
put_in_place next false = refl

-- what a party takes that a filestore has, from what is owed of it in any state
pub answered_by : (state : State) (before : Filestore) (holds : Holds before state) (message : Message) (filestore : Filestore) (outcome : Outcome) (taken : Result Outcome (Party × NoMemory))
    (tables : Tables) (party : Party) (given : Setting) (goes : Bool) → taken ≡ Ok outcome → tables ≡ before.tables → party ≡ before.party → given ≡ setting
    → ((state : State) (standing : StandingParty) → StandsIn tables before.locks state standing → AreHistoriesKept state → IsParty party standing → IsTurnIn tables before.locks filestore.locks party state standing given message taken)
    → IsPut outcome.party filestore.party goes → IsAnsweredBy state before holds message filestore goes outcome.said.items outcome.changes
answered_by state before holds message filestore outcome taken tables party given goes is same_tables same_party same_setting takes put =
    let one = holds.goes.standing in
    let locks = filestore.locks in
    let stands = subst (λ (t : Tables). StandsIn t before.locks state one) (sym same_tables) holds.goes.stands in
    let represented = subst (λ (p : Party). IsParty p one) (sym same_party) holds.goes.represented in
    let turn : IsTaken tables locks state one given message outcome =
    subst (λ (r : Result Outcome (Party × NoMemory)). IsTurnIn tables before.locks locks party state one given message r) is (takes state one stands holds.goes.histories represented) in
    record {
      outcome = outcome;
      taken = subst (λ (t : Tables). IsTaken t locks state one setting message outcome) same_tables (subst (λ (s : Setting). IsTaken tables locks state one s message outcome) same_setting turn);
      says = refl;
      differs = refl;
      put = put;
    }

-- ---- the begin

opened_telling : CanTell opened
unfolding IsDistinct
opened_telling =
    let begins : CanTell (beginning [] []) =
    begins_telling [] [] tt (record { each = tt; counted = omega arith; roomy = omega arith })
    (record { users_differ = refl; few_users = omega arith; tasks_differ = refl; few_tasks = omega arith; tasks_valid = refl })
    (record { users_short = refl; plans = refl; pieces = refl }) tt tt tt in
    (runs_sayable (Arrives link ∷ []) (beginning [] []) (refl, tt) (omega arith, tt) begins).1

pub begins : (filestore : Filestore) → IsParty filestore.party (arrived link) → filestore.tables ≡ no_tables → filestore.locks ≡ [] → Holds filestore opened
begins filestore represented tables locks = record {
  goes = record {
    standing = arrived link;
    linked = refl;
    represented = represented;
    stands = record { sound = opened_telling.reached.sound; kept = sym tables; held = λ file. ap (held file) locks; stands = refl };
    histories = record { parties = (tt, tt); dockets = tt };
  };
  alone = omega arith;
  telling = opened_telling;
}
