-- A link on which no party stands: none comes to stand on it but by its arrival, and nothing is spoken on it.
use Rattle.std.proofs.Common.{◌≡◌, ℕ, Bool, true, false, cond, not, is_some, List, [], ◌∷◌, nat_eq, nat_le, Option, None, Some, refl, ap, sym, ◌∙◌}
use Rattle.std.specs.Prelude.{count_by, find}
use Rattle.std.specs.List.{AllByRecursion}
use Rattle.std.proofs.lemmas.Bool.{eqb-true}
use Rattle.vf_elements.specs.declared.message.Message.{Message}
use Rattle.vf_elements.specs.declared.message.Message.TheVariants as messages
use Rattle.vf_elements.specs.declared.message.Said.{Said}
use Rattle.vf_filestore.proofs.Lists.{all-filter}
use Rattle.vf_filestore.proofs.Parties.{IsOff}
use Rattle.vf_filestore.specs.Aborts.{Setting}
use Rattle.vf_filestore.specs.Conclusion.{Answered, concluded, concluding_entry, gone_where_aborted, grants, has_abort}
use Rattle.vf_filestore.specs.Decision.{Decision, Aborts, Refuses, Grants, Waits, Groups, Ends, Leaves, decision, trial_decision}
use Rattle.vf_filestore.specs.Dockets.{broken}
use Rattle.vf_filestore.specs.Groups.{Trial, groups, is_good, trial, trial_by, trial_step}
use Rattle.vf_filestore.specs.History.{Entry, Given}
use Rattle.vf_filestore.specs.State.{State, StandingParty, is_of_link, party_of, with_party, without_party}
use Rattle.vf_filestore.specs.Stage.{Group}
use Rattle.vf_filestore.specs.Transition.{aborts, answered, associates, leaves, met, refuses, with_message}
use Rattle.vf_pdu.specs.declared.pdu.Pdu.{Pdu}

-- no party stands on the link
abbrev pub IsAbsent : ℕ → State → Type 0
IsAbsent link state = AllByRecursion (IsOff link) state.parties

pub absent_of : (link : ℕ) (parties : List StandingParty) → is_some (party_of link parties) ≡ false → AllByRecursion (IsOff link) parties
absent_of link [] none = tt
absent_of link (first ∷ parties) none = by (nat_eq first.link link) refl none (absent_of link parties)
  where
    by : (b : Bool) → nat_eq first.link link ≡ b → is_some (cond b (Some first) (party_of link parties)) ≡ false
        → (is_some (party_of link parties) ≡ false → AllByRecursion (IsOff link) parties) → AllByRecursion (IsOff link) (first ∷ parties)
    by true is none later = absurd cc
    by false is none later = (is, later none)

pub none_of : (link : ℕ) (parties : List StandingParty) → AllByRecursion (IsOff link) parties → party_of link parties ≡ None
none_of link [] off = refl
none_of link (first ∷ parties) off = (λ i. cond (off.0 i) (Some first) (party_of link parties)) ∙ none_of link parties off.1

-- a party that is found isn't on the link
pub found_off : (link : ℕ) (test : StandingParty → Bool) (parties : List StandingParty) (party : StandingParty) → find test parties ≡ Some party
    → AllByRecursion (IsOff link) parties → IsOff link party
found_off link test [] party found off = absurd cc
found_off link test (first ∷ parties) party found off = by (test first) found (λ found. found_off link test parties party found off.1)
  where
    by : (b : Bool) → cond b (Some first) (find test parties) ≡ Some party → (find test parties ≡ Some party → IsOff link party) → IsOff link party
    by true found later = cc
    by false found later = later found

off_with : (link : ℕ) (next : StandingParty) (parties : List StandingParty) → AllByRecursion (IsOff link) parties → AllByRecursion (IsOff link) (with_party next parties)
off_with link next [] off = tt
off_with link next (first ∷ parties) off = by (nat_eq first.link next.link) refl (off_with link next parties off.1)
  where
    by : (b : Bool) → nat_eq first.link next.link ≡ b → AllByRecursion (IsOff link) (with_party next parties)
        → AllByRecursion (IsOff link) (cond b (next ∷ parties) (first ∷ with_party next parties))
    by true is later = (ap (λ n. nat_eq n link) (sym (eqb-true first.link next.link is)) ∙ off.0, off.1)
    by false is later = (off.0, later)

broken_absent : (link gone : ℕ) (state : State) → IsAbsent link state → IsAbsent link (broken gone state)
broken_absent link gone state off = all-filter (IsOff link) (λ party. not (is_of_link gone party)) state.parties off

gone_absent : (link gone : ℕ) (said : List Said) (state : State) → IsAbsent link state → IsAbsent link (gone_where_aborted gone said state)
gone_absent link gone said state off = by (has_abort said)
  where
    by : (b : Bool) → IsAbsent link (cond b (broken gone state) state)
    by true = broken_absent link gone state off
    by false = off

concluded_absent : (link : ℕ) (state : State) (party : StandingParty) (entry : Entry) → IsAbsent link state → IsAbsent link (concluded state party entry)
concluded_absent link state party entry off = off_with link _ state.parties off

grants_absent : (link : ℕ) (state : State) (party : StandingParty) (setting : Setting) (message : Message) (given : Given) → IsAbsent link state
    → IsAbsent link (grants state party setting message given).state
grants_absent link state party setting message given off =
    let entry = concluding_entry state party setting message given in
    gone_absent link party.link entry.said (concluded state party entry) (concluded_absent link state party entry off)

step_absent : (link : ℕ) (later : State → Trial) → ((state : State) → IsAbsent link state → IsAbsent link (later state).state)
    → (setting : Setting) (item : Pdu) (state : State) (party : StandingParty) (one : Decision) → IsAbsent link state → IsAbsent link (trial_step later setting item state party one).state
step_absent link later keeps setting item state party (Grants given) off = keeps _ (grants_absent link state party setting (messages.Pdu item) given off)
step_absent link later keeps setting item state party (Refuses diagnostic) off = keeps state off
step_absent link later keeps setting item state party one off = keeps state off

trial_absent : (link on : ℕ) (setting : Setting) (items : List Pdu) (state : State) → IsAbsent link state → IsAbsent link (trial on setting items state).state
trial_absent link on setting [] state off = off
trial_absent link on setting (item ∷ items) state off = by (party_of on state.parties) (trial_absent link on setting items)
  where
    by : (party : Option StandingParty) → ((state : State) → IsAbsent link state → IsAbsent link (trial on setting items state).state)
        → IsAbsent link (trial_by (trial on setting items) setting item state party).state
    by None keeps = keeps state off
    by (Some party) keeps = step_absent link (trial on setting items) keeps setting item state party (trial_decision state party setting item) off

either_absent : (link : ℕ) (b : Bool) (one other : Answered) → IsAbsent link one.state → IsAbsent link other.state → IsAbsent link (cond b one other).state
either_absent link true one other off off' = off
either_absent link false one other off off' = off'

groups_absent : (link : ℕ) (state : State) (party : StandingParty) (setting : Setting) (group : Group) → IsAbsent link state → IsAbsent link (groups state party setting group).state
groups_absent link state party setting group off =
    let made = trial party.link setting group.items state in
    either_absent link (nat_le group.threshold (count_by is_good made.tried)) _ _ (trial_absent link party.link setting group.items state off) off

refuses_absent : (link : ℕ) (state : State) (party : StandingParty) (message : Message) (said : List Said) → IsAbsent link state → IsAbsent link (refuses state party message said).state
refuses_absent link state party message said off = either_absent link (associates message) _ _ (broken_absent link party.link state off) off

met_absent : (link : ℕ) (state : State) (party : StandingParty) (setting : Setting) (message : Message) (one : Decision) → IsAbsent link state → IsAbsent link (met state party setting message one).state
met_absent link state party setting message (Aborts number) off = broken_absent link party.link state off
met_absent link state party setting message (Refuses diagnostic) off = refuses_absent link state party message _ off
met_absent link state party setting message (Grants given) off = grants_absent link state party setting message given off
met_absent link state party setting message Waits off = off
met_absent link state party setting message (Groups group) off = groups_absent link state party setting group off
met_absent link state party setting message Ends off = broken_absent link party.link state off
met_absent link state party setting message Leaves off = broken_absent link party.link state off

pub aborts_absent : (link : ℕ) (state : State) (party : StandingParty) (number place : ℕ) → IsAbsent link state → IsAbsent link (aborts state party number place).state
aborts_absent link state party number place off = broken_absent link party.link state off

pub leaves_absent : (link : ℕ) (state : State) (party : StandingParty) (said : List Said) → IsAbsent link state → IsAbsent link (leaves state party said).state
leaves_absent link state party said off = broken_absent link party.link state off

pub answered_absent : (link : ℕ) (state : State) (party : StandingParty) (setting : Setting) (message : Message) → IsAbsent link state
    → IsAbsent link (answered state party setting message).state
answered_absent link state party setting message off =
    met_absent link _ (with_message message party) setting message (decision state party setting message)
    (off_with link (with_message message party) state.parties off)

-- and a party that broke is absent
pub broken_gone : (link : ℕ) (parties : List StandingParty) → AllByRecursion (IsOff link) (without_party link parties)
broken_gone link [] = tt
broken_gone link (first ∷ parties) = by (nat_eq first.link link) refl (broken_gone link parties)
  where
    by : (b : Bool) → nat_eq first.link link ≡ b → AllByRecursion (IsOff link) (without_party link parties)
        → AllByRecursion (IsOff link) (cond (not b) (first ∷ without_party link parties) (without_party link parties))
    by true is later = later
    by false is later = (is, later)
