-- The checks that are said in answer to a message that is granted have numbers of the session.
use Rattle.std.proofs.Common.{◌≡◌, ℕ, ◌+◌, ◌≤◌, Bool, true, false, cond, not, List, [], ◌∷◌, ◌++◌, drop, Option, None, Some, refl, ap, sym, subst, ◌∙◌}
use Rattle.std.specs.Prelude.{count_by, flat_map, nat_le}
use Rattle.std.specs.List.{AllByRecursion}
use Rattle.std.proofs.lemmas.Bool.{ltb-false}
use Rattle.vf_base.specs.declared.diagnostic.Diagnostic.{Diagnostic}
use Rattle.vf_base.specs.declared.element.Element.{Element}
use Rattle.vf_elements.specs.Stages.{takes}
use Rattle.vf_elements.specs.declared.message.Message.{Message}
use Rattle.vf_elements.specs.declared.message.Message.TheVariants as messages
use Rattle.vf_elements.specs.declared.message.Said.{Said}
use Rattle.vf_elements.specs.declared.message.Said.TheVariants as answers
use Rattle.vf_elements.specs.declared.stage.Stage.TheVariants as stages
use Rattle.vf_pdu.specs.declared.pdu.Pdu.{Pdu}
use Rattle.vf_pdu.specs.declared.pdu.Pdu.TheVariants.{InitializeRequest, SelectRequest, DeselectRequest, CreateRequest, DeleteRequest, ReadAttribRequest, ChangeAttribRequest, OpenRequest, CloseRequest, RecoverRequest, LocateRequest, EraseRequest, EndGroupResponse, TransferEndRequest, CancelRequest, RestartRequest}
use Rattle.vf_filestore.specs.Aborts.{Setting, abort_where, aborts, first_abort, is_known, passes_serials, request_aborts, restart_aborts, serial_after_restart}
use Rattle.vf_filestore.specs.Conclusion.{Answered, concluding_entry, entry_of, grants, taken_up}
use Rattle.vf_filestore.specs.Decision.{Decision, Aborts, Refuses, Grants, Waits, Groups, Ends, Leaves, decision, request_decision, trial_decision}
use Rattle.vf_filestore.specs.Diagnostics.{below_threshold, numbers_spent, plain, wrong_regime, wrong_state}
use Rattle.vf_filestore.specs.Due.{Progress, check_window, due, due_after, due_in, due_of, due_unless_full, goes_on, is_check_due, is_full, next_serial, offered, progress_of, with_check, with_element}
use Rattle.vf_filestore.specs.Groups.{Tried, Trial, between, groups, is_good, said_in_vain, said_of, trial, trial_by, trial_step}
use Rattle.vf_filestore.specs.History.{Given, Nothing, Made, Refused, Showed, Placed, Resumed, History, Regime, Selection, association}
use Rattle.vf_filestore.specs.Limits.{most_serial}
use Rattle.vf_filestore.specs.Replies.{refusal, refusal_of_request, replies, reply, request_replies}
use Rattle.vf_filestore.specs.Sayable.{AnswersAreNumbered, AreNumbersLeft, ChecksAreNumbered, IsAnswerNumbered}
use Rattle.vf_filestore.specs.Sound.{HasItems, IsItem, IsSound, IsSoundParty}
use Rattle.vf_filestore.specs.Stage.{Group, pending, regime_stage}
use Rattle.vf_filestore.specs.State.{State, StandingParty, party_of, units_of, with_party}
use Rattle.vf_filestore.specs.Transfers.{Movement, Reads, Writes, Transfer, transferring, under_way, was_shown}
use Rattle.vf_filestore.specs.Transition.{associates, leaves, met, refuses}
use Rattle.vf_filestore.specs.Units.{has_checks}
use Rattle.vf_filestore.proofs.Concluded.{grants_sound, granting_request}
use Rattle.vf_filestore.proofs.Decisions.{decided_taken, grouped_items, heard_sound, item_asks, or_none, party_sound, passed_alone, put_again, traced, trial_taken, where_none}
use Rattle.vf_filestore.proofs.Lists.{all_append}
use Rattle.vf_filestore.proofs.Nested.{placed}
use Rattle.vf_filestore.proofs.Owned.{within_stage}
use Rattle.vf_filestore.proofs.Same.{with_parties, with_trace}
use Rattle.vf_filestore.proofs.Views.{NotMoving, Place, in_association, in_selection, in_regime, in_reading, in_shown, in_writing, in_written}

-- ---- what is due

few_serial : (serial : ℕ) → passes_serials serial ≡ false → serial ≤ most_serial
few_serial serial is = ltb-false most_serial serial is

-- a check that is due, or nothing, before what comes later
checked : (window : Option ℕ) (now : Progress) (later : List Said) (is_due : Bool) → (is_due ≡ true → AreNumbersLeft (with_check now).serial later) → (is_due ≡ false → AreNumbersLeft now.serial later)
    → AreNumbersLeft now.serial (offered is_due now ++ goes_on is_due window now later)
checked window now later false next same = same refl
checked window now later true next same = by (passes_serials now.serial) refl (is_full window (with_check now))
  where
    by : (a : Bool) → passes_serials now.serial ≡ a → (b : Bool) → AreNumbersLeft now.serial (cond a (answers.Abort numbers_spent 0 ∷ []) (answers.Check (now.check + 1) ∷ []) ++ cond a [] (cond b [] later))
    by true passes b = tt
    by false few true = (few_serial now.serial few, tt)
    by false few false = (few_serial now.serial few, next refl)

numbered : (window : Option ℕ) (diagnostic : Option Diagnostic) (progress : Progress) (elements : List Element) → AreNumbersLeft progress.serial (due window diagnostic progress elements)
numbered window diagnostic progress [] = tt
numbered window diagnostic progress (element ∷ later) =
    let now = with_element progress in
    by (is_check_due window now.elements later) (numbered window diagnostic (with_check now) later) (numbered window diagnostic now later)
  where
    by : (is_due : Bool) → AreNumbersLeft (progress.serial + 1) (due window diagnostic (with_check (with_element progress)) later) → AreNumbersLeft progress.serial (due window diagnostic (with_element progress) later)
        → AreNumbersLeft progress.serial (offered is_due (with_element progress)
        ++ goes_on is_due window (with_element progress) (due window diagnostic (cond is_due (with_check (with_element progress)) (with_element progress)) later))
    by true next same = checked window (with_element progress) (due window diagnostic (with_check (with_element progress)) later) true (λ is. next) (λ is. absurd cc)
    by false next same = checked window (with_element progress) (due window diagnostic (with_element progress) later) false (λ is. absurd cc) (λ is. same)

unless_full : (window : Option ℕ) (diagnostic : Option Diagnostic) (progress : Progress) (elements : List Element) → AreNumbersLeft progress.serial (due_unless_full window diagnostic progress elements)
unless_full window diagnostic progress elements = by (is_full window progress)
  where
    by : (b : Bool) → AreNumbersLeft progress.serial (cond b [] (due window diagnostic progress (drop progress.elements elements)))
    by true = tt
    by false = numbered window diagnostic progress (drop progress.elements elements)

given_numbered : (given : Given) (window : Option ℕ) (progress : Progress) → AreNumbersLeft progress.serial (due_of given window progress)
given_numbered (Showed version elements at) window progress = unless_full window None progress elements
given_numbered (Refused version number) window progress = unless_full window (Some (plain number)) progress []
given_numbered Nothing window progress = tt
given_numbered Made window progress = tt
given_numbered (Placed at) window progress = tt
given_numbered (Resumed goes_on at) window progress = tt

moving_numbered : (history : History) (serial : ℕ) (movement : Movement) (given : Given) → AreNumbersLeft serial (due_in history serial movement given)
moving_numbered history serial (Writes operation fadu) given = tt
moving_numbered history serial (Reads fadu context) given = by (was_shown history)
  where
    by : (b : Bool) → AreNumbersLeft serial (cond b [] (due_of given (check_window (association history)) (progress_of history serial)))
    by true = tt
    by false = given_numbered given (check_window (association history)) (progress_of history serial)

after_numbered : (history : History) (serial : ℕ) (one : Option Transfer) → AreNumbersLeft serial (due_after history serial one)
after_numbered history serial None = tt
after_numbered history serial (Some transfer) = moving_numbered history serial transfer.movement transfer.given

-- ---- the reply before it, which has no check

abbrev IsNoCheck : Said → Type 0
IsNoCheck (answers.Check check) = ⊥
IsNoCheck said = Unit {0}

abbrev HaveNoCheck : List Said → Type 0
HaveNoCheck = AllByRecursion IsNoCheck

before_checks : (serial : ℕ) (said later : List Said) → HaveNoCheck said → AreNumbersLeft serial later → AreNumbersLeft serial (said ++ later)
before_checks serial [] later none left = left
before_checks serial (answers.Check check ∷ said) later none left = absurd none.0
before_checks serial (answers.Acknowledge check ∷ said) later none left = before_checks serial said later none.1 left
before_checks serial (answers.Pdu pdu ∷ said) later none left = before_checks serial said later none.1 left
before_checks serial (answers.Element element ∷ said) later none left = before_checks serial said later none.1 left
before_checks serial (answers.Abort number place ∷ said) later none left = before_checks serial said later none.1 left

no_checks : (serial : ℕ) (said : List Said) → HaveNoCheck said → AreNumbersLeft serial said
no_checks serial [] none = tt
no_checks serial (answers.Check check ∷ said) none = absurd none.0
no_checks serial (answers.Acknowledge check ∷ said) none = no_checks serial said none.1
no_checks serial (answers.Pdu pdu ∷ said) none = no_checks serial said none.1
no_checks serial (answers.Element element ∷ said) none = no_checks serial said none.1
no_checks serial (answers.Abort number place ∷ said) none = no_checks serial said none.1

request_quiet : (state : State) (party : StandingParty) (setting : Setting) (given : Given) (request : Pdu) → HaveNoCheck (request_replies state party setting given request)
request_quiet state party setting given (InitializeRequest units identity password window) = (tt, tt)
request_quiet state party setting given (SelectRequest name requested controls password) = (tt, tt)
request_quiet state party setting given DeselectRequest = (tt, tt)
request_quiet state party setting given (CreateRequest over name contents permitted terms requested controls password) = (tt, tt)
request_quiet state party setting given DeleteRequest = (tt, tt)
request_quiet state party setting given (ReadAttribRequest names) = (tt, tt)
request_quiet state party setting given (ChangeAttribRequest name permitted terms others) = (tt, tt)
request_quiet state party setting given (OpenRequest mode contents controls activity) = (tt, tt)
request_quiet state party setting given CloseRequest = (tt, tt)
request_quiet state party setting given (RecoverRequest activity number check) = (tt, tt)
request_quiet state party setting given (LocateRequest fadu) = (tt, tt)
request_quiet state party setting given (EraseRequest fadu) = (tt, tt)
request_quiet state party setting given TransferEndRequest = (tt, tt)
request_quiet state party setting given (CancelRequest diagnostic) = (tt, tt)
request_quiet state party setting given (RestartRequest check) = (tt, tt)
request_quiet state party setting given request = tt

reply_quiet : (state : State) (party : StandingParty) (setting : Setting) (given : Given) (message : Message) → HaveNoCheck (replies state party setting given message)
reply_quiet state party setting given (messages.Pdu request) = request_quiet state party setting given request
reply_quiet state party setting given (messages.Element element) = tt
reply_quiet state party setting given messages.Check = (tt, tt)
reply_quiet state party setting given (messages.Acknowledge check) = tt
reply_quiet state party setting given (messages.Restart check) = (tt, tt)
reply_quiet state party setting given messages.Break = tt

request_refused : (diagnostic : Diagnostic) (request : Pdu) → HaveNoCheck (refusal_of_request diagnostic request)
request_refused diagnostic (InitializeRequest units identity password window) = (tt, tt)
request_refused diagnostic (SelectRequest name requested controls password) = (tt, tt)
request_refused diagnostic DeselectRequest = (tt, tt)
request_refused diagnostic (CreateRequest over name contents permitted terms requested controls password) = (tt, tt)
request_refused diagnostic DeleteRequest = (tt, tt)
request_refused diagnostic (ReadAttribRequest names) = (tt, tt)
request_refused diagnostic (ChangeAttribRequest name permitted terms others) = (tt, tt)
request_refused diagnostic (OpenRequest mode contents controls activity) = (tt, tt)
request_refused diagnostic CloseRequest = (tt, tt)
request_refused diagnostic (RecoverRequest activity number check) = (tt, tt)
request_refused diagnostic (LocateRequest fadu) = (tt, tt)
request_refused diagnostic (EraseRequest fadu) = (tt, tt)
request_refused diagnostic request = tt

message_refused : (diagnostic : Diagnostic) (message : Message) → HaveNoCheck (refusal diagnostic message)
message_refused diagnostic (messages.Pdu request) = request_refused diagnostic request
message_refused diagnostic message = tt

-- a message that is granted
granted_numbered : (state : State) (party : StandingParty) (setting : Setting) (message : Message) (given : Given)
    → AreNumbersLeft (next_serial (taken_up state party message) setting.serial message) (concluding_entry state party setting message given).said
granted_numbered state party setting message given =
    let earlier = taken_up state party message in
    let history = entry_of state party setting message given ∷ earlier in
    let serial = next_serial earlier setting.serial message in
    before_checks serial (replies state party setting given message) (due_after history serial (under_way history)) (reply_quiet state party setting given message) (after_numbered history serial (under_way history))

-- ---- items of a group, to which no check is said

record IsStill (item : Pdu) : Type 0 where
  still : NotMoving (messages.Pdu item)
  awake : takes stages.Idle (messages.Pdu item) ≡ false
  moves : (given : Given) (before : Option Transfer) → transferring (messages.Pdu item) given before ≡ before
  takes_up : (state : State) (party : StandingParty) → taken_up state party (messages.Pdu item) ≡ party.history

still_item : (state : State) (party : StandingParty) (setting : Setting) (item : Pdu) (given : Given) → IsItem item → request_decision state party setting item ≡ Grants given → IsStill item
still_item state party setting (SelectRequest name requested controls password) given is decided =
    record { still = record { reading = refl; shown = refl; writing = refl; written = refl }; awake = refl; moves = λ given before. refl; takes_up = λ state party. refl }
still_item state party setting DeselectRequest given is decided =
    record { still = record { reading = refl; shown = refl; writing = refl; written = refl }; awake = refl; moves = λ given before. refl; takes_up = λ state party. refl }
still_item state party setting (CreateRequest over name contents permitted terms requested controls password) given is decided =
    record { still = record { reading = refl; shown = refl; writing = refl; written = refl }; awake = refl; moves = λ given before. refl; takes_up = λ state party. refl }
still_item state party setting DeleteRequest given is decided =
    record { still = record { reading = refl; shown = refl; writing = refl; written = refl }; awake = refl; moves = λ given before. refl; takes_up = λ state party. refl }
still_item state party setting (ReadAttribRequest names) given is decided =
    record { still = record { reading = refl; shown = refl; writing = refl; written = refl }; awake = refl; moves = λ given before. refl; takes_up = λ state party. refl }
still_item state party setting (ChangeAttribRequest name permitted terms others) given is decided =
    record { still = record { reading = refl; shown = refl; writing = refl; written = refl }; awake = refl; moves = λ given before. refl; takes_up = λ state party. refl }
still_item state party setting (OpenRequest mode contents controls activity) given is decided =
    record { still = record { reading = refl; shown = refl; writing = refl; written = refl }; awake = refl; moves = λ given before. refl; takes_up = λ state party. refl }
still_item state party setting CloseRequest given is decided =
    record { still = record { reading = refl; shown = refl; writing = refl; written = refl }; awake = refl; moves = λ given before. refl; takes_up = λ state party. refl }
still_item state party setting item given is decided = absurd cc

no_transfer : (message : Message) → NotMoving message → {selection : Option Selection} {regime : Option Regime} {moving : Option Transfer} → Place message selection regime moving → moving ≡ None
no_transfer message still (in_association taken) = refl
no_transfer message still (in_selection one taken) = refl
no_transfer message still (in_regime one opened taken) = refl
no_transfer message still (in_reading one opened fadu context given taken) = let never = still.reading in absurd cc
no_transfer message still (in_shown one opened fadu context given taken) = let never = still.shown in absurd cc
no_transfer message still (in_writing one opened operation fadu given taken) = let never = still.writing in absurd cc
no_transfer message still (in_written one opened operation fadu given taken) = let never = still.written in absurd cc

item_quiet : (state : State) (party : StandingParty) (setting : Setting) (item : Pdu) (given : Given) → IsStill item → takes (regime_stage party.history) (messages.Pdu item) ≡ true
    → HaveNoCheck (concluding_entry state party setting (messages.Pdu item) given).said
item_quiet state party setting item given is taken =
    let message = messages.Pdu item in
    let earlier = taken_up state party message in
    let history = entry_of state party setting message given ∷ earlier in
    let serial = next_serial earlier setting.serial message in
    let none : under_way party.history ≡ None = no_transfer message is.still (placed message party.history (within_stage party.history message is.awake taken)) in
    let still : under_way history ≡ None = is.moves given (under_way earlier) ∙ ap under_way (is.takes_up state party) ∙ none in
    all_append IsNoCheck (replies state party setting given message) (due_after history serial (under_way history)) (reply_quiet state party setting given message)
    (subst (λ (one : Option Transfer). HaveNoCheck (due_after history serial one)) (sym still) tt)

abbrev IsQuiet : Tried → Type 0
IsQuiet one = HaveNoCheck one.said

step_quiet : (later : State → Trial) → ((state : State) → IsSound state → AllByRecursion IsQuiet (later state).tried) → (state : State) (link : ℕ) (party : StandingParty) (setting : Setting) (item : Pdu) → IsItem item
    → IsSound state → party_of link state.parties ≡ Some party → (one : Decision) → trial_decision state party setting item ≡ one → AllByRecursion IsQuiet (trial_step later setting item state party one).tried
step_quiet later quiet state link party setting item is_item sound found (Grants given) is =
    let taken = trial_taken state party setting item given is in
    let own = party_sound state link party sound found in
    let granting = granting_request state party setting item given sound own taken.1 taken.0 (item_asks item party.history is_item) in (
      item_quiet state party setting item given (still_item state party setting item given is_item taken.1) taken.0,
      quiet (grants state party setting (messages.Pdu item) given).state
          (grants_sound state link party setting (messages.Pdu item) given state.parties party.trace sound found (put_again link state.parties party found) own.grouped granting),
    )
step_quiet later quiet state link party setting item is_item sound found (Refuses diagnostic) is = (request_refused diagnostic item, quiet state sound)
step_quiet later quiet state link party setting item is_item sound found (Aborts number) is = (request_refused (plain wrong_regime) item, quiet state sound)
step_quiet later quiet state link party setting item is_item sound found Waits is = (request_refused (plain wrong_regime) item, quiet state sound)
step_quiet later quiet state link party setting item is_item sound found (Groups group) is = (request_refused (plain wrong_regime) item, quiet state sound)
step_quiet later quiet state link party setting item is_item sound found Ends is = (request_refused (plain wrong_regime) item, quiet state sound)
step_quiet later quiet state link party setting item is_item sound found Leaves is = (request_refused (plain wrong_regime) item, quiet state sound)

trial_quiet : (link : ℕ) (setting : Setting) (items : List Pdu) (state : State) → AllByRecursion IsItem items → IsSound state → AllByRecursion IsQuiet (trial link setting items state).tried
trial_quiet link setting [] state are sound = tt
trial_quiet link setting (item ∷ items) state are sound = by (λ state sound. trial_quiet link setting items state are.1 sound) (party_of link state.parties) refl
  where
    by : ((state : State) → IsSound state → AllByRecursion IsQuiet (trial link setting items state).tried) → (found : Option StandingParty) → party_of link state.parties ≡ found
        → AllByRecursion IsQuiet (trial_by (trial link setting items) setting item state found).tried
    by quiet None is = quiet state sound
    by quiet (Some party) is = step_quiet (trial link setting items) quiet state link party setting item are.0 sound is (trial_decision state party setting item) refl

tried_quiet : (all : List Tried) → AllByRecursion IsQuiet all → HaveNoCheck (flat_map said_of all)
tried_quiet [] quiet = tt
tried_quiet (one ∷ all) quiet = all_append IsNoCheck one.said (flat_map said_of all) quiet.0 (tried_quiet all quiet.1)

vain_quiet : (all : List Tried) → AllByRecursion IsQuiet all → HaveNoCheck (flat_map said_in_vain all)
vain_quiet [] quiet = tt
vain_quiet (one ∷ all) quiet = by (is_good one) (vain_quiet all quiet.1)
  where
    by : (b : Bool) → HaveNoCheck (flat_map said_in_vain all) → HaveNoCheck (cond b (refusal_of_request (plain below_threshold) one.item) one.said ++ flat_map said_in_vain all)
    by true rest = all_append IsNoCheck (refusal_of_request (plain below_threshold) one.item) (flat_map said_in_vain all) (request_refused (plain below_threshold) one.item) rest
    by false rest = all_append IsNoCheck one.said (flat_map said_in_vain all) quiet.0 rest

between_quiet : (said : List Said) → HaveNoCheck said → HaveNoCheck (between said)
between_quiet said quiet = (tt, all_append IsNoCheck said (reply EndGroupResponse) quiet (tt, tt))

groups_quiet : (state : State) (party : StandingParty) (setting : Setting) (group : Group) → HasItems group → IsSound state → HaveNoCheck (groups state party setting group).said
groups_quiet state party setting group items sound = by (nat_le group.threshold (count_by is_good (trial party.link setting group.items state).tried))
  where
    quiet : AllByRecursion IsQuiet (trial party.link setting group.items state).tried
    quiet = trial_quiet party.link setting group.items state items sound

    by : (b : Bool) → HaveNoCheck (cond {A = Answered} b
        (record { said = between (flat_map said_of (trial party.link setting group.items state).tried); state = (trial party.link setting group.items state).state })
        (record { said = between (flat_map said_in_vain (trial party.link setting group.items state).tried); state = state })).said
    by true = between_quiet (flat_map said_of (trial party.link setting group.items state).tried) (tried_quiet (trial party.link setting group.items state).tried quiet)
    by false = between_quiet (flat_map said_in_vain (trial party.link setting group.items state).tried) (vain_quiet (trial party.link setting group.items state).tried quiet)

-- ---- every message

refuses_quiet : (state : State) (party : StandingParty) (message : Message) (said : List Said) → HaveNoCheck said → HaveNoCheck (refuses state party message said).said
refuses_quiet state party message said quiet = by (associates message)
  where
    by : (b : Bool) → HaveNoCheck (cond b (leaves state party said) (record { said = said; state = state })).said
    by true = quiet
    by false = quiet

pub checks_numbered : ChecksAreNumbered
checks_numbered state link party setting message sound found = by (decision state party setting message) refl
  where
    own : IsSoundParty state.files party
    own = party_sound state link party sound found

    by : (one : Decision) → decision state party setting message ≡ one
        → AreNumbersLeft (next_serial (taken_up state party message) setting.serial message)
        (met (with_parties state (with_party (with_trace party (message ∷ party.trace)) state.parties)) (with_trace party (message ∷ party.trace)) setting message one).said
    by (Aborts number) is = tt
    by (Refuses diagnostic) is =
        let heard = with_parties state (with_party (with_trace party (message ∷ party.trace)) state.parties) in
        no_checks (next_serial (taken_up state party message) setting.serial message) (refuses heard (with_trace party (message ∷ party.trace)) message (refusal diagnostic message)).said
        (refuses_quiet heard (with_trace party (message ∷ party.trace)) message (refusal diagnostic message) (message_refused diagnostic message))
    by (Grants given) is = granted_numbered (with_parties state (with_party (with_trace party (message ∷ party.trace)) state.parties)) (with_trace party (message ∷ party.trace)) setting message given
    by Waits is = tt
    by (Groups group) is =
        let taken = decided_taken state party setting message (Groups group) is (λ number e. cc) in
        let heard = with_parties state (with_party (with_trace party (message ∷ party.trace)) state.parties) in
        no_checks (next_serial (taken_up state party message) setting.serial message) (groups heard (with_trace party (message ∷ party.trace)) setting group).said
        (groups_quiet heard (with_trace party (message ∷ party.trace)) setting group (grouped_items state party setting message group (pending party.trace) own.grouped taken.1)
        (heard_sound state link party (message ∷ party.trace) sound found (traced party message own.grouped taken.0)))
    by Ends is = tt
    by Leaves is = tt

-- ---- answers of the session

restart_numbered : (party : StandingParty) (setting : Setting) (check : ℕ) → first_abort (restart_aborts party setting check) ≡ None → serial_after_restart party.history setting.serial check ≤ most_serial
restart_numbered party setting check none =
    let first = abort_where (not (has_checks (units_of party))) wrong_state in
    let second = abort_where (not (is_known party.history check)) wrong_state in
    let third = abort_where (passes_serials (serial_after_restart party.history setting.serial check)) numbers_spent in
    let later = (or_none first (first_abort (second ∷ third ∷ [])) none).1 in
    let last = (or_none second (first_abort (third ∷ [])) later).1 in
    few_serial (serial_after_restart party.history setting.serial check) (where_none (passes_serials (serial_after_restart party.history setting.serial check)) numbers_spent (or_none third None last).0)

request_answered : (party : StandingParty) (setting : Setting) (request : Pdu) → first_abort (request_aborts party setting request) ≡ None → IsAnswerNumbered party setting (messages.Pdu request)
request_answered party setting (CancelRequest diagnostic) none =
    few_serial setting.serial (where_none (passes_serials setting.serial) numbers_spent (or_none (abort_where (passes_serials setting.serial) numbers_spent) None none).0)
request_answered party setting (RestartRequest check) none = restart_numbered party setting check none
request_answered party setting request none = tt

message_answered : (party : StandingParty) (setting : Setting) (message : Message) → first_abort (aborts party setting message) ≡ None → IsAnswerNumbered party setting message
message_answered party setting (messages.Pdu request) none = request_answered party setting request none
message_answered party setting (messages.Restart check) none = restart_numbered party setting check none
message_answered party setting message none = tt

pub answers_numbered : AnswersAreNumbered
answers_numbered state party setting message given is =
    let taken = decided_taken state party setting message (Grants given) is (λ number e. cc) in
    message_answered party setting message (passed_alone state party setting message given (pending party.trace) refl taken.0 taken.1).unaborted
