-- What holds of every state that a run reaches beside what is sound, with which a store may keep its tables (profile).
use Rattle.std.specs.Prelude.{◌≡◌, ℕ, ◌≤◌, Bool, true, false, List, [], ◌∷◌, length, is_none, IfSome}
use Rattle.std.specs.List.{AllByRecursion, list_all}
use Rattle.vf_attr.specs.declared.file.File.{File}
use Rattle.vf_base.specs.declared.element.Element.{Element}
use Rattle.vf_base.specs.declared.term.Term.{Term}
use Rattle.vf_doctype.specs.Checks.{fault as fault_of}
use Rattle.vf_doctype.specs.DocumentTypes.{doc_type}
use Rattle.vf_doctype.specs.declared.doc_type.DocType.{DocType}
use Rattle.vf_elements.specs.declared.message.Message.{Message}
use Rattle.vf_elements.specs.declared.message.Message.TheVariants as messages
use Rattle.vf_elements.specs.declared.message.Said.{Said}
use Rattle.vf_elements.specs.declared.message.Said.TheVariants as answers
use Rattle.vf_pdu.specs.declared.pdu.Pdu.{Pdu}
use Rattle.vf_pdu.specs.declared.pdu.Pdu.TheVariants.{CreateRequest, ChangeAttribRequest, LocateRequest, EraseRequest, ReadRequest, WriteRequest, TransferEndRequest, CancelRequest}
use Rattle.vf_tables.specs.Entries.{is_task, is_user}
use Rattle.vf_tables.specs.Validity.{all_differ, includes, is_valid, is_valid_task, is_written, modes}
use Rattle.vf_tables.specs.declared.limits.TheConstants.{MOST_TASKS, MOST_TERMS, MOST_USERS}
use Rattle.vf_tables.specs.declared.task.Task.{Task}
use Rattle.vf_tables.specs.declared.user.User.{User}
use Rattle.vf_filestore.specs.Aborts.{Setting, passes_survivors}
use Rattle.vf_filestore.specs.Dockets.{broken, dropped, stopped}
use Rattle.vf_filestore.specs.History.{Entry, Given, Nothing, Refused, Showed, Placed, History, Regime, position, regime, selection}
use Rattle.vf_filestore.specs.Laws.{AreNew}
use Rattle.vf_filestore.specs.Runs.{Event, Takes, beginning, run}
use Rattle.vf_filestore.specs.Sound.{IsSound, file_of}
use Rattle.vf_filestore.specs.State.{Docket, State, StandingParty}
use Rattle.vf_filestore.specs.Tables.{operation_of, tables_of}
use Rattle.vf_filestore.specs.Transfers.{Movement, Reads, Writes, Transfer, survivors, transferring, under_way}
use Rattle.vf_filestore.specs.Transition.{fault, transition}

-- OTHERS. Users and tasks, which no message changes, are such as valid tables have.
pub record AreOthersValid (users : List User) (tasks : List Task) : Type 0 where
  pub users_differ : all_differ (λ (user : User). is_user user.identity) users ≡ true
  pub few_users : length users ≤ MOST_USERS
  pub tasks_differ : all_differ (λ (task : Task). is_task task.plan.activity) tasks ≡ true
  pub few_tasks : length tasks ≤ MOST_TASKS
  pub tasks_valid : list_all is_valid_task tasks ≡ true

-- HISTORIES. What the request of a transfer was given: a read what it shows, and a write whose identity its operation
-- takes nothing; or the number of the diagnostic that refuses it.
abbrev pub IsEarned : Movement → Given → Type 0
IsEarned (Reads fadu context) (Showed version elements position) = Unit {0}
IsEarned (Writes operation fadu) Nothing = is_written (operation_of operation) fadu ≡ true
IsEarned movement (Refused version number) = number ≡ 0 → ⊥
IsEarned movement given = ⊥

-- a message that sets no position was given none
abbrev pub IsUnplaced : Given → Type 0
IsUnplaced (Placed position) = ⊥
IsUnplaced (Showed version elements position) = ⊥
IsUnplaced given = Unit {0}

abbrev pub IsGivenTo : Pdu → Given → Type 0
IsGivenTo (ReadRequest fadu context) given = IsEarned (Reads fadu context) given
IsGivenTo (WriteRequest operation fadu) given = IsEarned (Writes operation fadu) given
IsGivenTo (LocateRequest fadu) given = Unit {0}
IsGivenTo (EraseRequest fadu) given = Unit {0}
IsGivenTo TransferEndRequest given = Unit {0}
IsGivenTo (CancelRequest diagnostic) given = Unit {0}
IsGivenTo request given = IsUnplaced given

abbrev pub IsGiven : Message → Given → Type 0
IsGiven (messages.Pdu request) given = IsGivenTo request given
IsGiven message given = IsUnplaced given

-- an element came where there was room for it
abbrev pub IsTakenIn : History → Message → Type 0
IsTakenIn earlier (messages.Element element) = passes_survivors (survivors earlier) element ≡ false
IsTakenIn earlier message = Unit {0}

-- in a write no element was said
abbrev pub IsNoElement : Said → Type 0
IsNoElement (answers.Element element) = ⊥
IsNoElement said = Unit {0}

abbrev pub IsSilentIn : Movement → List Said → Type 0
IsSilentIn (Reads fadu context) said = Unit {0}
IsSilentIn (Writes operation fadu) said = AllByRecursion IsNoElement said

pub record IsKeptEntry (earlier : History) (entry : Entry) : Type 0 where
  pub given : IsGiven entry.message entry.given
  pub taken : IsTakenIn earlier entry.message
  pub silent : IfSome (transferring entry.message entry.given (under_way earlier)) (λ (transfer : Transfer). IsSilentIn transfer.movement entry.said)

-- what holds of each entry of a history after those before it
abbrev pub EachAfter : (History → Entry → Type 0) → History → Type 0
EachAfter Holds [] = Unit {0}
EachAfter Holds (entry ∷ earlier) = Holds earlier entry × EachAfter Holds earlier

abbrev pub AreKept : History → Type 0
AreKept = EachAfter IsKeptEntry

-- of every history of a party and of a docket
pub record AreHistoriesOf (Holds : History → Entry → Type 0) (state : State) : Type 0 where
  pub parties : AllByRecursion (λ (party : StandingParty). EachAfter Holds party.history) state.parties
  pub dockets : AllByRecursion (λ (docket : Docket). EachAfter Holds docket.history) state.dockets

abbrev pub AreHistoriesKept : State → Type 0
AreHistoriesKept = AreHistoriesOf IsKeptEntry

-- FILES. The mode of an open regime is one of its file's constraint set.
abbrev pub IsOpenOn : Regime → File → Type 0
IsOpenOn regime file = includes (modes file.tree.constraint) regime.mode.value ≡ true

abbrev pub IsOpenIn : List File → History → Type 0
IsOpenIn files history = IfSome (regime history) (λ regime. IfSome (file_of files (selection history)) (IsOpenOn regime))

pub record AreOpensKept (state : State) : Type 0 where
  pub parties : AllByRecursion (λ (party : StandingParty). IsOpenIn state.files party.history) state.parties
  pub dockets : AllByRecursion (λ (docket : Docket). IsOpenIn state.files docket.history) state.dockets

-- a test of each string of each unit
abbrev pub all_strings : (Element → Bool) → List (List Element) → Bool
all_strings test units = list_all (λ (unit : List Element). list_all test unit) units

-- a file whose terms are such, and each string of which passes a test for its document type
pub record IsFileOf (Are : List Term → Type 0) (test : DocType → Element → Bool) (file : File) : Type 0 where
  pub terms : Are file.terms
  pub strings : IfSome (doc_type file.contents) (λ (doc : DocType). all_strings (test doc) file.tree.units ≡ true)

abbrev pub AreFew : List Term → Type 0
AreFew terms = length terms ≤ MOST_TERMS

abbrev pub is_taken : DocType → Element → Bool
is_taken doc element = is_none (fault_of doc element)

-- Each string of a file is such as its document type takes, and its terms are few.
abbrev pub IsFilled : File → Type 0
IsFilled = IsFileOf AreFew is_taken

-- the terms of a message, where it has any
abbrev pub HasTerms : (List Term → Type 0) → Message → Type 0
HasTerms Are (messages.Pdu (CreateRequest over name contents permitted terms requested controls password)) = Are terms
HasTerms Are (messages.Pdu (ChangeAttribRequest name permitted terms others)) = IfSome terms Are
HasTerms Are message = Unit {0}

-- as those of each message are that is read
abbrev pub HasFewTerms : Message → Type 0
HasFewTerms = HasTerms AreFew

pub record AreFilesKept (state : State) : Type 0 where
  pub files : AllByRecursion IsFilled state.files
  pub traces : AllByRecursion (λ (party : StandingParty). AllByRecursion HasFewTerms party.trace) state.parties

-- STATES. All of it, with which the tables of a sound state are valid
pub record IsKept (state : State) : Type 0 where
  pub others : AreOthersValid state.users state.tasks
  pub histories : AreHistoriesKept state
  pub opens : AreOpensKept state
  pub files : AreFilesKept state

abbrev pub KeptIsValid : Type 0
KeptIsValid = (state : State) → IsSound state → IsKept state → is_valid (tables_of state) ≡ true

-- THEY STAY SO, from the begin on
abbrev pub BeginsKept : Type 0
BeginsKept = (users : List User) (files : List File) → AreOthersValid users [] → AllByRecursion IsFilled files → IsKept (beginning users files)

abbrev pub MessagesStayKept : Type 0
MessagesStayKept =
    (state : State) (link : ℕ) (setting : Setting) (message : Message) → HasFewTerms message → IsSound state → IsKept state
    → IsKept (transition state link setting message).state

abbrev pub FaultsStayKept : Type 0
FaultsStayKept = (state : State) (link number place : ℕ) → IsSound state → IsKept state → IsKept (fault state link number place).state

abbrev pub BreaksStayKept : Type 0
BreaksStayKept = (state : State) (link : ℕ) → IsSound state → IsKept state → IsKept (broken link state)

abbrev pub StopsStayKept : Type 0
StopsStayKept = (state : State) → IsSound state → IsKept state → IsKept (stopped state)

abbrev pub DropsStayKept : Type 0
DropsStayKept = (state : State) (identity : List ℕ) (activity : ℕ) → IsKept state → IsKept (dropped identity activity state)

abbrev pub HasFew : Event → Type 0
HasFew (Takes link setting message) = HasFewTerms message
HasFew event = Unit {0}

-- and so each state of a run is one that a store may keep
abbrev pub RunsStayKept : Type 0
RunsStayKept =
    (events : List Event) (state : State) → AreNew events state → AllByRecursion HasFew events → IsSound state → IsKept state
    → IsKept (run events state).state × (is_valid (tables_of (run events state).state) ≡ true)
