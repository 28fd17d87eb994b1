-- What holds, beside what is sound and kept, of every state that a run reaches whose messages were read from octets: each
-- field of its tables is in the range that it has in a record (profile). So the changes by each message fit, and make the
-- tables after it.
use Rattle.std.specs.Prelude.{◌≡◌, ℕ, Bool, true, false, List, [], ◌∷◌, map, Some}
use Rattle.std.specs.List.{AllByRecursion, IsDistinct, list_all}
use Rattle.std.specs.Str.{bytes_eq}
use Rattle.vf_attr.specs.declared.file.File.{File}
use Rattle.vf_base.specs.declared.element.Element.{Element}
use Rattle.vf_base.specs.declared.term.Term.{Term}
use Rattle.vf_doctype.specs.declared.doc_type.DocType.{DocType}
use Rattle.vf_elements.specs.ElementValue.{IsWritable}
use Rattle.vf_elements.specs.declared.message.Message.{Message}
use Rattle.vf_elements.specs.declared.message.Message.TheVariants as messages
use Rattle.vf_pdu.specs.PduMeaning.{IsInRange}
use Rattle.vf_pdu.specs.declared.pdu.Pdu.TheVariants.{ReadRequest, WriteRequest}
use Rattle.vf_tables.specs.Fitting.{all_fit, are_short, is_in_range, is_plan, is_short, is_string_of}
use Rattle.vf_tables.specs.Making.{made_of}
use Rattle.vf_tables.specs.Snapshot.{is_kept, task_stages_of}
use Rattle.vf_tables.specs.declared.task.Task.{Task}
use Rattle.vf_tables.specs.declared.user.User.{User}
use Rattle.vf_filestore.specs.Aborts.{Setting, is_spent}
use Rattle.vf_filestore.specs.Changes.{delta}
use Rattle.vf_filestore.specs.Dockets.{broken, dropped, stopped}
use Rattle.vf_filestore.specs.History.{Entry, History}
use Rattle.vf_filestore.specs.Keeping.{AreHistoriesOf, AreOthersValid, IsFileOf, IsFilled, IsKept}
use Rattle.vf_filestore.specs.Laws.{AreNew}
use Rattle.vf_filestore.specs.Records.{changes_by}
use Rattle.vf_filestore.specs.Runs.{Event, Takes, after_event, beginning, run}
use Rattle.vf_filestore.specs.Sound.{AreLimited, IsSound, name_of}
use Rattle.vf_filestore.specs.State.{State, StandingParty}
use Rattle.vf_filestore.specs.Tables.{tables_of}
use Rattle.vf_filestore.specs.Transition.{fault, transition}

-- MESSAGES. Of a message that was read each field is in its range, and a text is of a class of character strings.
abbrev pub IsRead : Message → Type 0
IsRead (messages.Pdu pdu) = IsInRange pdu
IsRead (messages.Element element) = IsWritable element
IsRead message = Unit {0}

-- HISTORIES. Each message was read, and each transfer began where its open hadn't had all its transfers.
abbrev pub IsUnspentIn : History → Message → Type 0
IsUnspentIn earlier (messages.Pdu (ReadRequest fadu context)) = is_spent earlier ≡ false
IsUnspentIn earlier (messages.Pdu (WriteRequest operation fadu)) = is_spent earlier ≡ false
IsUnspentIn earlier message = Unit {0}

pub record IsReadEntry (earlier : History) (entry : Entry) : Type 0 where
  pub read : IsRead entry.message
  pub unspent : IsUnspentIn earlier entry.message

-- FILES. Each password of a file's terms is short, and each string of it is of its document type's class, or binary.
abbrev pub AreShort : List Term → Type 0
AreShort terms = are_short terms ≡ true

abbrev pub is_of_class : DocType → Element → Bool
is_of_class doc element = is_string_of doc.kind doc.class element

abbrev pub IsRangedFile : File → Type 0
IsRangedFile = IsFileOf AreShort is_of_class

-- STATES. What no message changes has its fields in their ranges too.
pub record AreOthersRanged (users : List User) (tasks : List Task) : Type 0 where
  pub users_short : list_all (λ (user : User). is_short user.password) users ≡ true
  pub plans : list_all (λ (task : Task). is_plan task.plan) tasks ≡ true
  pub pieces : list_all (λ (task : Task). list_all is_in_range (task_stages_of task)) tasks ≡ true

pub record IsRanged (state : State) : Type 0 where
  pub others : AreOthersRanged state.users state.tasks
  pub files : AllByRecursion IsRangedFile state.files
  pub histories : AreHistoriesOf IsReadEntry state
  pub traces : AllByRecursion (λ (party : StandingParty). AllByRecursion IsRead party.trace) state.parties

-- all that holds of a state that is reached
pub record IsReached (state : State) : Type 0 where
  pub sound : IsSound state
  pub kept : IsKept state
  pub ranged : IsRanged state

-- A STORE MAY KEEP its tables.
abbrev pub ReachedIsKept : Type 0
ReachedIsKept = (state : State) → IsReached state → is_kept (tables_of state) ≡ true

-- IT STAYS SO, from the begin on
abbrev pub BeginsReached : Type 0
BeginsReached =
    (users : List User) (files : List File) → IsDistinct bytes_eq (map name_of files) → AreLimited files → AreOthersValid users [] → AreOthersRanged users []
    → AllByRecursion IsFilled files → AllByRecursion IsRangedFile files → IsReached (beginning users files)

abbrev pub MessagesStayReached : Type 0
MessagesStayReached =
    (state : State) (link : ℕ) (setting : Setting) (message : Message) → IsRead message → IsReached state → IsReached (transition state link setting message).state

abbrev pub FaultsStayReached : Type 0
FaultsStayReached = (state : State) (link number place : ℕ) → IsReached state → IsReached (fault state link number place).state

abbrev pub BreaksStayReached : Type 0
BreaksStayReached = (state : State) (link : ℕ) → IsReached state → IsReached (broken link state)

abbrev pub StopsStayReached : Type 0
StopsStayReached = (state : State) → IsReached state → IsReached (stopped state)

abbrev pub DropsStayReached : Type 0
DropsStayReached = (state : State) (identity : List ℕ) (activity : ℕ) → IsReached state → IsReached (dropped identity activity state)

-- THE CHANGES by any message, of a group or alone, fit, and make of what was kept what is kept after it.
abbrev pub ReadMessagesFit : Type 0
ReadMessagesFit =
    (state : State) (link : ℕ) (setting : Setting) (message : Message) → IsRead message → IsReached state
    → all_fit (tables_of state) (changes_by state link setting message) ≡ true

abbrev pub ReadMessagesMake : Type 0
ReadMessagesMake =
    (state : State) (link : ℕ) (setting : Setting) (message : Message) → IsRead message → IsReached state
    → made_of (tables_of state) (changes_by state link setting message) ≡ Some (tables_of (transition state link setting message).state)

-- and so do those by which a docket is dropped
abbrev pub DropsMake : Type 0
DropsMake =
    (state : State) (identity : List ℕ) (activity : ℕ) → IsReached state
    → made_of (tables_of state) (delta (tables_of state) (tables_of (dropped identity activity state))) ≡ Some (tables_of (dropped identity activity state))

-- RUNS. Each message was read,
abbrev pub WasRead : Event → Type 0
WasRead (Takes link setting message) = IsRead message
WasRead event = Unit {0}

-- its changes make what is kept after it, and any other event changes nothing that is kept.
abbrev pub IsMade : State → Event → Type 0
IsMade state (Takes link setting message) =
    made_of (tables_of state) (changes_by state link setting message) ≡ Some (tables_of (transition state link setting message).state)
IsMade state event = tables_of (after_event state event).state ≡ tables_of state

abbrev pub AreMade : List Event → State → Type 0
AreMade [] state = Unit {0}
AreMade (event ∷ events) state = IsMade state event × AreMade events (after_event state event).state

abbrev pub RunsMake : Type 0
RunsMake =
    (events : List Event) (state : State) → AreNew events state → AllByRecursion WasRead events → IsReached state
    → AreMade events state × IsReached (run events state).state
