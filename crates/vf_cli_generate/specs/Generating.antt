-- Files of drawn contents, made by associations, one after another, over the store on a disk (profile).
use Rattle.std.specs.Prelude.{◌≡◌, ◌⊎◌, ℕ, zero, suc, ◌+◌, ◌++◌, ◌≤◌, false, List, [], ◌∷◌, OnOk, Option, None, Some, Result, Ok, Err, codes, decimal, length, min}
use Rattle.vf_base.specs.Faults.{last_count}
use Rattle.vf_tables.specs.Sums.{octets_of_files}
use Rattle.vf_base.specs.declared.events.ScriptEvent.{ScriptEvent}
use Rattle.vf_base.specs.declared.events.ScriptEvent.TheVariants.{Arrived, Octets}
use Rattle.vf_cli_generate.specs.Drawing.{after_files, contents_after, name_of}
use Rattle.vf_cli_generate.specs.Requests.{requests_for}
use Rattle.vf_cli_generate.specs.declared.peer.Peer.{Peer}
use Rattle.vf_cli_printing.specs.Printed.{IsOneOf, Printed, Prints, line_feed}
use Rattle.vf_disk.specs.Disk.{LeavesOnly, LeavesShown}
use Rattle.vf_journal.specs.Image.{Refusal, refusal}
use Rattle.vf_journal.specs.declared.error.JournalError.{JournalError}
use Rattle.vf_journal.specs.declared.error.JournalError.TheVariants.{DiskFault, NotAStore}
use Rattle.vf_responder.specs.Served.{RespondCauses}
use Rattle.vf_responder.specs.Along.{RepresentsAlong}
use Rattle.vf_responder.specs.Answers.{at_end, spoken_in}
use Rattle.vf_responder.specs.Full.{IsFullAfter, IsStoreOf, WhereFull}
use Rattle.vf_responder.specs.Represents.{Kept, Represents}
use Rattle.vf_responder.specs.Run.{run, tables_in, trail}
use Rattle.vf_responder.specs.Serving.{IsBegun, Serving}
use Rattle.vf_responder.specs.declared.event.Reply.{Reply}
use Rattle.vf_session.specs.declared.units.TokenSide.TheVariants.{Initiator}
use Rattle.vf_stack.specs.Association.{Association, beginning}
use Rattle.vf_stack.specs.Receiving.{octets_received}
use Rattle.vf_stack.specs.Represents.{offer_of, side_of}
use Rattle.vf_stack.specs.Represents as stacks
use Rattle.vf_stack.specs.Sending.{May, octets_sent, with_request}
use Rattle.vf_stack.specs.declared.request.Request.{Request}
use Rattle.vf_store.specs.Represented.{Represents as ImageRepresents}
use Rattle.vf_store.specs.StoreState.{IsRepresented, StoreState}
use Rattle.vf_store_commands.specs.ErrorLines.{PrintsError}
use Rattle.vf_tables.specs.declared.tables.Tables.{Tables}
use Rattle.vf_tpkt.specs.Tpdu.{packet, request}

-- ---- BOTH ENDS: the responder, and the calling end of the link on which is said
pub record Both : Type 0 where
  pub serving : Serving
  pub calling : Association

-- What is spoken is heard by the calling end.
abbrev pub hears : Association → List Reply → Association
hears calling [] = calling
hears calling (reply ∷ replies) = hears (octets_received Initiator calling reply.octets).association replies

-- An event is answered, and the answers are heard.
abbrev pub after_event : ScriptEvent → Both → Both
after_event event both =
    let answers = trail event both.serving in
    record { serving = at_end both.serving answers; calling = hears both.calling (spoken_in answers) }

-- the octets of a request come to the responder, at the first moment
abbrev pub coming : (link : ℕ) → List ℕ → ScriptEvent
coming link octets = Octets link 0 octets

abbrev pub requested : (link : ℕ) → Request → Association → ScriptEvent
requested link request calling = coming link (octets_sent Initiator calling request)

abbrev pub after_request : (link : ℕ) → Request → Both → Both
after_request link request both =
    after_event (requested link request both.calling) (record both { calling = with_request Initiator both.calling request })

-- A request is sent where the calling end may send it, and what answers it is heard before the next one. Else it is left out.
abbrev pub SaysOne : (link : ℕ) → Request → Both → List ScriptEvent → Both → Type 0
SaysOne link request both events both' =
    (May Initiator false both.calling request × (events ≡ requested link request both.calling ∷ []) × (both' ≡ after_request link request both))
    ⊎ ((May Initiator false both.calling request → ⊥) × (events ≡ []) × (both' ≡ both))

abbrev pub SaysAll : (link : ℕ) → List Request → Both → List ScriptEvent → Both → Type 0
SaysAll link [] both events both' = (events ≡ []) × (both' ≡ both)
SaysAll link (request ∷ requests) both events both' =
    (first later : List ScriptEvent) × (between : Both) × (SaysOne link request both first between × SaysAll link requests between later both' × (events ≡ first ++ later))

-- ---- A LINK arrives and connects transport; then all of a file's requests are said on it.
abbrev pub arrived : (link : ℕ) → Serving → Both
arrived link serving =
    after_event (coming link (packet request)) (after_event (Arrived link) (record { serving = serving; calling = beginning }))

abbrev pub arrivals : (link : ℕ) → List ScriptEvent
arrivals link = Arrived link ∷ coming link (packet request) ∷ []

pub record MakesFile (number link : ℕ) (serving : Serving) (events : List ScriptEvent) (serving' : Serving) : Type 0 where
  pub said : List ScriptEvent
  pub both : Both
  pub says : SaysAll link (requests_for (name_of link) (contents_after number)) (arrived link serving) said both
  pub events_are : events ≡ arrivals link ++ said
  pub serving_is : serving' ≡ both.serving

-- ---- ALL FILES, the first one on the first link: so many of them, and then one more
abbrev pub MakesFiles : (number count : ℕ) → Serving → List ScriptEvent → Serving → Type 0
MakesFiles number zero serving events serving' = (events ≡ []) × (serving' ≡ serving)
MakesFiles number (suc count) serving events serving' =
    (first later : List ScriptEvent) × (between : Serving)
    × (MakesFiles number count serving first between × MakesFile (after_files number count) (count + 1) between later serving' × (events ≡ first ++ later))

-- ---- WHAT IS PRINTED: how many files the store has then, and how many octets
abbrev pub counts_lines : Tables → List ℕ
counts_lines tables =
    codes "files " ++ (decimal (length tables.files) ++ (line_feed ∷ (codes "octets " ++ (decimal (min (octets_of_files tables.files) last_count) ++ line_feed ∷ []))))

abbrev pub counts_printed : Tables → Printed
counts_printed tables = record { octets = counts_lines tables; status = 0 }

-- the statuses of `generate`
abbrev pub EndsGenerate : ℕ → Type 0
EndsGenerate status = IsOneOf (0 ∷ 4 ∷ 5 ∷ 8 ∷ 9 ∷ 12 ∷ []) status

-- ---- UP TO WHERE the making came: a request, a file or all of them may be left
abbrev pub SaysFront : (link : ℕ) → List Request → Both → List ScriptEvent → Type 0
SaysFront link [] both events = events ≡ []
SaysFront link (request ∷ requests) both events =
    (events ≡ [])
    ⊎ ((first later : List ScriptEvent) × (between : Both) × (SaysOne link request both first between × SaysFront link requests between later × (events ≡ first ++ later)))

abbrev pub FrontOfFile : (number link : ℕ) → Serving → List ScriptEvent → Type 0
FrontOfFile number link serving events =
    (events ≡ []) ⊎ ((events ≡ Arrived link ∷ [])
    ⊎ ((said : List ScriptEvent) × (SaysFront link (requests_for (name_of link) (contents_after number)) (arrived link serving) said × (events ≡ arrivals link ++ said))))

-- so many files of `count`, and a front of the next one
abbrev pub FrontOfFiles : (number count : ℕ) → Serving → List ScriptEvent → Type 0
FrontOfFiles number count serving events =
    (made : ℕ) × (first later : List ScriptEvent) × (between : Serving)
    × ((made ≤ count) × MakesFiles number made serving first between × FrontOfFile (after_files number made) (made + 1) between later × (events ≡ first ++ later))

-- what a crash may leave meanwhile: the tables after some number of the answers to such a front
abbrev pub AlongFront : (List ScriptEvent → Type 0) → Serving → List ℕ → Type 0
AlongFront front serving image = (events : List ScriptEvent) × front events × RepresentsAlong serving (run events serving) image

-- where a full store is told: in the last event of such a front, at a message whose record would end at this place
abbrev pub IsFullOf : {D : Type 0} → (List ScriptEvent → Type 0) → Serving → StoreState D → (place : ℕ) → Type 0
IsFullOf front serving store place = (before : List ScriptEvent) × (event : ScriptEvent) × front (before ++ event ∷ []) × IsFullAfter serving before event store place

-- in the store of the disk that is left
abbrev pub IsFullOn : {D : Type 0} → (D → ℕ) → (limit : ℕ) → (List ScriptEvent → Type 0) → Serving → D → (place : ℕ) → Type 0
IsFullOn {D} size limit front serving disk place = (store : StoreState D) × IsStoreOf size limit disk store × IsFullOf front serving store place

-- ---- WHAT A CALL OWES. It has an answer: the files were made, or it is told why not.
abbrev pub Answer : Type 0
Answer = Result (Unit {0}) JournalError

abbrev pub good : Answer
good = Ok tt

-- What is printed of it, where these are the tables then. Of a fault of the disk and of want of memory no line tells.
abbrev pub PrintsMade : Tables → Answer → ℕ → (old new : Option (List ℕ)) → Type 0
PrintsMade tables (Ok done) status old new = Prints (4 ∷ 9 ∷ []) (counts_printed tables) status old new
PrintsMade tables (Err error) status old new = PrintsError error status old new

-- That the disk has no store is told exactly where its image isn't one, unless the disk fails.
abbrev pub refused_in : Answer → Option Refusal
refused_in (Err (NotAStore place found expected)) = Some (record { place = place; found = found; expected = expected })
refused_in answer = None

abbrev pub RefusesGenerate : (image : List ℕ) → Answer → Type 0
RefusesGenerate image (Err DiskFault) = Unit {0}
RefusesGenerate image answer = refused_in answer ≡ refusal image

-- No count rises without a fault, and none is told without one; that the disk is full comes by both numbers.
abbrev pub GenerateCauses : (limit before after : ℕ) → Answer → Type 0
GenerateCauses limit before after (Ok done) = after ≡ before
GenerateCauses limit before after (Err error) = RespondCauses limit before after error

-- the limit of the octets of a store
abbrev pub store_limit : ℕ
store_limit = 1073741824

-- a crash leaves one image, which represents the tables
abbrev pub IsLeft : {D : Type 0} → (D → Option (List ℕ)) → (D → List ℕ → Type 0) → D → Tables → Type 0
IsLeft shown may_leave disk tables = (image : List ℕ) × (shown disk ≡ Some image) × LeavesShown (shown disk) (may_leave disk) × ImageRepresents image tables

-- At a good end all files were made from where the responder began, and the disk keeps the tables then.
pub record Makes {D : Type 0} (shown : D → Option (List ℕ)) (may_leave : D → List ℕ → Type 0) (number count : ℕ) (serving : Serving) (after : D) (tables : Tables) : Type 0 where
  pub events : List ScriptEvent
  pub serving' : Serving
  pub makes : MakesFiles number count serving events serving'
  pub runs : serving' ≡ at_end serving (run events serving)
  pub tables_are : tables ≡ tables_in serving'
  pub left : IsLeft shown may_leave after tables

abbrev pub MakesWell : {D : Type 0} → (D → Option (List ℕ)) → (D → List ℕ → Type 0) → (number count : ℕ) → Serving → D → Tables → Answer → Type 0
MakesWell shown may_leave number count serving after tables (Ok done) = Makes shown may_leave number count serving after tables
MakesWell shown may_leave number count serving after tables (Err error) = Unit {0}

pub record DoesGenerate {D : Type 0} (shown : D → Option (List ℕ)) (size : D → ℕ) (may_leave : D → List ℕ → Type 0) (moment : D → ℕ) (left_since : D → ℕ → List ℕ → Type 0) (number count : ℕ) (before after : D)
    (disk_faults disk_faults' : ℕ) (status : ℕ) (taken taken' : Option (List ℕ)) : Type 0 where
  pub answer : Answer
  pub tables : Tables
  pub printed : PrintsMade tables answer status taken taken'
  pub causes : GenerateCauses store_limit disk_faults disk_faults' answer
  pub refuses : (image : List ℕ) → shown before ≡ Some image → RefusesGenerate image answer
  pub makes : (image : List ℕ) (old : Tables) (serving : Serving) → shown before ≡ Some image → ImageRepresents image old → IsBegun old serving
      → MakesWell shown may_leave number count serving after tables answer
  -- a full store is told at a message
  pub full : (image : List ℕ) (old : Tables) (serving : Serving) → shown before ≡ Some image → ImageRepresents image old → IsBegun old serving
      → WhereFull answer (IsFullOn size store_limit (FrontOfFiles number count serving) serving after)
  -- at any moment a crash leaves the tables after some number of the answers
  pub any_moment : (image : List ℕ) (old : Tables) (serving : Serving) → shown before ≡ Some image → ImageRepresents image old → ((image : List ℕ) → may_leave before image → ImageRepresents image old)
      → IsBegun old serving → LeavesOnly moment left_since before after (AlongFront (FrontOfFiles number count serving) serving)

-- ---- THE CODE: the calling end of a link, as an association
pub record IsCalling (stack : stacks.Kept) (calling : Association) : Type 0 where
  pub side : side_of stack ≡ Initiator
  pub offer : offer_of stack ≡ false
  pub represents : stacks.Represents stack calling

-- Something was done from a state of the run: at any moment a crash leaves the tables after some number of the answers to a front of
-- it; a full store is told at a message of it; and where it went well, all of it was done.
pub record Goes {D : Type 0} (shown : D → Option (List ℕ)) (may_leave : D → List ℕ → Type 0) (moment : D → ℕ) (left_since : D → ℕ → List ℕ → Type 0)
    (Done : List ScriptEvent → Serving → Type 0) (Front : List ScriptEvent → Type 0) (serving : Serving) (old new : Kept D) (answer : Answer) : Type 0 where
  pub any_moment : LeavesOnly moment left_since old.store.disk new.store.disk (AlongFront Front serving)
  pub full : WhereFull answer (IsFullOf Front serving new.store)
  pub done : OnOk answer ((events : List ScriptEvent) × (serving' : Serving)
      × (Done events serving' × (serving' ≡ at_end serving (run events serving)) × Represents new serving' × IsRepresented shown may_leave new.store))

-- requests, after which the calling end stands so
abbrev pub HasSaid : (link : ℕ) → List Request → Both → stacks.Kept → List ScriptEvent → Serving → Type 0
HasSaid link requests both stack events serving' =
    (calling : Association) × (SaysAll link requests both events (record { serving = serving'; calling = calling }) × IsCalling stack calling)

-- A link has arrived and transport is connected, or the responder couldn't go on with it.
abbrev pub HasCalled : (link : ℕ) → Serving → stacks.Kept → List ScriptEvent → Serving → Type 0
HasCalled link serving stack events serving' =
    (events ≡ arrivals link) × (serving' ≡ (arrived link serving).serving) × IsCalling stack (arrived link serving).calling

abbrev pub ArrivalFront : (link : ℕ) → List ScriptEvent → Type 0
ArrivalFront link events = (events ≡ []) ⊎ ((events ≡ Arrived link ∷ []) ⊎ (events ≡ arrivals link))

abbrev pub HasArrived : {D : Type 0} → (D → Option (List ℕ)) → (D → List ℕ → Type 0) → (D → ℕ) → (D → ℕ → List ℕ → Type 0) → (link : ℕ) → Serving → (old new : Kept D) → Result Peer JournalError → Type 0
HasArrived shown may_leave moment left_since link serving old new (Ok peer) =
    (peer.link ≡ link) × Goes shown may_leave moment left_since (HasCalled link serving peer.stack) (ArrivalFront link) serving old new good
HasArrived shown may_leave moment left_since link serving old new (Err error) =
    Goes shown may_leave moment left_since (λ events serving'. Unit {0}) (ArrivalFront link) serving old new (Err error)
