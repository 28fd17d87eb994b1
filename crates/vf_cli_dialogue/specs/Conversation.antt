-- What the parts of `dialogue` answer, by what it prints.
use Rattle.std.specs.Prelude.{◌≡◌, ◌<◌, ◌≤◌, ◌+◌, ◌-◌, ◌*◌, drop, length as length_of, ℕ, Bool, true, false, List, [], ◌∷◌, ◌++◌, Option, None, Some, Result, Ok, Err}
use Rattle.std.specs.List.{flat_map, list_any}
use Rattle.vf_ber.specs.Reader.{reading}
use Rattle.vf_ber.specs.Reading.{Reading, Short, Bad, Deep, Long, Read}
use Rattle.vf_elements.specs.Messages.{message_in, place_of}
use Rattle.vf_elements.specs.declared.message.Message.{Message}
use Rattle.vf_pdu_fields.specs.Fault.{Fault}
use Rattle.vf_filestore.specs.Sayable.{CanTell}
use Rattle.vf_filestore.specs.State.{State, party_of}
use Rattle.vf_filestore.specs.Transition.{Turn}
use Rattle.vf_elements.specs.declared.message.Said.{Said}
use Rattle.vf_party.specs.GoingOn.{StandsAs}
use Rattle.vf_party.specs.Turns.{IsTaken}
use Rattle.vf_party.specs.declared.party.Outcome.{Outcome}
use Rattle.vf_party.specs.declared.party.Party.{Party}
use Rattle.vf_tables.specs.declared.change.Change.{Change}
use Rattle.vf_ber_scan.specs.Scanned.{HasTaken}
use Rattle.vf_ber_scan.specs.declared.scan.Scan.{Scan}
use Rattle.vf_cli_dialogue.specs.declared.conversation.After.{After}
use Rattle.vf_cli_dialogue.specs.declared.conversation.After.TheVariants as after
use Rattle.vf_cli_dialogue.specs.declared.conversation.Conversation.{Conversation}
use Rattle.vf_cli_dialogue.specs.declared.conversation.Filestore.{Filestore}
use Rattle.vf_cli_dialogue.specs.declared.conversation.Stream.{Stream}
use Rattle.vf_cli_dialogue.specs.declared.conversation.Stream.TheVariants as stream
use Rattle.vf_cli_dialogue.specs.declared.conversation.First.{First}
use Rattle.vf_cli_dialogue.specs.Dialogue.{dialogue, dialogue_from, received, is_abort, link, reply, said_in, said_to, setting}
use Rattle.vf_cli_dialogue.specs.declared.lines.NextLine.{NextLine}
use Rattle.vf_cli_dialogue.specs.Lines.{Input, input_limit}
use Rattle.vf_cli_dialogue.specs.Reader.{Answers, Place}
use Rattle.vf_cli_dialogue.specs.declared.answering.Interruption.{Interruption}
use Rattle.vf_cli_dialogue.specs.Dialogue.{EndsDialogue}
use Rattle.vf_cli_printing.specs.Printed.{Printed, Wrote, WrotePrefix}

-- where a value that was read so has its fault
abbrev pub IsFaultIn : Result Message Fault → ℕ → Type 0
IsFaultIn read place = (fault : Fault) × (read ≡ Err fault) × (place ≡ place_of fault)

-- where octets of this reading have theirs
abbrev pub IsFault : Reading → ℕ → Type 0
IsFault Short place = ⊥
IsFault (Bad at) place = place ≡ at
IsFault (Deep at) place = place ≡ at
IsFault (Long at) place = place ≡ at
IsFault (Read tree n) place = IsFaultIn (message_in tree) place

-- octets of this reading begin with no value: they are a proper prefix of one, or have a fault
abbrev pub IsUnread : Reading → Option ℕ → Type 0
IsUnread reading None = reading ≡ Short
IsUnread reading (Some place) = IsFault reading place

-- The party that goes on stands alone in the state, of which the filestore has the tables and the locks. The state is one
-- that messages reach that were read from octets, so that all that is said in it has a value.
pub record Holds (filestore : Filestore) (state : State) : Type 0 where
  pub goes : StandsAs filestore.tables filestore.locks state link filestore.party
  pub alone : length_of state.parties ≤ 1
  pub telling : CanTell state

-- the octets that a party hasn't taken; one that is gone takes none
abbrev pub octets_in : Stream → List ℕ
octets_in stream.Gone = []
octets_in (stream.Waiting pending) = pending.items
octets_in (stream.Ready octets) = octets
octets_in (stream.Pair first second) = first ∷ second ∷ []

abbrev pub is_ready : Stream → Bool
is_ready stream.Gone = false
is_ready (stream.Waiting pending) = false
is_ready (stream.Ready octets) = true
is_ready (stream.Pair first second) = true

-- the octets that are left, where there are any
abbrev pub left_in : Option (List ℕ) → List ℕ
left_in None = []
left_in (Some octets) = octets

-- how much is left to be taken of a stream
abbrev pub size_of : Stream → ℕ
size_of stream.Gone = 0
size_of (stream.Waiting pending) = length_of pending.items
size_of (stream.Ready octets) = length_of octets + 1
size_of (stream.Pair first second) = 3

-- a party that goes on takes the octets of the stream, and the scan is of those that wait
abbrev pub IsTaking : Stream → Scan → Type 0
IsTaking stream.Gone scan = ⊥
IsTaking (stream.Waiting pending) scan = HasTaken scan pending.items
IsTaking (stream.Ready octets) scan = Unit {0}
IsTaking (stream.Pair first second) scan = Unit {0}

-- A filestore and the octets of a stream stand in this state. A party that is gone stands nowhere.
abbrev pub StandsBy : Filestore → Scan → State → Stream → Type 0
StandsBy filestore scan state stream.Gone = party_of link state.parties ≡ None
StandsBy filestore scan state (stream.Waiting pending) = Holds filestore state × HasTaken scan pending.items
StandsBy filestore scan state (stream.Ready octets) = Holds filestore state
StandsBy filestore scan state (stream.Pair first second) = Holds filestore state

abbrev pub Stands : Conversation → State → Type 0
Stands conversation state = StandsBy conversation.filestore conversation.scan state conversation.stream

-- octets that are no message yet: nothing is said to them
abbrev pub IsQuiet : State → List ℕ → Type 0
IsQuiet state pending = said_to state (received pending) ≡ []

-- where the party goes on and no more messages are to be taken, the octets that are left are a proper prefix of one
abbrev pub IsRest : After → Bool → List ℕ → Type 0
IsRest after.Goes false rest = reading rest ≡ Short
IsRest after.Goes true rest = Unit {0}
IsRest after.Gone more rest = Unit {0}
IsRest after.Aborted more rest = Unit {0}

-- the same printed after some octets
abbrev pub printed_after : List ℕ → Printed → Printed
printed_after octets printed = record { octets = octets ++ printed.octets; status = printed.status }

-- what is still printed after octets were taken, whatever comes: the replies, and what the next state prints
pub record Continues (old : State) (pending : List ℕ) (replies : List ℕ) (new : State) (rest : List ℕ) : Type 0 where
  pub prints : (input : Input) → dialogue_from old pending input ≡ printed_after replies (dialogue_from new rest input)

-- what is still printed is these replies and no more, since an abort was said
pub record Aborts (old : State) (pending : List ℕ) (replies : List ℕ) : Type 0 where
  pub prints : (input : Input) → dialogue_from old pending input ≡ record { octets = replies; status = 7 }

-- what became of the party with a turn: it goes on in the state after it, it is gone, or it was told an abort
abbrev pub Comes : Filestore → Turn → After → Type 0
Comes filestore turn after.Goes = Holds filestore turn.state × (list_any is_abort (said_in turn) ≡ false)
Comes filestore turn after.Gone = (party_of link turn.state.parties ≡ None) × (list_any is_abort (said_in turn) ≡ false)
Comes filestore turn after.Aborted = list_any is_abort (said_in turn) ≡ true

-- the replies of a turn were appended and its changes made
pub record Makes (turn : Turn) (old_replies new_replies : List ℕ) (filestore : Filestore) (rest : After) : Type 0 where
  pub said : new_replies ≡ old_replies ++ flat_map reply (said_in turn)
  pub comes : Comes filestore turn rest

-- there is a next party, and this is it
abbrev pub IsPut : Option Party → Party → Bool → Type 0
IsPut None party goes = goes ≡ false
IsPut (Some next) party goes = (party ≡ next) × (goes ≡ true)

-- What the party that holds answered, whose changes are still to be made: where it goes on, the next one is in its place.
pub record IsAnsweredBy (state : State) (before : Filestore) (holds : Holds before state) (message : Message) (filestore : Filestore)
    (goes : Bool) (said : List Said) (changes : List Change) : Type 0 where
  pub outcome : Outcome
  pub taken : IsTaken before.tables filestore.locks state holds.goes.standing setting message outcome
  pub says : said ≡ outcome.said.items
  pub differs : changes ≡ outcome.changes
  pub put : IsPut outcome.party filestore.party goes

-- what was made of octets in this state: the replies, and the state in which the rest will be received
abbrev pub Took : State → List ℕ → List ℕ → Filestore → After → List ℕ → Type 0
Took state octets replies filestore after.Goes rest =
    (next : State) × Holds filestore next × Continues state octets replies next rest
Took state octets replies filestore after.Gone rest =
    (next : State) × (party_of link next.parties ≡ None) × Continues state octets replies next rest
Took state octets replies filestore after.Aborted rest = Aborts state octets replies

-- the same, where the replies were appended to others
abbrev pub Appends : State → List ℕ → List ℕ → List ℕ → Filestore → After → List ℕ → Type 0
Appends state octets old new filestore ended rest =
    (replies : List ℕ) × (new ≡ old ++ replies) × Took state octets replies filestore ended rest

-- The first octets were taken, or are the begin of a message, and all is as it was.
abbrev pub TakesFirst : State → List ℕ → List ℕ → List ℕ → Filestore → Filestore → Option First → Type 0
TakesFirst state octets old new old_filestore filestore None =
    (reading octets ≡ Short) × (new ≡ old) × (filestore ≡ old_filestore)
TakesFirst state octets old new old_filestore filestore (Some first) =
    Appends state octets old new filestore first.after (drop first.length octets)

-- these octets are there, and more than none where the party goes on
abbrev pub Advances : List ℕ → First → Type 0
Advances octets first = (first.length ≤ length_of octets) × (first.after ≡ after.Goes → 0 < first.length)

-- a piece joins the octets that weren't taken, and nothing is said
abbrev pub Adds : State → Conversation → List ℕ → Conversation → Type 0
Adds state old piece new = Stands new state × Continues state (octets_in old.stream ++ piece) [] state (octets_in new.stream)

-- messages were taken: the replies were appended, and an abort was among them, or the conversation goes on
abbrev pub TakesReady : State → Conversation → List ℕ → List ℕ → Conversation → Bool → Type 0
TakesReady state old_conversation old new conversation true =
    (replies : List ℕ) × (new ≡ old ++ replies) × Aborts state (octets_in old_conversation.stream) replies
TakesReady state old_conversation old new conversation false =
    (replies : List ℕ) × (new ≡ old ++ replies)
    × ((next : State) × Stands conversation next × Continues state (octets_in old_conversation.stream) replies next (octets_in conversation.stream))

-- a fact of what a source still says, where it tells it
abbrev pub Told : Option Input → (Input → Type 0) → Type 0
Told None holds = Unit {0}
Told (Some input) holds = holds input

-- What came of a step. The dialogue goes on in another state after what was written, or what was written is all, with its
-- status.
abbrev pub Steps : State → List ℕ → Option Input → Option Input → Option (List ℕ) → Option (List ℕ) → Conversation → Option ℕ → Type 0
Steps state pending old_input new_input old new conversation None =
    (next : State) × (prefix : List ℕ) × Stands conversation next × Wrote prefix old new
    × Told old_input (λ input. (rest : Input) × (new_input ≡ Some rest)
    × (dialogue_from state pending input ≡ printed_after prefix (dialogue_from next (octets_in conversation.stream) rest)))
Steps state pending old_input new_input old new conversation (Some status) =
    (prefix : List ℕ) × Wrote prefix old new × Told old_input (λ input. dialogue_from state pending input ≡ record { octets = prefix; status = status })
    × EndsDialogue status

-- where a step was interrupted, a prefix of what would be printed was written
abbrev pub IsInterrupted : State → List ℕ → Option Input → Option (List ℕ) → Option (List ℕ) → Type 0
IsInterrupted state pending input old new = Told input (λ input. WrotePrefix (dialogue_from state pending input).octets old new)

-- a reader's answer, where the source's faults are those of the input
abbrev pub ReadsLine : Option Input → Option Input → List ℕ → Result NextLine Interruption → Type 0
ReadsLine old new piece (Ok next) = Answers old new piece (Ok next)
ReadsLine None new piece (Err interruption) = new ≡ None
ReadsLine (Some old) new piece (Err interruption) = new ≡ Some old

-- what is left to be read and taken
abbrev pub left_of : Place → Conversation → ℕ
left_of reader conversation = 2 * (input_limit - reader.count) + size_of conversation.stream

-- where the dialogue goes on, less is left
abbrev pub Goes : ℕ → ℕ → Option ℕ → Type 0
Goes old new None = new < old
Goes old new (Some status) = Unit {0}

-- all that a dialogue prints was written, with its status
abbrev pub PrintsAll : Option (List ℕ) → ℕ → Option (List ℕ) → Option (List ℕ) → Type 0
PrintsAll None status old new = Unit {0}
PrintsAll (Some input) status old new = (status ≡ (dialogue input).status) × Wrote (dialogue input).octets old new

abbrev pub PrintsPrefix : Option (List ℕ) → Option (List ℕ) → Option (List ℕ) → Type 0
PrintsPrefix None old new = Unit {0}
PrintsPrefix (Some input) old new = WrotePrefix (dialogue input).octets old new
