-- What `dialogue` prints (profile): one party's messages over a filestore that starts empty. It has no layers
-- below, so a piece of the stream of messages is a line, and every message comes at moment 0.
use Rattle.std.specs.Prelude.{◌≡◌, ◌⊎◌, ℕ, zero, suc, Bool, true, false, List, [], ◌∷◌, ◌++◌, length, drop, map, Option, None, Some, Result, Ok, Err, if◌then◌else◌}
use Rattle.std.specs.List.{flat_map, list_any}
use Rattle.vf_ber.specs.Reader.{reading}
use Rattle.vf_ber.specs.Spelling.{spell}
use Rattle.vf_ber.specs.Reading.{Reading, Short, Bad, Deep, Long, Read}
use Rattle.vf_elements.specs.ElementValue.{value as element_value}
use Rattle.vf_elements.specs.Messages.{message_in, place_of}
use Rattle.vf_elements.specs.declared.message.Message.{Message}
use Rattle.vf_elements.specs.declared.message.Said.{Said}
use Rattle.vf_elements.specs.declared.message.Said.TheVariants as answers
use Rattle.vf_pdu_fields.specs.Fault.{Fault}
use Rattle.vf_pdu.specs.PduValue.{value}
use Rattle.vf_pdu.specs.declared.pdu.Pdu.TheVariants.{ProviderAbort}
use Rattle.vf_filestore.specs.Aborts.{Setting}
use Rattle.vf_filestore.specs.Runs.{arrives, beginning}
use Rattle.vf_filestore.specs.State.{State}
use Rattle.vf_filestore.specs.Transition.{Sent, Turn, fault, transition}
use Rattle.vf_cli_dialogue.specs.Lines.{Input, says, hex_line, bad_line}
use Rattle.vf_cli_printing.specs.Printed.{IsOneOf, Printed, Prints}

-- a message, or octets outside the grammar with the place of their fault
pub data Received : Type 0 where
  Heard : Message → Received
  Faulty : ℕ → Received

-- the abort of octets that are no message (profile)
abbrev pub outside : ℕ
outside = 101

abbrev pub heard : Result Message Fault → Received
heard (Ok message) = Heard message
heard (Err fault) = Faulty (place_of fault)

-- what the first octets are received as, and after them what `after` makes of the rest
abbrev pub received_first : (List ℕ → List Received) → List ℕ → Reading → List Received
received_first after octets Short = []
received_first after octets (Bad at) = Faulty at ∷ []
received_first after octets (Deep at) = Faulty at ∷ []
received_first after octets (Long at) = Faulty at ∷ []
received_first after octets (Read tree n) = heard (message_in tree) ∷ after (drop n octets)

-- The messages of a stream, one after another. A rest that is no whole value yet is nothing, and after octets
-- that begin no value nothing is read. The bound is on their number; the number of octets is always enough.
unfoldable pub received_within : ℕ → List ℕ → List Received
received_within zero octets = []
received_within (suc most) octets = received_first (received_within most) octets (reading octets)

abbrev pub received : List ℕ → List Received
received octets = received_within (length octets) octets

-- the number of the one link
abbrev pub link : ℕ
link = 1

-- the filestore at its start: no user, no file, and the one party
abbrev pub opened : State
opened = arrives link (beginning [] [])

-- No session stands below (ISO 8327), so that none agreed to synchronize, and no end has a token.
abbrev pub setting : Setting
setting = record { moment = 0; serial = 1; token = false; sync = false }

-- What comes of what the party receives. Where it is gone, nothing does.
abbrev pub turn : State → Received → Turn
turn state (Heard message) = transition state link setting message
turn state (Faulty place) = fault state link outside place

abbrev pub said_of : Sent → Said
said_of sent = sent.said

-- what is said, all of it on the one link
abbrev pub said_in : Turn → List Said
said_in turn = map said_of turn.sent

abbrev pub is_abort : Said → Bool
is_abort (answers.Abort number place) = true
is_abort _ = false

-- all that is said to what is received from this state on; after an abort nothing is received
abbrev pub said_to : State → List Received → List Said
said_to state [] = []
said_to state (thing ∷ things) =
    let now = turn state thing in
    said_in now ++ (if list_any is_abort (said_in now) then [] else said_to now.state things)

-- A reply is a line. Checkpoints are the session's (ISO 8327), of which there is none: they have no line.
abbrev pub reply : Said → List ℕ
reply (answers.Pdu pdu) = hex_line (spell (value pdu))
reply (answers.Element element) = hex_line (spell (element_value element))
reply (answers.Check point) = []
reply (answers.Acknowledge point) = []
reply (answers.Abort number place) = hex_line (spell (value (ProviderAbort number place)))

abbrev pub after_replies : Option ℕ → Printed
after_replies None = record { octets = []; status = 0 }
after_replies (Some number) = record { octets = bad_line number; status = 11 }

-- Replies to the pieces before the first bad line. After an abort that was said nothing is read, and so the bad
-- line isn't told.
abbrev pub prints_after : List Said → Option ℕ → Printed
prints_after said bad =
    let last = if list_any is_abort said then record { octets = []; status = 7 } else after_replies bad in
    record { octets = flat_map reply said ++ last.octets; status = last.status }

abbrev pub joined : List (List ℕ) → List ℕ
joined = flat_map (λ piece. piece)

-- what is printed to an input from this state on, with octets of a message that isn't whole yet before it
abbrev pub dialogue_from : State → List ℕ → Input → Printed
dialogue_from state pending input = prints_after (said_to state (received (pending ++ joined input.pieces))) input.bad

abbrev pub dialogue : List ℕ → Printed
dialogue octets = dialogue_from opened [] (says octets)

-- The faults of the outside that may keep a dialogue from its end: of the input 3, of the output 4, of memory 9.
abbrev pub faults : List ℕ
faults = 3 ∷ 4 ∷ 9 ∷ []

-- the statuses with which a dialogue comes to its end
abbrev pub EndsDialogue : ℕ → Type 0
EndsDialogue status = (status ≡ 0) ⊎ (status ≡ 7) ⊎ (status ≡ 11)

-- What a call owes: of its status, by what the source had left before it and what the sink had taken before and after
-- it. Where a source doesn't tell what it has, only the statuses are owed.
abbrev pub MeetsDialogue : ℕ → Option (List ℕ) → Option (List ℕ) → Option (List ℕ) → Type 0
MeetsDialogue status None old new = EndsDialogue status ⊎ IsOneOf faults status
MeetsDialogue status (Some input) old new = Prints faults (dialogue input) status old new
