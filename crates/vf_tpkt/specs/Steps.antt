-- The steps of receiving a stream, as the functions that take them promise. Want of memory, which may come at any
-- of them, ends the reading with fewer units and answers than the stream holds.
use Rattle.std.specs.Prelude.{◌≡◌, ℕ, ◌+◌, ◌≤◌, Bool, true, ◌&&◌, nat_le, List, [], ◌++◌, length, drop, slice_index, Result, Ok, Err, ◌⊎◌, ◌*◌, ◌<◌, zero, suc}
use Rattle.vf_base.specs.declared.errors.NoMemory.{NoMemory}
use Rattle.vf_tpkt.specs.declared.error.TpktError.{TpktError}
use Rattle.vf_tpkt.specs.declared.error.TpktError.TheVariants as errors
use Rattle.vf_tpkt.specs.declared.kind.Kind.{Kind}
use Rattle.vf_tpkt.specs.declared.phase.Phase.{Phase}
use Rattle.vf_tpkt.specs.declared.phase.Phase.TheVariants.{Open}
use Rattle.vf_tpkt.specs.declared.unit.Unit.{Unit as Told}
use Rattle.vf_tpkt.specs.Receiving.{Progress, Reading, checked, units_of, after, first_packet, part, bad, whole, receiving, preceded, stopped}
use Rattle.vf_tpkt.specs.Pieces.{Extends, TellsPrefix}
use Rattle.std.specs.Borrow.{Bor}
use Rattle.vf_tpkt.specs.Tpdu.{answer_of}

-- A DT that is sent has one octet of data at least, and fits a packet.
abbrev pub has_room : Phase → Bool
has_room (Open most) = nat_le 1 most && nat_le most 65528
has_room phase = true

-- A TPDU of this kind told its unit and its answer, or memory was wanting and it told neither.
abbrev pub TellsTpdu : Progress → Kind → List ℕ → List Told → List ℕ → Progress → List Told → List ℕ → Result (Unit {0}) NoMemory → Type 0
TellsTpdu p kind tpdu units answers q units' answers' (Ok done) =
    (q ≡ after p kind tpdu) × (units' ≡ units ++ units_of p kind tpdu) × (answers' ≡ answers ++ answer_of kind tpdu)
TellsTpdu p kind tpdu units answers q units' answers' (Err wanting) = (units' ≡ units) × (answers' ≡ answers)

-- A whole TPDU was received, or it was refused and nothing changed.
abbrev pub ReceivesTpdu : Progress → List ℕ → List Told → List ℕ → Progress → List Told → List ℕ → Result (Unit {0}) TpktError → Type 0
ReceivesTpdu p tpdu units answers q units' answers' (Ok done) =
    (kind : Kind) × (checked p tpdu ≡ Ok kind) × (q ≡ after p kind tpdu) × (units' ≡ units ++ units_of p kind tpdu) × (answers' ≡ answers ++ answer_of kind tpdu)
ReceivesTpdu p tpdu units answers q units' answers' (Err fault) =
    (units' ≡ units) × (answers' ≡ answers) × ((fault ≡ errors.NoMemory) ⊎ ((checked p tpdu ≡ Err fault) × (q ≡ p)))

-- These octets hold no more than one packet. The length in the header counts all of them.
abbrev pub size_in : List ℕ → ℕ
size_in packet = slice_index packet 2 * 256 + slice_index packet 3

abbrev pub FitsOne : List ℕ → Type 0
FitsOne packet = 4 < length packet → length packet ≤ size_in packet

-- How many octets the beginning of a packet lacks before it is looked at again.
abbrev pub WantsSome : ℕ → List ℕ → ℕ → Type 0
WantsSome place packet zero = first_packet place packet ≡ whole (drop 4 packet) []
WantsSome place packet (suc count) =
    (first_packet place packet ≡ part) × ((more : List ℕ) → length more ≤ suc count → FitsOne (packet ++ more))

abbrev pub Wants : ℕ → List ℕ → Result ℕ TpktError → Type 0
Wants place packet (Ok count) = WantsSome place packet count
Wants place packet (Err fault) = first_packet place packet ≡ bad fault

-- The reading ended with this fault.
abbrev pub Stops : Reading → List Told → List ℕ → Progress → List Told → List ℕ → TpktError → Type 0
Stops r told answered q told' answered' fault =
    (preceded told answered r ≡ record { units = told'; answers = answered'; kept = stopped q fault })
    ⊎ ((fault ≡ errors.NoMemory) × TellsPrefix r told answered told' answered')

-- What is left to read tells what the whole told.
pub record Onward (p : Progress) (octets : List ℕ) (told : List Told) (answered : List ℕ) (q : Progress) (packet rest : List ℕ) (told' : List Told) (answered' : List ℕ) : Type 0 where
  pub same : preceded told answered (receiving p octets) ≡ preceded told' answered' (receiving q (packet ++ rest))
  pub begun : first_packet q.place packet ≡ part
  pub units : Extends told told'
  pub answers : Extends answered answered'

-- The beginning of a packet was looked at, and received where it was a whole one.
abbrev pub Looks : Progress → List ℕ → List Told → List ℕ → Progress → List ℕ → List Told → List ℕ → Result (Unit {0}) TpktError → Type 0
Looks p packet told answered q packet' told' answered' (Ok done) = (rest : List ℕ) → Onward p (packet ++ rest) told answered q packet' rest told' answered'
Looks p packet told answered q packet' told' answered' (Err fault) = (rest : List ℕ) → Stops (receiving p (packet ++ rest)) told answered q told' answered' fault

-- Octets of a piece were taken.
abbrev pub Moves : Progress → List ℕ → List ℕ → List Told → List ℕ → Progress → List ℕ → List Told → List ℕ → Result (Bor (List ℕ)) TpktError → Type 0
Moves p packet piece told answered q packet' told' answered' (Ok rest) =
    Onward p (packet ++ piece) told answered q packet' rest.now told' answered' × (length rest.now < length piece)
Moves p packet piece told answered q packet' told' answered' (Err fault) = Stops (receiving p (packet ++ piece)) told answered q told' answered' fault

-- All of a piece was received.
abbrev pub ReceivesAll : Progress → List ℕ → List ℕ → List Told → List ℕ → Progress → List ℕ → List Told → List ℕ → Result (Unit {0}) TpktError → Type 0
ReceivesAll p packet piece told answered q packet' told' answered' (Ok done) = Onward p (packet ++ piece) told answered q packet' [] told' answered'
ReceivesAll p packet piece told answered q packet' told' answered' (Err fault) = Stops (receiving p (packet ++ piece)) told answered q told' answered' fault
