-- Which states of the run a responder in the code represents, and what is kept of one (profile).
use Rattle.std.specs.Prelude.{◌≡◌, ℕ, ◌<◌, Bool, true, false, List, [], ◌∷◌, ◌++◌, None, Option, Some, Result, Ok, Err, length, nat_eq, if◌then◌else◌}
use Rattle.std.specs.List.{IsDistinct}
use Rattle.std.specs.Map.{keys_of, lookup}
use Rattle.vf_base.specs.Faults.{HasRisen}
use Rattle.vf_disk.specs.Disk.{LeavesOnly}
use Rattle.vf_elements.specs.declared.message.Message.{Message}
use Rattle.vf_elements.specs.Stages.{takes}
use Rattle.vf_elements.specs.declared.message.Message.TheVariants as messages
use Rattle.vf_filestore.specs.HoldersAfter.{Keeps}
use Rattle.vf_filestore.specs.Opening.{is_at}
use Rattle.vf_filestore.specs.Stage.{stage}
use Rattle.vf_pdu.specs.declared.pdu.Pdu.TheVariants.{RecoverRequest}
use Rattle.vf_filestore.specs.Transition.{superseded_by}
use Rattle.vf_filestore.specs.Ranges.{IsReached}
use Rattle.vf_filestore.specs.State.{StandingParty, party_of}
use Rattle.vf_filestore.specs.Tables.{tables_of}
use Rattle.vf_journal.specs.declared.error.JournalError.{JournalError}
use Rattle.vf_journal.specs.declared.error.JournalError.TheVariants.{NotAStore, Full, DiskFault, NoMemory}
use Rattle.vf_locks.specs.declared.held.Held.{Held}
use Rattle.vf_party.specs.Turns.{IsParty}
use Rattle.vf_stack.specs.Association.{Association}
use Rattle.vf_store.specs.StoreState.{IsRepresented, StoreState}
use Rattle.vf_responder.specs.Along.{RepresentsAlong}
use Rattle.vf_responder.specs.Answers.{Answer, at_end, giving_way, spoken_in}
use Rattle.vf_responder.specs.Serving.{Serving}
use Rattle.vf_responder.specs.Steps.{IsCalled}
use Rattle.vf_responder.specs.declared.event.Reply.{Reply}
use Rattle.vf_responder.specs.declared.keeping.Keeping.{Keeping}
use Rattle.vf_responder.specs.declared.link.Link.{Link}

-- What the code keeps: the store, who holds each file, and the links that stand, each with its number.
pub record Kept (D : Type 0) : Type 0 where
  pub store : StoreState D
  pub locks : List (List ℕ × List Held)
  pub links : List (ℕ × Link)

abbrev pub kept_of : {D : Type 0} → Keeping D → Kept D
kept_of keeping = record { store = keeping.store; locks = keeping.locks; links = keeping.links.entries }

abbrev pub link_of : (number : ℕ) → List (ℕ × Link) → Option Link
link_of number entries = lookup (nat_eq number) entries

-- a link in the code is this one of the run: a called end, with its party
pub record IsLink (number : ℕ) (link : Link) (party : StandingParty) (association : Association) : Type 0 where
  pub numbered : link.number ≡ number
  pub called : IsCalled link.stack association
  pub represented : IsParty link.party party

abbrev pub IsLinkOf : (number : ℕ) → Option Link → Option StandingParty → Association → Type 0
IsLinkOf number None None association = Unit {0}
IsLinkOf number (Some link) (Some party) association = IsLink number link party association
IsLinkOf number link party association = ⊥

pub record Represents {D : Type 0} (kept : Kept D) (serving : Serving) : Type 0 where
  pub tables : tables_of serving.filestore ≡ kept.store.tables
  pub held : Keeps kept.locks serving.filestore
  pub links : (number : ℕ) → IsLinkOf number (link_of number kept.links) (party_of number serving.filestore.parties) (serving.associations number)
  pub counted : length kept.links ≡ length serving.filestore.parties
  pub distinct : IsDistinct nat_eq (keys_of kept.links)
  pub reached : IsReached serving.filestore

-- a link put among the others, and one that was taken out of them put back where it still stands
abbrev pub with_link : {D : Type 0} → Link → Kept D → Kept D
with_link link kept = record kept { links = kept.links ++ (link.number, link) ∷ [] }

abbrev pub put_back : {D : Type 0} → (goes : Bool) → Link → Kept D → Kept D
put_back true link kept = with_link link kept
put_back false link kept = kept

-- THE ANSWERS TO SOMETHING were appended to the replies, and the state after them is represented,
pub record Answers {D : Type 0} (answers : List Answer) (serving : Serving) (old : List Reply) (kept : Kept D) (new : List Reply) : Type 0 where
  pub spoken : new ≡ old ++ spoken_in answers
  pub represents : Represents kept (at_end serving answers)

-- by every state that was represented;
abbrev pub Does : {D : Type 0} → (Serving → List Answer) → Kept D → List Reply → Kept D → List Reply → Type 0
Does answers kept old kept' new = (serving : Serving) → Represents kept serving → Answers (answers serving) serving old kept' new

-- and meanwhile the disk represented the tables after some number of them.
abbrev pub KeepsAlong : {D : Type 0} → (Serving → List Answer) → (D → Option (List ℕ)) → (D → List ℕ → Type 0) → (D → ℕ) → (D → ℕ → List ℕ → Type 0) → Kept D → Kept D → Type 0
KeepsAlong answers shown may_leave moment left_since kept kept' =
    (serving : Serving) → Represents kept serving → IsRepresented shown may_leave kept.store
    → LeavesOnly moment left_since kept.store.disk kept'.store.disk (RepresentsAlong serving (answers serving))

-- what is said to an association that is in the way of a message
abbrev pub way_by : Message → Serving → Option StandingParty → List Answer
way_by message serving None = []
way_by message serving (Some party) = giving_way serving (superseded_by serving.filestore party message)

-- of what opening answers, the disk, and the answer without it
abbrev pub disk_of : {D E : Type 0} → Result (Kept D) (D × E) → D
disk_of (Ok kept) = kept.store.disk
disk_of (Err back) = back.0

abbrev pub answer_of : {D E : Type 0} → Result (Kept D) (D × E) → Result (Kept D) E
answer_of (Ok kept) = Ok kept
answer_of (Err back) = Err back.1

-- the activity that a message asks to recover, where the party's stage takes it
abbrev pub recovered_by : StandingParty → Message → Option ℕ
recovered_by party (messages.Pdu (RecoverRequest activity number point)) =
    if takes (stage party) (messages.Pdu (RecoverRequest activity number point)) then Some activity else None
recovered_by party message = None

-- whether every party that the link's may be has this identity and a recoverable open of this activity
abbrev pub IsWith : (identity : List ℕ) (activity : ℕ) → Bool → Link → Type 0
IsWith identity activity answer link = (party : StandingParty) → IsParty link.party party → is_at identity activity party ≡ answer

-- An error stays; putting back alone may lack memory.
abbrev pub IsErrorOf : Result Bool JournalError → Result (Unit {0}) JournalError → Type 0
IsErrorOf (Ok goes) (Ok done) = Unit {0}
IsErrorOf (Ok goes) (Err error) = error ≡ NoMemory
IsErrorOf (Err error) (Ok done) = ⊥
IsErrorOf (Err error) (Err other) = other ≡ error

-- CAUSES of what is answered to an event: full exactly by numbers, and a fault of the disk only where its count rose.
abbrev pub AnswerCauses : {T : Type 0} → (limit before after : ℕ) → Result T JournalError → Type 0
AnswerCauses limit before after (Ok done) = after ≡ before
AnswerCauses limit before after (Err DiskFault) = HasRisen before after
AnswerCauses limit before after (Err (Full length bound)) = (limit < length) × (bound ≡ limit) × (after ≡ before)
AnswerCauses limit before after (Err NoMemory) = after ≡ before
AnswerCauses limit before after (Err (NotAStore place found expected)) = ⊥

-- THE OTHER ASSOCIATION that stands in the way of a recovery on this link is gone, once it was told so.
abbrev pub way_of : Link → Message → Serving → List Answer
way_of link message serving = way_by message serving (party_of link.number serving.filestore.parties)

abbrev pub GivesWay : {D : Type 0} → Link → Message → Kept D → List Reply → Kept D → List Reply → Type 0
GivesWay link message kept old kept' new =
    (serving : Serving) → Represents (with_link link kept) serving → Answers (way_of link message serving) serving old (with_link link kept') new
