-- When it is answered that the disk is full (profile): the record of what a message changes would end past the limit.
use Rattle.std.specs.Prelude.{◌≡◌, ℕ, List, ◌∷◌, ◌++◌, Some, Result, Ok, Err}
use Rattle.vf_base.specs.declared.events.ScriptEvent.{ScriptEvent}
use Rattle.vf_elements.specs.declared.message.Message.{Message}
use Rattle.vf_filestore.specs.Records.{changes_by}
use Rattle.vf_filestore.specs.State.{StandingParty, party_of}
use Rattle.vf_filestore.specs.Transition.{answered}
use Rattle.vf_journal.specs.JournalState.{IsWithin}
use Rattle.vf_journal.specs.declared.error.JournalError.{JournalError}
use Rattle.vf_journal.specs.declared.error.JournalError.TheVariants.{NotAStore, Full, DiskFault, NoMemory}
use Rattle.vf_stack.specs.declared.indication.Indication.{Indication}
use Rattle.vf_store.specs.Commit.{placed}
use Rattle.vf_store.specs.StoreState.{StoreState}
use Rattle.vf_tables.specs.declared.change.Change.{Change}
use Rattle.vf_responder.specs.Answers.{Answer, at_end, says, setting_at}
use Rattle.vf_responder.specs.Represents.{Kept, Represents}
use Rattle.vf_responder.specs.Run.{run, tables_in, trail}
use Rattle.vf_responder.specs.Serving.{Serving}

-- what a party says to a message that an indication brings, and what it changes
abbrev pub answer_to : (moment : ℕ) → Indication → Serving → StandingParty → Message → Answer
answer_to moment indication serving party message =
    says party.link indication serving (answered serving.filestore party (setting_at moment (serving.associations party.link) indication) message)

abbrev pub changes_to : (moment : ℕ) → Indication → Serving → StandingParty → Message → List Change
changes_to moment indication serving party message =
    changes_by serving.filestore party.link (setting_at moment (serving.associations party.link) indication) message

-- AFTER SOME OF THE ANSWERS, which the store has kept, the next one is due to a message whose record of changes would end at
-- this place.
pub record IsFullAt {D : Type 0} (answers : List Answer) (serving : Serving) (store : StoreState D) (place : ℕ) : Type 0 where
  pub before : List Answer
  pub now : Serving
  pub moment : ℕ
  pub indication : Indication
  pub party : StandingParty
  pub message : Message
  pub later : List Answer
  pub reached : now ≡ at_end serving before
  pub stands : party_of party.link now.filestore.parties ≡ Some party
  pub next : answers ≡ before ++ answer_to moment indication now party message ∷ later
  pub kept : store.tables ≡ tables_in now
  pub end : place ≡ (placed store.journal store.tables (changes_to moment indication now party message)).end

-- AFTER EVENTS that were answered, in the next one
pub record IsFullAfter {D : Type 0} (serving : Serving) (before : List ScriptEvent) (event : ScriptEvent) (store : StoreState D) (place : ℕ) : Type 0 where
  pub now : Serving
  pub reached : now ≡ at_end serving (run before serving)
  pub full : IsFullAt (trail event now) now store place

-- the store of a disk, with this limit: its journal stands within the disk
pub record IsStoreOf {D : Type 0} (size : D → ℕ) (limit : ℕ) (disk : D) (store : StoreState D) : Type 0 where
  pub on : store.disk ≡ disk
  pub limited : store.journal.limit ≡ limit
  pub within : IsWithin store.journal (size disk)

-- of an answer that the disk is full
abbrev pub AtFull : JournalError → (ℕ → Type 0) → Type 0
AtFull (NotAStore place found expected) holds = Unit {0}
AtFull (Full length bound) holds = holds length
AtFull DiskFault holds = Unit {0}
AtFull NoMemory holds = Unit {0}

abbrev pub WhereFull : {T : Type 0} → Result T JournalError → (ℕ → Type 0) → Type 0
WhereFull (Ok done) holds = Unit {0}
WhereFull (Err error) holds = AtFull error holds

-- so it is by every state that is represented
abbrev pub FullAlong : {D T : Type 0} → (Serving → List Answer) → Kept D → StoreState D → Result T JournalError → Type 0
FullAlong answers kept store result = (serving : Serving) → Represents kept serving → WhereFull result (λ place. IsFullAt (answers serving) serving store place)
