-- What the calls of a journal answer, and by which causes (profile).
use Rattle.std.specs.Prelude.{◌≡◌, ℕ, ◌<◌, ◌≤◌, Bool, true, false, List, length, Option, None, Some, Result, Ok, Err}
use Rattle.vf_base.specs.Faults.{HasRisen}
use Rattle.vf_journal.specs.declared.error.JournalError.{JournalError}
use Rattle.vf_journal.specs.declared.error.JournalError.TheVariants.{NotAStore, Full, DiskFault, NoMemory}
use Rattle.vf_disk.specs.Plans.{StopPlan}
use Rattle.vf_disk.specs.Calls.{MakesChanges}
use Rattle.vf_journal.specs.declared.head.Head.{Head}
use Rattle.vf_journal.specs.Image.{Refusal, refusal}
use Rattle.vf_journal.specs.Layout.{selects_second, selected_start}
use Rattle.vf_journal.specs.JournalState.{JournalState, when_opened}

-- Only a fault of the disk refuses the call, and there is one exactly where the disk's count of faults rose.
abbrev pub FaultAlone : {T : Type 0} → ℕ → ℕ → Result T JournalError → Type 0
FaultAlone old new (Ok done) = new ≡ old
FaultAlone old new (Err DiskFault) = HasRisen old new
FaultAlone old new (Err (NotAStore place found expected)) = ⊥
FaultAlone old new (Err (Full end limit)) = ⊥
FaultAlone old new (Err NoMemory) = ⊥

-- An append that is to end at a place is full exactly where that is past the limit, and then the disk isn't called.
abbrev pub AppendAnswers : {T : Type 0} → ℕ → ℕ → ℕ → ℕ → Result T JournalError → Type 0
AppendAnswers end limit old new (Ok done) = (end ≤ limit) × (new ≡ old)
AppendAnswers end limit old new (Err (Full length bound)) = (limit < end) × (length ≡ end) × (bound ≡ limit) × (new ≡ old)
AppendAnswers end limit old new (Err DiskFault) = (end ≤ limit) × HasRisen old new
AppendAnswers end limit old new (Err (NotAStore place found expected)) = ⊥
AppendAnswers end limit old new (Err NoMemory) = ⊥

-- Reading may want memory, and nothing else but a fault refuses it.
abbrev pub ReadCauses : {T : Type 0} → ℕ → ℕ → Result T JournalError → Type 0
ReadCauses old new (Ok done) = new ≡ old
ReadCauses old new (Err DiskFault) = HasRisen old new
ReadCauses old new (Err NoMemory) = new ≡ old
ReadCauses old new (Err (NotAStore place found expected)) = ⊥
ReadCauses old new (Err (Full end limit)) = ⊥

-- Judging a disk by the octets before its areas wants no memory, and may find no journal.
abbrev pub HeadCauses : {T : Type 0} → ℕ → ℕ → Result T JournalError → Type 0
HeadCauses old new (Ok head) = new ≡ old
HeadCauses old new (Err (NotAStore place found expected)) = new ≡ old
HeadCauses old new (Err DiskFault) = HasRisen old new
HeadCauses old new (Err NoMemory) = ⊥
HeadCauses old new (Err (Full end limit)) = ⊥

-- Opening may want memory or find no journal, and never is full.
abbrev pub OpenCauses : {T : Type 0} → ℕ → ℕ → Result T JournalError → Type 0
OpenCauses old new (Ok journal) = new ≡ old
OpenCauses old new (Err (NotAStore place found expected)) = new ≡ old
OpenCauses old new (Err DiskFault) = HasRisen old new
OpenCauses old new (Err NoMemory) = new ≡ old
OpenCauses old new (Err (Full end limit)) = ⊥

-- the answer that octets are no journal
abbrev pub not_a_store : Refusal → JournalError
not_a_store refused = NotAStore refused.place refused.found refused.expected

-- What the octets before the areas say of a disk of which a read gives an image, unless the disk fails.
abbrev pub HeadAnswers : List ℕ → Result Head JournalError → Type 0
HeadAnswers image (Ok head) =
    (refusal image ≡ None) × (head ≡ record { second = selects_second image; start = selected_start image; length = length image })
HeadAnswers image (Err (NotAStore place found expected)) = refusal image ≡ Some (record { place = place; found = found; expected = expected })
HeadAnswers image (Err DiskFault) = Unit {0}
HeadAnswers image (Err NoMemory) = ⊥
HeadAnswers image (Err (Full end bound)) = ⊥

-- What opening answers on a disk of which a read gives an image. Where the image is no journal that is told, unless
-- the disk fails; memory is wanting only where it is one.
abbrev pub OpenAnswers : List ℕ → ℕ → Result JournalState JournalError → Type 0
OpenAnswers image limit (Ok journal) = (refusal image ≡ None) × (journal ≡ when_opened image limit)
OpenAnswers image limit (Err (NotAStore place found expected)) = refusal image ≡ Some (record { place = place; found = found; expected = expected })
OpenAnswers image limit (Err DiskFault) = Unit {0}
OpenAnswers image limit (Err NoMemory) = refusal image ≡ None
OpenAnswers image limit (Err (Full end bound)) = ⊥

abbrev pub is_fault : {T : Type 0} → Result T JournalError → Bool
is_fault (Ok done) = false
is_fault (Err DiskFault) = true
is_fault (Err (NotAStore place found expected)) = false
is_fault (Err (Full end limit)) = false
is_fault (Err NoMemory) = false

-- what is full leaves the disk as it is
abbrev pub IsUntouched : {D T : Type 0} → D → D → Result T JournalError → Type 0
IsUntouched old new (Ok done) = Unit {0}
IsUntouched old new (Err DiskFault) = Unit {0}
IsUntouched old new (Err (NotAStore place found expected)) = Unit {0}
IsUntouched old new (Err (Full end limit)) = new ≡ old
IsUntouched old new (Err NoMemory) = Unit {0}

-- An append makes four calls, or fewer of which the last fails, or none.
abbrev pub AppendCalls : {T : Type 0} → Option StopPlan → Option StopPlan → Result T JournalError → Type 0
AppendCalls old new (Ok done) = MakesChanges 4 old new false
AppendCalls old new (Err DiskFault) = MakesChanges 4 old new true
AppendCalls old new (Err (NotAStore place found expected)) = ⊥
AppendCalls old new (Err (Full end limit)) = new ≡ old
AppendCalls old new (Err NoMemory) = ⊥
