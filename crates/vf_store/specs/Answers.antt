-- What the calls of a store answer, and by which causes (profile).
use Rattle.std.specs.Prelude.{◌≡◌, ℕ, ◌<◌, ◌≤◌, false, true, List, Option, None, Some, Result, Ok, Err}
use Rattle.vf_base.specs.Faults.{HasRisen}
use Rattle.vf_disk.specs.Plans.{StopPlan}
use Rattle.vf_disk.specs.State.{State}
use Rattle.vf_disk.specs.Steps.{MakesSteps}
use Rattle.vf_disk.specs.declared.step.Step.{Step}
use Rattle.vf_journal.specs.Image.{refusal}
use Rattle.vf_journal.specs.declared.error.JournalError.{JournalError}
use Rattle.vf_journal.specs.declared.error.JournalError.TheVariants.{NotAStore, Full, DiskFault, NoMemory}

-- A commit whose record is to end at a place is full exactly where that is past the limit. Then, and where memory is
-- wanting, the store and its disk are as before.
abbrev pub CommitAnswers : {S T : Type 0} → S → S → ℕ → ℕ → ℕ → ℕ → Result T JournalError → Type 0
CommitAnswers old new end limit before now (Ok done) = (end ≤ limit) × (now ≡ before)
CommitAnswers old new end limit before now (Err (Full length bound)) = (limit < end) × (length ≡ end) × (bound ≡ limit) × (new ≡ old)
CommitAnswers old new end limit before now (Err DiskFault) = (end ≤ limit) × HasRisen before now
CommitAnswers old new end limit before now (Err NoMemory) = new ≡ old
CommitAnswers old new end limit before now (Err (NotAStore place found expected)) = ⊥

-- The calls of the disk by which a commit writes: it makes them all, or up to one that fails; none where it is full, or
-- where memory is wanting.
abbrev pub CommitSteps : {T : Type 0} → List Step → Option StopPlan → Option StopPlan → Option State → Option State → ℕ → ℕ → Result T JournalError → Type 0
CommitSteps steps old new before left lacks now (Ok done) = MakesSteps steps old new before left false lacks now
CommitSteps steps old new before left lacks now (Err DiskFault) = MakesSteps steps old new before left true lacks now
CommitSteps steps old new before left lacks now (Err (Full length bound)) = Unit {0}
CommitSteps steps old new before left lacks now (Err NoMemory) = Unit {0}
CommitSteps steps old new before left lacks now (Err (NotAStore place found expected)) = ⊥

-- why opening fails on a disk of which a read gives an image
abbrev pub IsOpenError : List ℕ → JournalError → Type 0
IsOpenError image (NotAStore place found expected) = refusal image ≡ Some (record { place = place; found = found; expected = expected })
IsOpenError image DiskFault = Unit {0}
IsOpenError image NoMemory = refusal image ≡ None
IsOpenError image (Full end limit) = ⊥

-- What opening answers on such a disk. Where the image is no store that is told, unless the disk fails; memory is
-- wanting only where it is one.
abbrev pub OpenAnswers : {T : Type 0} → List ℕ → Result T JournalError → Type 0
OpenAnswers image (Ok store) = refusal image ≡ None
OpenAnswers image (Err error) = IsOpenError image error
