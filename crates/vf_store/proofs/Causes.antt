-- Why a commit or opening fails.
use Rattle.std.proofs.Common.{◌≡◌, ℕ, ◌≤◌, List, Result, Ok, Err, refl, arith}
use Rattle.vf_base.specs.Faults.{HasRisen}
use Rattle.vf_journal.specs.Answers.{AppendAnswers, FaultAlone, OpenAnswers as JournalAnswers, OpenCauses, is_fault}
use Rattle.vf_journal.specs.declared.error.JournalError.{JournalError}
use Rattle.vf_journal.specs.declared.error.JournalError.TheVariants.{NotAStore, Full, DiskFault, NoMemory}
use Rattle.vf_store.specs.Answers.{IsOpenError}

-- an append that ends within the limit fails by the disk alone
pub fault_alone : {T : Type 0} (end limit old new : ℕ) (result : Result T JournalError) → AppendAnswers end limit old new result → end ≤ limit → FaultAlone old new result
fault_alone end limit old new (Ok done) answers within = answers.1
fault_alone end limit old new (Err DiskFault) answers within = answers.1
fault_alone end limit old new (Err (Full length bound)) answers within = absurd (omega (arith, answers.0))
fault_alone end limit old new (Err (NotAStore place found expected)) answers within = answers
fault_alone end limit old new (Err NoMemory) answers within = answers

-- why opening fails is told alike, whatever it would have answered
pub causes_alike : (S T : Type 0) (old new : ℕ) (error : JournalError) → OpenCauses {T = S} old new (Err error) → OpenCauses {T = T} old new (Err error)
causes_alike S T old new (NotAStore place found expected) causes = causes
causes_alike S T old new (Full end limit) causes = causes
causes_alike S T old new DiskFault causes = causes
causes_alike S T old new NoMemory causes = causes

pub is_fault_alike : (S T : Type 0) (error : JournalError) → is_fault {T = S} (Err error) ≡ is_fault {T = T} (Err error)
is_fault_alike S T (NotAStore place found expected) = refl
is_fault_alike S T (Full end limit) = refl
is_fault_alike S T DiskFault = refl
is_fault_alike S T NoMemory = refl

-- what the journal answers
pub open_error : (image : List ℕ) (limit : ℕ) (error : JournalError) → JournalAnswers image limit (Err error) → IsOpenError image error
open_error image limit (NotAStore place found expected) answers = answers
open_error image limit (Full end bound) answers = answers
open_error image limit DiskFault answers = answers
open_error image limit NoMemory answers = answers

-- what fails by the disk alone fails by a fault
pub only_fault : (T : Type 0) (old new : ℕ) (error : JournalError) → FaultAlone {T = T} old new (Err error) → (error ≡ DiskFault) × HasRisen old new
only_fault T old new DiskFault fault = (refl, fault)
only_fault T old new (NotAStore place found expected) fault = absurd fault
only_fault T old new (Full length bound) fault = absurd fault
only_fault T old new NoMemory fault = absurd fault
