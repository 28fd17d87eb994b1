-- By which causes a task has its status.
use Rattle.std.proofs.Common.{◌≡◌, ◌<◌, inl, inr, ⊎_elim, ◌⊎◌, ℕ, List, Option, Ok, Err, arith, sym, subst}
use Rattle.vf_base.specs.Faults.{HasRisen, HasRisenBy}
use Rattle.vf_cli_transact.specs.Tasks.{FailsIn, IsBroken, IsBrokenIn}
use Rattle.vf_journal.specs.declared.error.JournalError.TheVariants.{DiskFault}
use Rattle.vf_transact.specs.Connecting.{WritesByCause}
use Rattle.vf_transact.specs.Starting.{ReadsByCause}
use Rattle.vf_transact.specs.Transaction.{Answer, BreaksByCause, DiskByCause}
use Rattle.vf_transact.specs.declared.error.TransactError.{TransactError}
use Rattle.vf_transact.specs.declared.error.TransactError.TheVariants.{Task, Broken, InUse, InputFault, OutputFault, Store, NoMemory}

pub input_by : (old new : ℕ) (answer : Answer) → answer ≡ Err InputFault → ReadsByCause old new answer → HasRisen old new
input_by old new answer is cause = subst (λ (a : Answer). ReadsByCause old new a) is cause

pub disk_by : (image : Option (List ℕ)) (limit old new : ℕ) (answer : Answer) → answer ≡ Err (Store DiskFault) → DiskByCause image limit old new answer → HasRisen old new
disk_by image limit old new answer is cause = subst (λ (a : Answer). DiskByCause image limit old new a) is cause

broken_by : (connections lost lost' : ℕ) (error : TransactError) → IsBroken error → BreaksByCause connections lost lost' (let e : Answer = Err error in e) → HasRisenBy connections lost lost'
broken_by connections lost lost' error is breaks =
    let by = subst (λ (e : TransactError). BreaksByCause connections lost lost' (let answer : Answer = Err e in answer)) is.1 breaks in
    subst (λ (count : ℕ). HasRisenBy count lost lost') by.0 by.1

pub lost_by : (connections lost lost' : ℕ) (answer : Answer) → IsBrokenIn answer → BreaksByCause connections lost lost' answer → HasRisenBy connections lost lost'
lost_by connections lost lost' (Ok report) is breaks = absurd is
lost_by connections lost lost' (Err error) is breaks = broken_by connections lost lost' error is breaks

-- the output failed as a get was written, or as a line was
rises_on : (old middle new : ℕ) → HasRisen middle new → (middle ≡ old) ⊎ HasRisen old middle → HasRisen old new
rises_on old middle new rises before =
    ⊎_elim (λ same. subst (λ (count : ℕ). HasRisen count new) same rises)
    (λ risen. ⊎_elim (λ less. ⊎_elim (λ more. let both : old < new = omega (arith, less, more) in inl both) (λ last. let more : old < new = omega (arith, less, last.0, last.1) in inl more) rises)
    (λ stood. ⊎_elim (λ more. let all : old < new = omega (arith, stood.0, stood.1, more) in inl all) (λ last. inr (stood.0, last.1)) rises) risen) before

written_by : (old middle : ℕ) (error : TransactError) → WritesByCause old middle (let answer : Answer = Err error in answer) → (middle ≡ old) ⊎ HasRisen old middle
written_by old middle (Task error) cause = inl cause
written_by old middle (Broken connections) cause = inl cause
written_by old middle InUse cause = inl cause
written_by old middle InputFault cause = inl cause
written_by old middle OutputFault cause = inr cause
written_by old middle (Store error) cause = inl cause
written_by old middle NoMemory cause = inl cause

pub output_by : (old middle new : ℕ) (answer : Answer) → FailsIn answer middle new → WritesByCause old middle answer → HasRisen old new
output_by old middle new (Ok report) fails cause = subst (λ (count : ℕ). HasRisen count new) cause fails
output_by old middle new (Err error) fails cause =
    ⊎_elim (λ failed. subst (λ (count : ℕ). HasRisen old count) (sym failed.1)
    (subst (λ (e : TransactError). WritesByCause old middle (let answer : Answer = Err e in answer)) failed.0 cause))
    (λ rises. rises_on old middle new rises (written_by old middle error cause)) fails
