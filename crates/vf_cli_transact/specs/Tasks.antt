-- What a call of `put` or `get` owes (profile).
use Rattle.std.specs.Prelude.{◌≡◌, ◌⊎◌, ℕ, true, List, ◌∷◌, [], Option, Some, Ok, Err}
use Rattle.vf_base.specs.Dial.{Connections}
use Rattle.vf_base.specs.Faults.{HasRisen}
use Rattle.vf_cli_printing.specs.Printed.{IsOneOf}
use Rattle.vf_cli_transact.specs.Lines.{PrintsAnswer}
use Rattle.vf_store.specs.Represented.{Represents}
use Rattle.vf_tables.specs.declared.tables.Tables.{Tables}
use Rattle.vf_transact.specs.Connecting.{WritesByCause}
use Rattle.vf_transact.specs.Starting.{ReadsByCause, are_words, connections_of}
use Rattle.vf_transact.specs.Transaction.{Answer, BreaksByCause, DiskByCause, DoesTransact, IsRefused}
use Rattle.vf_transact.specs.declared.error.TransactError.{TransactError}
use Rattle.vf_transact.specs.declared.error.TransactError.TheVariants as errors
use Rattle.vf_transact.specs.declared.words.PlanWords.{PlanWords}

-- the statuses of `put` and `get`
abbrev pub EndsTask : ℕ → Type 0
EndsTask status = IsOneOf (0 ∷ 1 ∷ 3 ∷ 4 ∷ 5 ∷ 6 ∷ 7 ∷ 8 ∷ 9 ∷ 12 ∷ 13 ∷ []) status

-- the limit of the octets of a store
abbrev pub store_limit : ℕ
store_limit = 1073741824

-- CAUSES of an answer, in what is printed of it: the output failed as a get was written, or as a line was; each connection was
-- lost or not had.
abbrev pub FailsOutput : TransactError → (old new : ℕ) → Type 0
FailsOutput error old new = ((error ≡ errors.OutputFault) × (new ≡ old)) ⊎ HasRisen old new

abbrev pub FailsIn : Answer → (old new : ℕ) → Type 0
FailsIn (Ok report) old new = HasRisen old new
FailsIn (Err error) old new = FailsOutput error old new

abbrev pub IsBroken : TransactError → Type 0
IsBroken error = (connections : ℕ) × (error ≡ errors.Broken connections)

abbrev pub IsBrokenIn : Answer → Type 0
IsBrokenIn (Ok report) = ⊥
IsBrokenIn (Err error) = IsBroken error

-- What is told of an input, of an output and of a dial before and after a call, and how many calls of each had failed; of the
-- dial also how many connections were lost.
pub record Ends : Type 0 where
  pub input : Option (List ℕ)
  pub input_faults : ℕ
  pub input_faults' : ℕ
  pub output : Option (List ℕ)
  pub output' : Option (List ℕ)
  pub output_faults : ℕ
  pub dial : Option Connections
  pub dial' : Option Connections
  pub dial_faults : ℕ
  pub dial_faults' : ℕ
  pub lost : ℕ
  pub lost' : ℕ

-- A task over the store on a disk has an answer, which is printed, and which the octets of the disk, the counts of faults and
-- what comes and goes on the connections bear out. Between the answer and what is printed of it stands the output as a get has
-- written it.
pub record DoesTask {D : Type 0} (shown : D → Option (List ℕ)) (may_leave : D → List ℕ → Type 0) (moment : D → ℕ) (left_since : D → ℕ → List ℕ → Type 0) (words : PlanWords) (before after : D)
    (disk_faults disk_faults' : ℕ) (ends : Ends) (status : ℕ) : Type 0 where
  pub answer : Answer
  pub between : Option (List ℕ)
  pub between_faults : ℕ
  pub printed : PrintsAnswer words.put answer status between ends.output'
  pub broken : BreaksByCause (connections_of words) ends.lost ends.lost' answer
  pub disk_cause : DiskByCause (shown before) store_limit disk_faults disk_faults' answer
  pub input_cause : ReadsByCause ends.input_faults ends.input_faults' answer
  pub output_cause : WritesByCause ends.output_faults between_faults answer
  pub refused : (image : List ℕ) → shown before ≡ Some image → IsRefused image answer
  pub does : (image input output : List ℕ) (tables : Tables) (calls : Connections) → are_words words ≡ true → shown before ≡ Some image → Represents image tables → ends.input ≡ Some input
      → ends.output ≡ Some output → ends.dial ≡ Some calls
      → DoesTransact shown may_leave moment left_since words input before after calls output (record { faults = ends.dial_faults; lost = ends.lost })
      (record { told = ends.dial'; taken = between; counts = record { faults = ends.dial_faults'; lost = ends.lost' } }) tables answer
