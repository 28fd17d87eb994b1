-- A disk in memory between two lives of a script.
use Rattle.std.specs.Prelude.{◌≡◌, ℕ, List, [], Option, Some}
use Rattle.vf_disk.specs.Disk.{LeavesShown}
use Rattle.vf_disk.specs.Memory.{Memory, fresh, state as state_of}
use Rattle.vf_disk.specs.State.{IsImage}
use Rattle.vf_filestore.specs.State.{State}
use Rattle.vf_filestore.specs.Tables.{tables_of}
use Rattle.vf_incarnations.specs.Laws.{MayBegin}
use Rattle.vf_store.specs.Represented.{Represents}

abbrev pub shown : Memory → Option (List ℕ)
shown disk = Some (state_of disk).shown

abbrev pub may_leave : Memory → List ℕ → Type 0
may_leave disk = IsImage (state_of disk)

-- All of it is synced, and it is this image, which represents the tables of a state that a life may begin with.
pub record Keeps (disk : Memory) (image : List ℕ) (state : State) : Type 0 where
  pub disk_is : disk ≡ fresh image []
  pub synced : LeavesShown (Some image) (may_leave disk)
  pub represents : Represents image (tables_of state)
  pub begins : MayBegin state
