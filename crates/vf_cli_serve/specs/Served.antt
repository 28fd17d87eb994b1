-- What the command `serve` prints, with its status, and what its call owes (profile).
use Rattle.std.specs.Prelude.{◌≡◌, ℕ, Bool, List, ◌∷◌, [], ◌++◌, IfOk, Option, Some, Result, Ok, Err, codes, decimal}
use Rattle.vf_base.specs.Links.{Traffic}
use Rattle.vf_base.specs.declared.events.ScriptEvent.{ScriptEvent}
use Rattle.vf_cli_printing.specs.Printed.{IsOneOf, Prints, Wrote, line_feed}
use Rattle.vf_filestore.specs.State.{State}
use Rattle.vf_filestore.specs.Tables.{tables_of}
use Rattle.vf_incarnations.specs.Laws.{MayBegin}
use Rattle.vf_incarnations.specs.Served.{Incarnated}
use Rattle.vf_responder.specs.Served.{IsFullOn, IsThrough, KeepsAnswered, Refuses, ServeCauses, Serves, WhereServedFull, untold}
use Rattle.vf_responder.specs.Serving.{IsBegun, Serving}
use Rattle.vf_responder.specs.declared.error.ServeError.{ServeError}
use Rattle.vf_responder.specs.declared.error.ServeError.TheVariants.{Respond, LinksFault, NoMemory}
use Rattle.vf_responder.specs.declared.serving.Served.{Served}
use Rattle.vf_store.specs.Represented.{Represents}
use Rattle.vf_store_commands.specs.ErrorLines.{PrintsError}
use Rattle.vf_tables.specs.declared.tables.Tables.{Tables}

-- so many links arrived, and so many events there were, arrivals among them
abbrev pub served_line : (links events : ℕ) → List ℕ
served_line links events = codes "served " ++ (decimal links ++ (32 ∷ (decimal events ++ line_feed ∷ [])))

-- What is printed of how serving ended. Of a fault of the links, as of one of the disk, no line tells.
abbrev pub PrintsServed : Result Served ServeError → ℕ → Option (List ℕ) → Option (List ℕ) → Type 0
PrintsServed (Ok served) status old new = Prints (4 ∷ 9 ∷ []) (record { octets = served_line served.links served.events; status = 0 }) status old new
PrintsServed (Err (Respond error)) status old new = PrintsError error status old new
PrintsServed (Err LinksFault) status old new = (status ≡ 10) × Wrote [] old new
PrintsServed (Err NoMemory) status old new = (status ≡ 9) × Wrote [] old new

-- the statuses of `serve`
abbrev pub EndsServe : ℕ → Type 0
EndsServe status = IsOneOf (0 ∷ 4 ∷ 5 ∷ 8 ∷ 9 ∷ 10 ∷ 12 ∷ []) status

-- the limit of the octets of a store
abbrev pub store_limit : ℕ
store_limit = 1073741824

-- Serving links from the store on a disk has an answer, which is printed, and which the octets of the disk, the counts of
-- faults and the traffic of the links bear out. From each state that an incarnation may begin with, and whose tables the disk
-- represents, it was an incarnation.
pub record ServesLinks {D : Type 0} (shown : D → Option (List ℕ)) (size : D → ℕ) (may_leave : D → List ℕ → Type 0) (before after : D) (disk_faults disk_faults' : ℕ)
    (told told' : Option Traffic) (links_faults links_faults' turns' : ℕ) (through' : Bool) (status : ℕ) (taken taken' : Option (List ℕ)) : Type 0 where
  pub answer : Result Served ServeError
  pub printed : PrintsServed answer status taken taken'
  pub causes : ServeCauses store_limit disk_faults disk_faults' links_faults links_faults' answer
  pub refuses : (image : List ℕ) → shown before ≡ Some image → Refuses image answer
  pub serves : (left : List ScriptEvent) (image : List ℕ) (tables : Tables) (serving : Serving) → told ≡ Some (untold left) → shown before ≡ Some image → Represents image tables
      → IsBegun tables serving → Serves shown may_leave serving after answer told'
  pub keeps : (left : List ScriptEvent) (image : List ℕ) (tables : Tables) (serving : Serving) → told ≡ Some (untold left) → shown before ≡ Some image → Represents image tables
      → ((image : List ℕ) → may_leave before image → Represents image tables) → IsBegun tables serving → KeepsAnswered may_leave serving after answer told'
  pub full : (left : List ScriptEvent) (image : List ℕ) (tables : Tables) (serving : Serving) → told ≡ Some (untold left) → shown before ≡ Some image → Represents image tables
      → IsBegun tables serving → WhereServedFull answer (IsFullOn size store_limit serving after told')
  pub ends : IfOk answer (λ served. IsThrough turns' through')
  pub incarnates : (left : List ScriptEvent) (image : List ℕ) (state : State) → told ≡ Some (untold left) → shown before ≡ Some image → Represents image (tables_of state)
      → ((image : List ℕ) → may_leave before image → Represents image (tables_of state)) → MayBegin state → Incarnated may_leave state after answer told'
