-- What refuses a recovery, and what it resumes (ISO 8571-3, F-RECOVER; the rows and their order are profile).
use Rattle.std.specs.Prelude.{ℕ, ◌+◌, pos, Bool, true, false, not, ◌||◌, min, List, [], ◌∷◌, Option, None, Some, if◌then◌else◌, nat_eq, is_some, ◌&&◌}
use Rattle.vf_attr.specs.declared.file.File.{File}
use Rattle.vf_filestore.specs.Diagnostics.{Row, row, docket_unknown, wrong_transfer, file_changed}
use Rattle.vf_filestore.specs.History.{Given, Nothing, Refused, Showed, Resumed, History, done}
use Rattle.vf_filestore.specs.State.{State, Docket, selected_file}
use Rattle.vf_filestore.specs.Transfers.{Movement, Reads, Writes, Transfer, point, under_way}

-- the transfer under way, or, where there is none, the next one or the last one that was concluded
abbrev pub is_numbered : History → (number : ℕ) → Bool
is_numbered history number =
    nat_eq number (done history + 1) || not (is_some (under_way history)) && nat_eq number (done history)

-- the file's version at the request of a read
abbrev pub version_in : Given → ℕ
version_in (Refused version number) = version
version_in (Showed version elements position) = version
version_in _ = 0

abbrev pub version_of : Option File → ℕ
version_of None = 0
version_of (Some file) = file.version

-- diagnostic 34 tells the version at the request and that of now
abbrev pub version_row : (before now : ℕ) → Row
version_row before now =
    if nat_eq before now then None
    else Some (record { number = file_changed; first = pos before; second = pos now })

abbrev pub read_row : Movement → (before now : ℕ) → Row
read_row (Reads fadu context) before now = version_row before now
read_row (Writes operation fadu) before now = None

-- a read goes on only in the file as it was
abbrev pub changed_row : Option Transfer → (now : ℕ) → Row
changed_row None now = None
changed_row (Some transfer) now = read_row transfer.movement (version_in transfer.given) now

-- F-RECOVER
abbrev pub recover_rows : State → Option Docket → (number : ℕ) → List Row
recover_rows state None number = row true docket_unknown ∷ []
recover_rows state (Some docket) number =
    row (not (is_numbered docket.history number)) wrong_transfer
    ∷ changed_row (under_way docket.history) (version_of (selected_file state docket.history)) ∷ []

-- a transfer goes on after the smaller of the point that is asked for and that of the docket
abbrev pub resumed : Option Docket → (asked : ℕ) → Given
resumed None asked = Nothing
resumed (Some docket) asked =
    if is_some (under_way docket.history) then Resumed true (min asked (point docket.history)) else Resumed false 0

abbrev pub is_reading : Movement → Bool
is_reading (Reads fadu context) = true
is_reading (Writes operation fadu) = false

abbrev pub is_read : Option Transfer → Bool
is_read None = false
is_read (Some transfer) = is_reading transfer.movement

-- a read goes on by the recovery of this docket
abbrev pub is_read_in : Option Docket → Bool
is_read_in None = false
is_read_in (Some docket) = is_read (under_way docket.history)
