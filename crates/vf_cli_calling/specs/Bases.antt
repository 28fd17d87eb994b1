-- Which serial numbers the checks of a transfer have (ISO 8327): they go on from the number that the next check had when the
-- transfer was asked for, or went on after a recovery at a point (ISO 8571-3; where they begin is profile).
use Rattle.std.specs.Prelude.{ℕ, ◌+◌, ◌-◌, ◌&&◌, nat_le, Option, Some, None, if◌then◌else◌}
use Rattle.vf_cli_calling.specs.declared.base.Base.{Base}

-- a link that has had no transfer counts from the first number
abbrev pub first : Base
first = record { next = 1; point = 0 }

-- a number less another, where that is a serial number
abbrev pub serial_at : (number less : ℕ) → Option ℕ
serial_at number less = if nat_le less number && nat_le (number - less) 999999 then Some (number - less) else None

-- the serial number of a check
abbrev pub serial_of : Base → (check : ℕ) → Option ℕ
serial_of base check = serial_at (base.next + check) (base.point + 1)

-- the check of a serial number
abbrev pub check_of : Base → (serial : ℕ) → ℕ
check_of base serial = (serial + base.point + 1) - base.next
