-- The functional units (ISO 8571-3; their values are profile), those of an association, and what refuses for want of
-- one.
use Rattle.std.specs.Prelude.{ℕ, Bool, ◌||◌, Option, None, Some, if◌then◌else◌, bit_and}
use Rattle.vf_base.specs.declared.diagnostic.Diagnostic.{Diagnostic}
use Rattle.vf_tables.specs.Validity.{includes}
use Rattle.vf_filestore.specs.Diagnostics.{plain, unit_not_agreed}

abbrev pub read_unit : ℕ
read_unit = 1

abbrev pub write_unit : ℕ
write_unit = 2

abbrev pub file_access : ℕ
file_access = 4

abbrev pub limited_management : ℕ
limited_management = 8

abbrev pub enhanced_management : ℕ
enhanced_management = 16

abbrev pub grouping_unit : ℕ
grouping_unit = 32

abbrev pub restart_unit : ℕ
restart_unit = 64

abbrev pub recovery_unit : ℕ
recovery_unit = 128

-- the sum of all that this responder has; restart and recovery need a session that synchronizes
abbrev pub offered_units : (sync : Bool) → ℕ
offered_units sync = if sync then 255 else 63

-- those that are asked for among them
abbrev pub agreed_units : (sync : Bool) (asked : ℕ) → ℕ
agreed_units sync asked = bit_and asked (offered_units sync)

-- checks, acknowledgements and restarts: the restart unit or the recovery unit is agreed
abbrev pub has_checks : (units : ℕ) → Bool
has_checks units = includes units restart_unit || includes units recovery_unit

-- the functional units that a message needs (ISO 8571-3)
abbrev pub unit_row : (units needed : ℕ) → Option Diagnostic
unit_row units needed = if includes units needed then None else Some (plain unit_not_agreed)
