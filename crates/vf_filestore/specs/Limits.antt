-- The limits of the filestore that no crate below has (profile).
use Rattle.std.specs.Prelude.{ℕ}

-- octets of strings, and elements, of a write under way that stand
abbrev pub most_survivor_octets : ℕ
most_survivor_octets = 17825792

abbrev pub most_survivors : ℕ
most_survivors = 262145

-- transfers of an open regime
abbrev pub most_transfers : ℕ
most_transfers = 1000000

-- a number of the session has six digits
abbrev pub most_serial : ℕ
most_serial = 999999

-- versions of a file
abbrev pub most_version : ℕ
most_version = 4294967295

-- dockets and standing recoverable opens together
abbrev pub most_dockets : ℕ
most_dockets = 16

-- items of a group
abbrev pub most_items : ℕ
most_items = 16

-- checks that aren't acknowledged
abbrev pub most_window : ℕ
most_window = 16

-- an attribute that is asked for is one of nine
abbrev pub most_names : ℕ
most_names = 511

-- so many elements stand between two checks of a read
abbrev pub between_checks : ℕ
between_checks = 8
