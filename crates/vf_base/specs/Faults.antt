-- Counts of faults (profile). An object of the outside counts the calls of it that failed. Its count never
-- falls, and at the last value of its type it stands still and counts as risen, by any number.
use Rattle.std.specs.Prelude.{◌≡◌, ℕ, ◌+◌, ◌<◌, ◌≤◌, ◌⊎◌, min}

abbrev pub last_count : ℕ
last_count = 18446744073709551615

abbrev pub HasRisen : ℕ → ℕ → Type 0
HasRisen old new = (old < new) ⊎ ((old ≡ last_count) × (new ≡ last_count))

-- by at least so many
abbrev pub HasRisenBy : ℕ → ℕ → ℕ → Type 0
HasRisenBy number old new = (old + number ≤ new) ⊎ (new ≡ last_count)

abbrev pub NeverFalls : ℕ → ℕ → Type 0
NeverFalls old new = old ≤ new

-- a count after one more
abbrev pub counted : ℕ → ℕ
counted count = min (count + 1) last_count
