-- Moments (profile): whole seconds since 1970-01-01T00:00:00Z, and their text YYYYMMDDHHMMSSZ, which is the form
-- of GeneralizedTime (ISO 8824) with seconds and without a fraction, in UTC.
use Rattle.std.specs.Prelude.{ℕ, ◌+◌, ◌/◌, ◌%◌, List, [], ◌∷◌, ◌++◌}
use Rattle.std.specs.List.{flat_map}
use Rattle.vf_base.specs.Calendar.{Civil, civil_date}

-- 00 to 99 in digits of ASCII
abbrev pub two_digits : ℕ → List ℕ
two_digits number = (48 + number / 10 % 10) ∷ (48 + number % 10) ∷ []

abbrev pub date_text : Civil → List ℕ
date_text date = flat_map two_digits ((date.year / 100) ∷ date.year ∷ date.month ∷ date.day ∷ [])

-- so many seconds into the day
abbrev pub time_text : ℕ → List ℕ
time_text seconds = flat_map two_digits ((seconds / 3600) ∷ (seconds / 60 % 60) ∷ (seconds % 60) ∷ [])

abbrev pub moment_text : ℕ → List ℕ
moment_text seconds = date_text (civil_date (seconds / 86400)) ++ time_text (seconds % 86400) ++ 90 ∷ []
