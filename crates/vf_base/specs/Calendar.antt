-- The Gregorian calendar in UTC, from 1970 on (ISO 8601): years and months are counted off day by day.
use Rattle.std.specs.Prelude.{ℕ, zero, suc, ◌+◌, ◌-◌, ◌%◌, Bool, not, ◌&&◌, ◌||◌, ◌==◌, nat_lt, if◌then◌else◌}

-- every fourth year, but of the full centuries only every fourth
abbrev pub is_leap : ℕ → Bool
is_leap year = (year % 4 == 0) && (not (year % 100 == 0) || (year % 400 == 0))

abbrev pub year_length : ℕ → ℕ
year_length year = if is_leap year then 366 else 365

-- February, then April, June, September and November, then the seven others
abbrev pub month_length : ℕ → ℕ → ℕ
month_length year month =
    if month == 2 then (if is_leap year then 29 else 28)
    else (if (month == 4) || (month == 6) || (month == 9) || (month == 11) then 30 else 31)

-- The year in which a day falls, so many days after 1 January of a given year, and its place there from 0.
-- At most so many years are counted off.
unfoldable pub year_of : ℕ → ℕ → ℕ → ℕ × ℕ
year_of zero year days = (year, days)
year_of (suc years) year days =
    if nat_lt days (year_length year) then (year, days) else year_of years (year + 1) (days - year_length year)

-- The month in which a day of the year falls, so many days after the first of a given month, and its place
-- there from 0.
unfoldable pub month_of : ℕ → ℕ → ℕ → ℕ → ℕ × ℕ
month_of zero year month days = (month, days)
month_of (suc months) year month days =
    if nat_lt days (month_length year month) then (month, days)
    else month_of months year (month + 1) (days - month_length year month)

pub record Civil : Type 0 where
  pub year : ℕ
  pub month : ℕ
  pub day : ℕ

-- the date of a day, counted from 1 January 1970 as 0, to the end of the year 9999
unfoldable pub civil_date : ℕ → Civil
civil_date days =
    let year = year_of 8030 1970 days in
    let month = month_of 12 year.0 1 year.1 in
    record { year = year.0; month = month.0; day = month.1 + 1 }
