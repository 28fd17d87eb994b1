-- Counting off years and months comes to the date that jiff has.
use Rattle.std.proofs.lemmas.Int.{by_lt_z}
use Rattle.std.proofs.lemmas.Bool.{cases_order, lt-ltb, le-ltb}
use Rattle.std.proofs.Common.{◌≡◌, ℕ, zero, suc, ◌+◌, ◌-◌, ◌<◌, ◌≤◌, inl, inr, refl, sym, arith, ℤ, pos, negsuc, ◌≤ℤ◌, unsigned_abs}
use Rattle.jiff_core.specs.declared.civil.date.Date.{Date}
use Rattle.jiff_core.specs.Calendar.{day_count, days_of_months, day_of_year, IsCivilDate, days_from_civil}
use Rattle.jiff_core.specs.Date.{epoch_day}
use Rattle.jiff_core.proofs.CalendarLemmas.{day_count-later_year, day_count-next_year, days_of_months_more, days_of_months_mono, day_of_year_bound, day_count-day_of_year, days_from_civil-day_count, day_count-lt_year, day_count-epoch, days_of_months-zero}
use Rattle.jiff_core.proofs.SignedLemmas.{signed_arith}
use Rattle.vf_base.specs.Calendar.{year_length, month_length, year_of, month_of, civil_date}

-- a year is counted off to the one in which the day falls
year_of-is : (turns year days goal rest : ℕ) → rest < year_length goal → year ≤ goal → goal < year + turns → day_count (pos year) 1 1 + days ≡ day_count (pos goal) 1 1 + rest → year_of turns year days ≡ (goal, rest)
unfolding year_of
year_of-is zero year days goal rest within low high same = absurd (omega arith)
year_of-is (suc turns) year days goal rest within low high same =
    elim (cases_order year goal) [
      | inl here ↦
          let same_year = rw here at same in
          let days_are : days ≡ rest = omega arith in
          rw (here, days_are, lt-ltb rest (year_length goal) within) refl
      | inr (inl before) ↦
          let far = day_count-later_year (pos year) (pos goal) (omega (arith, signed_arith)) (omega (arith, signed_arith)) in
          let next = day_count-next_year (pos year) (pos (year + 1)) (omega (arith, signed_arith)) (omega (arith, signed_arith)) in
          rw (le-ltb days (year_length year) (omega arith)) (year_of-is turns (year + 1) (days - year_length year) goal rest within (omega arith) (omega arith) (omega arith))
      | inr (inr after) ↦ absurd (omega arith)
    ]

-- and a month within its year
month_of-is : (turns year month days goal rest : ℕ) → rest < month_length year goal → 1 ≤ month → month ≤ goal → goal < month + turns → days_of_months (pos year) (month - 1) + days ≡ days_of_months (pos year) (goal - 1) + rest → month_of turns year month days ≡ (goal, rest)
unfolding month_of
month_of-is zero year month days goal rest within first low high same = absurd (omega arith)
month_of-is (suc turns) year month days goal rest within first low high same =
    elim (cases_order month goal) [
      | inl here ↦
          let same_month = rw here at same in
          let days_are : days ≡ rest = omega arith in
          rw (here, days_are, lt-ltb rest (month_length year goal) within) refl
      | inr (inl before) ↦
          let far = days_of_months_mono (pos year) month (goal - 1) (omega arith) in
          let next = days_of_months_more (pos year) month first in
          let back : month + 1 - 1 ≡ month = omega arith in
          rw (le-ltb days (month_length year month) (omega arith)) (month_of-is turns year (month + 1) (days - month_length year month) goal rest within (omega arith) (omega arith) (omega arith) (rw back (omega arith)))
      | inr (inr after) ↦ absurd (omega arith)
    ]

-- the year of a date from 1970 on
year-from_1970 : (d : Date) → pos 0 ≤ℤ epoch_day d → pos 1970 ≤ℤ d.year
year-from_1970 d later =
    by_lt_z d.year (pos 1970)
    (λ before. absurd (omega (arith, signed_arith, days_from_civil-day_count, day_count-epoch, day_count-lt_year d.year d.month d.day (pos 1970) 1 1 (d.year_in, d.month_in, d.day_in) (omega arith) before)))
    (λ from. from)

civil_date-from : (year month day days : ℕ) → IsCivilDate (pos year) month day → 1970 ≤ year → days_from_civil (pos year) month day ≡ pos days → civil_date days ≡ record { year = year; month = month; day = day }
unfolding civil_date
civil_date-from year month day days civil from same =
    let place = day_of_year (pos year) month day - 1 in
    let ends = day_of_year_bound (pos year) month day civil in
    let counted = day_count-day_of_year (pos year) month day civil.2.0 in
    let number = rw same at (days_from_civil-day_count (pos year) month day) in
    let first = days_of_months-zero (pos year) in
    let start : 1 - 1 ≡ 0 = omega arith in
    let total : day_count (pos 1970) 1 1 + days ≡ day_count (pos year) 1 1 + place = omega (arith, signed_arith, day_count-epoch) in
    let years : year_of 8030 1970 days ≡ (year, place) = year_of-is 8030 1970 days year place (omega arith) from (omega (arith, signed_arith)) total in
    let months : month_of 12 year 1 place ≡ (month, day - 1) = month_of-is 12 year 1 place month (day - 1) (omega arith) (omega arith) (omega arith) (omega arith) (rw (start, first) (omega arith)) in
    let back : day - 1 + 1 ≡ day = omega arith in
    rw (years, months, back) refl

late_year : (z : ℤ) → pos 1970 ≤ℤ z → (pos (unsigned_abs z) ≡ z) × (1970 ≤ unsigned_abs z)
late_year (pos n) h = (refl, omega (arith, signed_arith))
late_year (negsuc n) h = absurd (omega (arith, signed_arith))

-- the date that jiff has for a day is the one that is counted off
pub civil_date-is : (d : Date) (days : ℕ) → epoch_day d ≡ pos days → record { year = unsigned_abs d.year; month = d.month; day = d.day } ≡ civil_date days
civil_date-is d days same =
    let late = late_year d.year (year-from_1970 d (rw same (omega (arith, signed_arith)))) in
    sym (civil_date-from (unsigned_abs d.year) d.month d.day days (rw late.0 (d.year_in, d.month_in, d.day_in)) late.1 (rw late.0 same))
