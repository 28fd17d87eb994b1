-- Counting off years and months, and back to the day.
use Rattle.std.proofs.Common.{◌≡◌, ℕ, zero, suc, ◌+◌, ◌-◌, ◌<◌, ◌≤◌, Bool, true, false, cond, refl, ap, sym, subst, ◌∙◌, arith}
use Rattle.std.specs.Prelude.{nat_lt}
use Rattle.std.proofs.lemmas.Bool.{lt-ltb, le-ltb, ltb-true, ltb-false}
use Rattle.vf_base.specs.Calendar.{is_leap, year_length, month_length, year_of, month_of}

-- how many days so many years have, from a given one on
abbrev pub years : ℕ → ℕ → ℕ
years zero year = 0
years (suc n) year = year_length year + years n (year + 1)

-- and so many months
abbrev pub months : ℕ → ℕ → ℕ → ℕ
months zero year month = 0
months (suc n) year month = month_length year month + months n year (month + 1)

pub record IsYear (turns first : ℕ) (found : ℕ × ℕ) : Type 0 where
  pub low : first ≤ found.0
  pub high : found.0 < first + turns
  pub inside : found.1 < year_length found.0

year_by : (turns year days : ℕ) → (b : Bool) → b ≡ nat_lt days (year_length year)
    → (year_length year ≤ days → IsYear turns (year + 1) (year_of turns (year + 1) (days - year_length year)))
    → IsYear (suc turns) year (cond b (year, days) (year_of turns (year + 1) (days - year_length year)))
year_by turns year days true s later = record { low = omega arith; high = omega arith; inside = ltb-true days (year_length year) (sym s) }
year_by turns year days false s later =
    let r = later (ltb-false days (year_length year) (sym s)) in
    record { low = omega (arith, r.low); high = omega (arith, r.high); inside = r.inside }

pub year_in : (turns year days : ℕ) → days < years turns year → IsYear turns year (year_of turns year days)
unfolding year_of
year_in zero year days lt = absurd (omega arith)
year_in (suc turns) year days lt =
    year_by turns year days (nat_lt days (year_length year)) refl
    (λ over. year_in turns (year + 1) (days - year_length year) (omega (arith, over)))

pub record IsMonth (year turns first : ℕ) (found : ℕ × ℕ) : Type 0 where
  pub low : first ≤ found.0
  pub high : found.0 < first + turns
  pub inside : found.1 < month_length year found.0

month_by : (turns year month days : ℕ) → (b : Bool) → b ≡ nat_lt days (month_length year month)
    → (month_length year month ≤ days → IsMonth year turns (month + 1) (month_of turns year (month + 1) (days - month_length year month)))
    → IsMonth year (suc turns) month (cond b (month, days) (month_of turns year (month + 1) (days - month_length year month)))
month_by turns year month days true s later = record { low = omega arith; high = omega arith; inside = ltb-true days (month_length year month) (sym s) }
month_by turns year month days false s later =
    let r = later (ltb-false days (month_length year month) (sym s)) in
    record { low = omega (arith, r.low); high = omega (arith, r.high); inside = r.inside }

pub month_in : (turns year month days : ℕ) → days < months turns year month → IsMonth year turns month (month_of turns year month days)
unfolding month_of
month_in zero year month days lt = absurd (omega arith)
month_in (suc turns) year month days lt =
    month_by turns year month days (nat_lt days (month_length year month)) refl
    (λ over. month_in turns year (month + 1) (days - month_length year month) (omega (arith, over)))

-- the day after so many years is in the year after them
pub year_at : (n turns year rest : ℕ) → n < turns → rest < year_length (year + n) → year_of turns year (years n year + rest) ≡ (year + n, rest)
unfolding year_of
year_at n zero year rest lt inside = absurd (omega arith)
year_at zero (suc turns) year rest lt inside =
    let here : year + 0 ≡ year = omega arith in
    let start : 0 + rest ≡ rest = omega arith in
    let P : ℕ → Type 0 = λ y. rest < year_length y in
    ap (year_of (suc turns) year) start
    ∙ ap (λ b. cond b (year, rest) (year_of turns (year + 1) (rest - year_length year))) (lt-ltb rest (year_length year) (subst P here inside))
    ∙ ap (λ (y : ℕ). (y, rest)) (sym here)
year_at (suc n) (suc turns) year rest lt inside =
    let over : year_length year ≤ year_length year + years n (year + 1) + rest = omega arith in
    let left : year_length year + years n (year + 1) + rest - year_length year ≡ years n (year + 1) + rest = omega arith in
    let next : year + 1 + n ≡ year + suc n = omega arith in
    let P : ℕ → Type 0 = λ y. rest < year_length y in
    ap (λ b. cond b (year, year_length year + years n (year + 1) + rest) (year_of turns (year + 1) (year_length year + years n (year + 1) + rest - year_length year)))
    (le-ltb (year_length year + years n (year + 1) + rest) (year_length year) over)
    ∙ ap (year_of turns (year + 1)) left ∙ year_at n turns (year + 1) rest (omega arith) (subst P (sym next) inside) ∙ ap (λ (y : ℕ). (y, rest)) next

pub month_at : (n turns year month rest : ℕ) → n < turns → rest < month_length year (month + n) → month_of turns year month (months n year month + rest) ≡ (month + n, rest)
unfolding month_of
month_at n zero year month rest lt inside = absurd (omega arith)
month_at zero (suc turns) year month rest lt inside =
    let here : month + 0 ≡ month = omega arith in
    let start : 0 + rest ≡ rest = omega arith in
    let P : ℕ → Type 0 = λ m. rest < month_length year m in
    ap (month_of (suc turns) year month) start
    ∙ ap (λ b. cond b (month, rest) (month_of turns year (month + 1) (rest - month_length year month))) (lt-ltb rest (month_length year month) (subst P here inside))
    ∙ ap (λ (m : ℕ). (m, rest)) (sym here)
month_at (suc n) (suc turns) year month rest lt inside =
    let over : month_length year month ≤ month_length year month + months n year (month + 1) + rest = omega arith in
    let left : month_length year month + months n year (month + 1) + rest - month_length year month ≡ months n year (month + 1) + rest = omega arith in
    let next : month + 1 + n ≡ month + suc n = omega arith in
    let P : ℕ → Type 0 = λ m. rest < month_length year m in
    ap (λ b. cond b (month, month_length year month + months n year (month + 1) + rest) (month_of turns year (month + 1) (month_length year month + months n year (month + 1) + rest - month_length year month)))
    (le-ltb (month_length year month + months n year (month + 1) + rest) (month_length year month) over)
    ∙ ap (month_of turns year (month + 1)) left ∙ month_at n turns year (month + 1) rest (omega arith) (subst P (sym next) inside) ∙ ap (λ (m : ℕ). (m, rest)) next

-- a year has twelve months
pub twelve : (year : ℕ) → months 12 year 1 ≡ year_length year
twelve year = by_leap (is_leap year)
  where
    by_leap : (leap : Bool) → 31 + (cond leap 29 28 + 306) ≡ cond leap 366 365
    by_leap true = refl
    by_leap false = refl

-- there are 2,932,897 days from 1970 to 9999
pub all_years : years 8030 1970 ≡ 2932897
all_years = refl

-- a day of a year is before the end of the years
pub years_before : (n turns year rest : ℕ) → n < turns → rest < year_length (year + n) → years n year + rest < years turns year
years_before n zero year rest lt inside = absurd (omega arith)
years_before zero (suc turns) year rest lt inside =
    let here : year + 0 ≡ year = omega arith in
    let P : ℕ → Type 0 = λ y. rest < year_length y in
    omega (arith, subst P here inside)
years_before (suc n) (suc turns) year rest lt inside =
    let next : year + 1 + n ≡ year + suc n = omega arith in
    let P : ℕ → Type 0 = λ y. rest < year_length y in
    omega (arith, years_before n turns (year + 1) rest (omega arith) (subst P (sym next) inside))

pub months_before : (n turns year month rest : ℕ) → n < turns → rest < month_length year (month + n) → months n year month + rest < months turns year month
months_before n zero year month rest lt inside = absurd (omega arith)
months_before zero (suc turns) year month rest lt inside =
    let here : month + 0 ≡ month = omega arith in
    let P : ℕ → Type 0 = λ m. rest < month_length year m in
    omega (arith, subst P here inside)
months_before (suc n) (suc turns) year month rest lt inside =
    let next : month + 1 + n ≡ month + suc n = omega arith in
    let P : ℕ → Type 0 = λ m. rest < month_length year m in
    omega (arith, months_before n turns year (month + 1) rest (omega arith) (subst P (sym next) inside))
