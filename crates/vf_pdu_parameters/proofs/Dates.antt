-- The texts of moments are the dates.
use Rattle.std.proofs.Common.{◌≡◌, ℕ, suc, ◌+◌, ◌-◌, ◌*◌, ◌/◌, ◌%◌, ◌<◌, ◌≤◌, Bool, true, List, [], ◌∷◌, ◌++◌, length, take, drop, refl, ap, sym, subst, ◌∙◌, arith, rules}
use Rattle.std.specs.Prelude.{◌&&◌, IsTrue, nat_eq, nat_le, nat_lt}
use Rattle.std.specs.List.{flat_map, list_all}
use Rattle.std.proofs.lemmas.Bool.Decides.{nat_tests}
use Rattle.std.proofs.lemmas.Bool.{eqb-true, leb-true, ltb-true, le-leb, lt-ltb, and_parts}
use Rattle.vf_base.specs.Calendar.{Civil, civil_date, month_length, month_of, year_length, year_of}
use Rattle.vf_base.specs.Moment.{date_text, moment_text, time_text, two_digits}
use Rattle.vf_pdu_fields.specs.Forms.{has_date_form, is_date, is_day, is_digit, is_moment, two_at, year_in}
use Rattle.vf_pdu_parameters.specs.Laws.{DatesAreMoments, MomentsAreDates}
use Rattle.vf_pdu_parameters.proofs.Years.{all_years, month_at, month_in, months, months_before, twelve, year_at, year_in as year_found, years, years_before}

-- ---- dates of days

-- a day of the calendar, from 1970 to 9999
pub record IsDay (date : Civil) : Type 0 where
  pub early : 1970 ≤ date.year
  pub late : date.year < 10000
  pub some_month : 1 ≤ date.month
  pub last_month : date.month ≤ 12
  pub some_day : 1 ≤ date.day
  pub last_day : date.day ≤ month_length date.year date.month

-- day 0 and 2,932,896 days after it are days of the calendar
pub day_found : (days : ℕ) → days < 2932897 → IsDay (civil_date days)
unfolding civil_date
day_found days lt =
    let y = year_found 8030 1970 days (omega (arith, all_years)) in
    let found = year_of 8030 1970 days in
    let m = month_in 12 found.0 1 found.1 (omega (arith, y.inside, twelve found.0)) in
    record {
      early = y.low;
      late = omega (arith, y.high);
      some_month = m.low;
      last_month = omega (arith, m.high);
      some_day = omega arith;
      last_day = omega (arith, m.inside);
    }

-- the number of a day
pub day_number : Civil → ℕ
day_number date = years (date.year - 1970) 1970 + (months (date.month - 1) date.year 1 + (date.day - 1))

pub record Numbered (date : Civil) : Type 0 where
  pub before : day_number date < 2932897
  pub found : civil_date (day_number date) ≡ date

pub day_numbered : (date : Civil) → IsDay date → Numbered date
unfolding civil_date day_number
day_numbered date is =
    let year : 1970 + (date.year - 1970) ≡ date.year = omega (arith, is.early) in
    let month : 1 + (date.month - 1) ≡ date.month = omega (arith, is.some_month) in
    let day : date.day - 1 + 1 ≡ date.day = omega (arith, is.some_day) in
    let place = months (date.month - 1) date.year 1 + (date.day - 1) in
    let M : ℕ → Type 0 = λ n. date.day - 1 < month_length date.year n in
    let in_month : date.day - 1 < month_length date.year (1 + (date.month - 1)) = subst M (sym month) (omega (arith, is.last_day, is.some_day)) in
    let Y : ℕ → Type 0 = λ n. place < year_length n in
    let in_year : place < year_length (1970 + (date.year - 1970)) =
    subst Y (sym year) (omega (arith, months_before (date.month - 1) 12 date.year 1 (date.day - 1) (omega (arith, is.last_month)) in_month, twelve date.year)) in
    let y : year_of 8030 1970 (day_number date) ≡ (date.year, place) =
    year_at (date.year - 1970) 8030 1970 place (omega (arith, is.late)) in_year ∙ ap (λ (n : ℕ). (n, place)) year in
    let m : month_of 12 date.year 1 place ≡ (date.month, date.day - 1) =
    month_at (date.month - 1) 12 date.year 1 (date.day - 1) (omega (arith, is.last_month)) in_month ∙ ap (λ (n : ℕ). (n, date.day - 1)) month in
    record {
      before = omega (arith, years_before (date.year - 1970) 8030 1970 place (omega (arith, is.late)) in_year, all_years);
      found = rw (y, m, day) refl;
    }

-- ---- digits

pub record IsDigit (octet : ℕ) : Type 0 where
  pub low : 48 ≤ octet
  pub high : octet ≤ 57

digit : (octet : ℕ) → is_digit octet ≡ true → IsDigit octet
digit octet e =
    let b = and_parts (nat_le 48 octet) (nat_le octet 57) e in
    record { low = leb-true 48 octet b.0; high = leb-true octet 57 b.1 }

-- the number of two digits
abbrev pair : ℕ → ℕ → ℕ
pair tens ones = 10 * (tens - 48) + (ones - 48)

pair_small : (tens ones : ℕ) → IsDigit tens → IsDigit ones → pair tens ones < 100
pair_small tens ones t o = omega (arith, t.low, t.high, o.low, o.high)

pair_tens : (tens ones : ℕ) → IsDigit tens → IsDigit ones → 48 + pair tens ones / 10 % 10 ≡ tens
pair_tens tens ones t o = omega (arith, t.low, t.high, o.low, o.high)

pair_ones : (tens ones : ℕ) → IsDigit tens → IsDigit ones → 48 + pair tens ones % 10 ≡ ones
pair_ones tens ones t o = omega (arith, t.low, t.high, o.low, o.high)

-- ---- moments are dates

true_is : (b : Bool) → b ≡ true → IsTrue b
true_is b e = search rules

is_true : (b : Bool) → IsTrue b → b ≡ true
is_true b e = search rules

month_short : (year month : ℕ) → month_length year month ≤ 31
month_short year month = grind (arith, nat_tests)

digit_ok : (n : ℕ) → is_digit (48 + n % 10) ≡ true
digit_ok n =
    let low : nat_le 48 (48 + n % 10) ≡ true = le-leb 48 (48 + n % 10) (omega arith) in
    let high : nat_le (48 + n % 10) 57 ≡ true = le-leb (48 + n % 10) 57 (omega arith) in
    rw (low, high) refl

digits_ok : (numbers : List ℕ) → list_all is_digit (flat_map two_digits numbers) ≡ true
digits_ok [] = refl
digits_ok (n ∷ numbers) = rw (digit_ok (n / 10), digit_ok n) (digits_ok numbers)

two_number : (n : ℕ) → n < 100 → 10 * (48 + n / 10 % 10 - 48) + (48 + n % 10 - 48) ≡ n
two_number n lt = omega arith

year_number : (n : ℕ) → n < 10000 → 100 * (10 * (48 + n / 100 / 10 % 10 - 48) + (48 + n / 100 % 10 - 48)) + (10 * (48 + n / 10 % 10 - 48) + (48 + n % 10 - 48)) ≡ n
year_number n lt = omega arith

-- the texts of seven numbers and a Z
abbrev seven : ℕ → ℕ → ℕ → ℕ → ℕ → ℕ → ℕ → List ℕ
seven century year month day hour minute second =
    flat_map two_digits (century ∷ year ∷ month ∷ day ∷ []) ++ flat_map two_digits (hour ∷ minute ∷ second ∷ []) ++ 90 ∷ []

seven_form : (century year month day hour minute second : ℕ) → has_date_form (seven century year month day hour minute second) ≡ true
seven_form century year month day hour minute second =
    ap (λ b. b && list_all (nat_eq 90) (90 ∷ [])) (digits_ok (century ∷ year ∷ month ∷ day ∷ hour ∷ minute ∷ second ∷ []))

is_day_of : (date : Civil) → IsDay date → is_day date.year date.month date.day ≡ true
is_day_of date is =
    rw (le-leb 1970 date.year is.early, le-leb 1 date.month is.some_month, le-leb date.month 12 is.last_month, le-leb 1 date.day is.some_day, le-leb date.day (month_length date.year date.month) is.last_day) refl

moment_is : (text : List ℕ) (date : Civil) (hour minute second : ℕ) → year_in text ≡ date.year → two_at 4 text ≡ date.month → two_at 6 text ≡ date.day
    → two_at 8 text ≡ hour → two_at 10 text ≡ minute → two_at 12 text ≡ second → IsDay date → hour < 24 → minute < 60 → second < 60 → is_moment text ≡ true
moment_is text date hour minute second y m d h n s is hs ns ss =
    let day : is_day (year_in text) (two_at 4 text) (two_at 6 text) ≡ true = rw (y, m, d) (is_day_of date is) in
    let hours : nat_lt (two_at 8 text) 24 ≡ true = rw h (lt-ltb hour 24 hs) in
    let minutes : nat_lt (two_at 10 text) 60 ≡ true = rw n (lt-ltb minute 60 ns) in
    let seconds : nat_lt (two_at 12 text) 60 ≡ true = rw s (lt-ltb second 60 ss) in
    rw (day, hours, minutes, seconds) refl

seven_is : (date : Civil) (hour minute second : ℕ) → IsDay date → hour < 24 → minute < 60 → second < 60
    → is_date (seven (date.year / 100) date.year date.month date.day hour minute second) ≡ true
seven_is date hour minute second is hs ns ss =
    let text = seven (date.year / 100) date.year date.month date.day hour minute second in
    let days : month_length date.year date.month ≤ 31 = month_short date.year date.month in
    rw (seven_form (date.year / 100) date.year date.month date.day hour minute second)
    (moment_is text date hour minute second (year_number date.year is.late) (two_number date.month (omega (arith, is.last_month))) (two_number date.day (omega (arith, is.last_day)))
    (two_number hour (omega arith)) (two_number minute (omega arith)) (two_number second (omega arith)) is hs ns ss)

pub moment_date : MomentsAreDates
moment_date seconds lt =
    let days : seconds / 86400 < 2932897 = omega arith in
    let date = civil_date (seconds / 86400) in
    true_is (is_date (moment_text seconds))
    (seven_is date (seconds % 86400 / 3600) (seconds % 86400 / 60 % 60) (seconds % 86400 % 60) (day_found (seconds / 86400) days) (omega arith) (omega arith) (omega arith))

-- ---- dates are texts of moments

first_digit : (octet : ℕ) (octets : List ℕ) → list_all is_digit (octet ∷ octets) ≡ true → IsDigit octet × (list_all is_digit octets ≡ true)
first_digit octet octets e = let b = and_parts (is_digit octet) (list_all is_digit octets) e in (digit octet b.0, b.1)

two_text : (tens ones : ℕ) → IsDigit tens → IsDigit ones → two_digits (pair tens ones) ≡ tens ∷ ones ∷ []
two_text tens ones t o = rw (pair_tens tens ones t o, pair_ones tens ones t o) refl

last_tens : (century tens ones : ℕ) → IsDigit tens → IsDigit ones → 48 + (100 * century + pair tens ones) / 10 % 10 ≡ tens
last_tens century tens ones t o = omega (arith, t.low, t.high, o.low, o.high)

last_ones : (century tens ones : ℕ) → IsDigit tens → IsDigit ones → 48 + (100 * century + pair tens ones) % 10 ≡ ones
last_ones century tens ones t o = omega (arith, t.low, t.high, o.low, o.high)

last_text : (century tens ones : ℕ) → IsDigit tens → IsDigit ones → two_digits (100 * century + pair tens ones) ≡ tens ∷ ones ∷ []
last_text century tens ones t o = rw (last_tens century tens ones t o, last_ones century tens ones t o) refl

first_two : (century tens ones : ℕ) → IsDigit tens → IsDigit ones → (100 * century + pair tens ones) / 100 ≡ century
first_two century tens ones t o = omega (arith, t.low, t.high, o.low, o.high)

-- the parts of a day of the calendar
day_is : (year month day : ℕ) → is_day year month day ≡ true → year < 10000 → IsDay record { year = year; month = month; day = day }
day_is year month day e late =
    let a = and_parts (nat_le 1970 year && nat_le 1 month && nat_le month 12 && nat_le 1 day) (nat_le day (month_length year month)) e in
    let b = and_parts (nat_le 1970 year && nat_le 1 month && nat_le month 12) (nat_le 1 day) a.0 in
    let c = and_parts (nat_le 1970 year && nat_le 1 month) (nat_le month 12) b.0 in
    let d = and_parts (nat_le 1970 year) (nat_le 1 month) c.0 in
    record {
      early = leb-true 1970 year d.0;
      late = late;
      some_month = leb-true 1 month d.1;
      last_month = leb-true month 12 c.1;
      some_day = leb-true 1 day b.1;
      last_day = leb-true day (month_length year month) a.1;
    }

abbrev Dated : List ℕ → Type 0
Dated text = (seconds : ℕ) × (seconds < 253402300800) × (text ≡ moment_text seconds)

-- a moment of a day
moment_of : (date : Civil) (hour minute second : ℕ) → IsDay date → hour < 24 → minute < 60 → second < 60
    → Dated (seven (date.year / 100) date.year date.month date.day hour minute second)
moment_of date hour minute second is hs ns ss =
    let n = day_numbered date is in
    let time = 3600 * hour + 60 * minute + second in
    let seconds = 86400 * day_number date + time in
    let days : seconds / 86400 ≡ day_number date = omega (arith, n.before) in
    let rest : seconds % 86400 ≡ time = omega (arith, n.before) in
    let found : civil_date (seconds / 86400) ≡ date = ap civil_date days ∙ n.found in
    let hours : time / 3600 ≡ hour = omega arith in
    let minutes : time / 60 % 60 ≡ minute = omega arith in
    let last : time % 60 ≡ second = omega arith in (
      seconds,
      omega (arith, n.before),
      sym (
          ap (λ (d : Civil). date_text d ++ time_text (seconds % 86400) ++ 90 ∷ []) found ∙ ap (λ (t : ℕ). date_text date ++ time_text t ++ 90 ∷ []) rest
          ∙ ap (λ (h : ℕ). seven (date.year / 100) date.year date.month date.day h (time / 60 % 60) (time % 60)) hours
          ∙ ap (λ (m : ℕ). seven (date.year / 100) date.year date.month date.day hour m (time % 60)) minutes
          ∙ ap (λ (s : ℕ). seven (date.year / 100) date.year date.month date.day hour minute s) last),
    )

two_more : (n : ℕ) (numbers first rest : List ℕ) → two_digits n ≡ first → flat_map two_digits numbers ≡ rest → flat_map two_digits (n ∷ numbers) ≡ first ++ rest
two_more n numbers first rest f r = ap (λ (l : List ℕ). l ++ flat_map two_digits numbers) f ∙ ap (λ (l : List ℕ). first ++ l) r

-- the text of two digits each, and a Z
fifteen : (x0 x1 x2 x3 x4 x5 x6 x7 x8 x9 x10 x11 x12 x13 x14 : ℕ) → is_date (x0 ∷ x1 ∷ x2 ∷ x3 ∷ x4 ∷ x5 ∷ x6 ∷ x7 ∷ x8 ∷ x9 ∷ x10 ∷ x11 ∷ x12 ∷ x13 ∷ x14 ∷ []) ≡ true → Dated (x0 ∷ x1 ∷ x2 ∷ x3 ∷ x4 ∷ x5 ∷ x6 ∷ x7 ∷ x8 ∷ x9 ∷ x10 ∷ x11 ∷ x12 ∷ x13 ∷ x14 ∷ [])
fifteen x0 x1 x2 x3 x4 x5 x6 x7 x8 x9 x10 x11 x12 x13 x14 e =
    let text : List ℕ = x0 ∷ x1 ∷ x2 ∷ x3 ∷ x4 ∷ x5 ∷ x6 ∷ x7 ∷ x8 ∷ x9 ∷ x10 ∷ x11 ∷ x12 ∷ x13 ∷ x14 ∷ [] in
    let parts = and_parts (has_date_form text) (is_moment text) e in
    let form = and_parts (list_all is_digit (x0 ∷ x1 ∷ x2 ∷ x3 ∷ x4 ∷ x5 ∷ x6 ∷ x7 ∷ x8 ∷ x9 ∷ x10 ∷ x11 ∷ x12 ∷ x13 ∷ [])) (nat_eq 90 x14 && true) parts.0 in
    let d0 = first_digit x0 (x1 ∷ x2 ∷ x3 ∷ x4 ∷ x5 ∷ x6 ∷ x7 ∷ x8 ∷ x9 ∷ x10 ∷ x11 ∷ x12 ∷ x13 ∷ []) form.0 in
    let d1 = first_digit x1 (x2 ∷ x3 ∷ x4 ∷ x5 ∷ x6 ∷ x7 ∷ x8 ∷ x9 ∷ x10 ∷ x11 ∷ x12 ∷ x13 ∷ []) d0.1 in
    let d2 = first_digit x2 (x3 ∷ x4 ∷ x5 ∷ x6 ∷ x7 ∷ x8 ∷ x9 ∷ x10 ∷ x11 ∷ x12 ∷ x13 ∷ []) d1.1 in
    let d3 = first_digit x3 (x4 ∷ x5 ∷ x6 ∷ x7 ∷ x8 ∷ x9 ∷ x10 ∷ x11 ∷ x12 ∷ x13 ∷ []) d2.1 in
    let d4 = first_digit x4 (x5 ∷ x6 ∷ x7 ∷ x8 ∷ x9 ∷ x10 ∷ x11 ∷ x12 ∷ x13 ∷ []) d3.1 in
    let d5 = first_digit x5 (x6 ∷ x7 ∷ x8 ∷ x9 ∷ x10 ∷ x11 ∷ x12 ∷ x13 ∷ []) d4.1 in
    let d6 = first_digit x6 (x7 ∷ x8 ∷ x9 ∷ x10 ∷ x11 ∷ x12 ∷ x13 ∷ []) d5.1 in
    let d7 = first_digit x7 (x8 ∷ x9 ∷ x10 ∷ x11 ∷ x12 ∷ x13 ∷ []) d6.1 in
    let d8 = first_digit x8 (x9 ∷ x10 ∷ x11 ∷ x12 ∷ x13 ∷ []) d7.1 in
    let d9 = first_digit x9 (x10 ∷ x11 ∷ x12 ∷ x13 ∷ []) d8.1 in
    let d10 = first_digit x10 (x11 ∷ x12 ∷ x13 ∷ []) d9.1 in
    let d11 = first_digit x11 (x12 ∷ x13 ∷ []) d10.1 in
    let d12 = first_digit x12 (x13 ∷ []) d11.1 in
    let d13 = first_digit x13 ([]) d12.1 in
    let z : 90 ≡ x14 = eqb-true 90 x14 (and_parts (nat_eq 90 x14) true form.1).0 in
    let century = pair x0 x1 in
    let year = 100 * century + pair x2 x3 in
    let date : Civil = record { year = year; month = pair x4 x5; day = pair x6 x7 } in
    let a = and_parts (is_day year (pair x4 x5) (pair x6 x7) && nat_lt (pair x8 x9) 24 && nat_lt (pair x10 x11) 60) (nat_lt (pair x12 x13) 60) parts.1 in
    let b = and_parts (is_day year (pair x4 x5) (pair x6 x7) && nat_lt (pair x8 x9) 24) (nat_lt (pair x10 x11) 60) a.0 in
    let c = and_parts (is_day year (pair x4 x5) (pair x6 x7)) (nat_lt (pair x8 x9) 24) b.0 in
    let late : year < 10000 = omega (arith, pair_small x0 x1 d0.0 d1.0, pair_small x2 x3 d2.0 d3.0) in
    let found = moment_of date (pair x8 x9) (pair x10 x11) (pair x12 x13) (day_is year (pair x4 x5) (pair x6 x7) c.0 late) (ltb-true (pair x8 x9) 24 c.1) (ltb-true (pair x10 x11) 60 b.1) (ltb-true (pair x12 x13) 60 a.1) in
    let dates : flat_map two_digits (century ∷ year ∷ pair x4 x5 ∷ pair x6 x7 ∷ []) ≡ x0 ∷ x1 ∷ x2 ∷ x3 ∷ x4 ∷ x5 ∷ x6 ∷ x7 ∷ [] =
    two_more century (year ∷ pair x4 x5 ∷ pair x6 x7 ∷ []) (x0 ∷ x1 ∷ []) (x2 ∷ x3 ∷ x4 ∷ x5 ∷ x6 ∷ x7 ∷ []) (two_text x0 x1 d0.0 d1.0)
    (two_more year (pair x4 x5 ∷ pair x6 x7 ∷ []) (x2 ∷ x3 ∷ []) (x4 ∷ x5 ∷ x6 ∷ x7 ∷ []) (last_text century x2 x3 d2.0 d3.0)
    (two_more (pair x4 x5) (pair x6 x7 ∷ []) (x4 ∷ x5 ∷ []) (x6 ∷ x7 ∷ []) (two_text x4 x5 d4.0 d5.0) (two_more (pair x6 x7) [] (x6 ∷ x7 ∷ []) [] (two_text x6 x7 d6.0 d7.0) refl))) in
    let times : flat_map two_digits (pair x8 x9 ∷ pair x10 x11 ∷ pair x12 x13 ∷ []) ≡ x8 ∷ x9 ∷ x10 ∷ x11 ∷ x12 ∷ x13 ∷ [] =
    two_more (pair x8 x9) (pair x10 x11 ∷ pair x12 x13 ∷ []) (x8 ∷ x9 ∷ []) (x10 ∷ x11 ∷ x12 ∷ x13 ∷ []) (two_text x8 x9 d8.0 d9.0)
    (two_more (pair x10 x11) (pair x12 x13 ∷ []) (x10 ∷ x11 ∷ []) (x12 ∷ x13 ∷ []) (two_text x10 x11 d10.0 d11.0) (two_more (pair x12 x13) [] (x12 ∷ x13 ∷ []) [] (two_text x12 x13 d12.0 d13.0) refl)) in
    let written : seven (year / 100) year (pair x4 x5) (pair x6 x7) (pair x8 x9) (pair x10 x11) (pair x12 x13) ≡ x0 ∷ x1 ∷ x2 ∷ x3 ∷ x4 ∷ x5 ∷ x6 ∷ x7 ∷ x8 ∷ x9 ∷ x10 ∷ x11 ∷ x12 ∷ x13 ∷ 90 ∷ [] =
    ap (λ (n : ℕ). seven n year (pair x4 x5) (pair x6 x7) (pair x8 x9) (pair x10 x11) (pair x12 x13)) (first_two century x2 x3 d2.0 d3.0)
    ∙ ap (λ (l : List ℕ). l ++ flat_map two_digits (pair x8 x9 ∷ pair x10 x11 ∷ pair x12 x13 ∷ []) ++ 90 ∷ []) dates
    ∙ ap (λ (l : List ℕ). (x0 ∷ x1 ∷ x2 ∷ x3 ∷ x4 ∷ x5 ∷ x6 ∷ x7 ∷ []) ++ l ++ 90 ∷ []) times in
    let same : text ≡ seven (year / 100) year (pair x4 x5) (pair x6 x7) (pair x8 x9) (pair x10 x11) (pair x12 x13) =
    sym (ap (λ (octet : ℕ). x0 ∷ x1 ∷ x2 ∷ x3 ∷ x4 ∷ x5 ∷ x6 ∷ x7 ∷ x8 ∷ x9 ∷ x10 ∷ x11 ∷ x12 ∷ x13 ∷ octet ∷ []) z) ∙ sym written in
    (found.0, found.1, same ∙ found.2)

record Begins (n : ℕ) (text : List ℕ) : Type 0 where
  first : ℕ
  rest : List ℕ
  is : text ≡ first ∷ rest
  left : length rest ≡ n

begins : (n : ℕ) (text : List ℕ) → length text ≡ suc n → Begins n text
begins n [] e = absurd (omega (arith, e))
begins n (first ∷ rest) e = record { first = first; rest = rest; is = refl; left = omega (arith, e) }

nothing_left : (text : List ℕ) → length text ≡ 0 → text ≡ []
nothing_left [] e = refl
nothing_left (first ∷ rest) e = absurd (omega (arith, e))

pub date_moment : DatesAreMoments
date_moment text is =
    let e = is_true (is_date text) is in
    let form = and_parts (has_date_form text) (is_moment text) e in
    let digits = and_parts (nat_eq (length text) 15 && list_all is_digit (take 14 text)) (list_all (nat_eq 90) (drop 14 text)) form.0 in
    let long : length text ≡ 15 = eqb-true (length text) 15 (and_parts (nat_eq (length text) 15) (list_all is_digit (take 14 text)) digits.0).0 in
    let b0 = begins 14 text long in
    let b1 = begins 13 b0.rest b0.left in
    let b2 = begins 12 b1.rest b1.left in
    let b3 = begins 11 b2.rest b2.left in
    let b4 = begins 10 b3.rest b3.left in
    let b5 = begins 9 b4.rest b4.left in
    let b6 = begins 8 b5.rest b5.left in
    let b7 = begins 7 b6.rest b6.left in
    let b8 = begins 6 b7.rest b7.left in
    let b9 = begins 5 b8.rest b8.left in
    let b10 = begins 4 b9.rest b9.left in
    let b11 = begins 3 b10.rest b10.left in
    let b12 = begins 2 b11.rest b11.left in
    let b13 = begins 1 b12.rest b12.left in
    let b14 = begins 0 b13.rest b13.left in
    let all : text ≡ b0.first ∷ b1.first ∷ b2.first ∷ b3.first ∷ b4.first ∷ b5.first ∷ b6.first ∷ b7.first ∷ b8.first ∷ b9.first ∷ b10.first ∷ b11.first ∷ b12.first ∷ b13.first ∷ b14.first ∷ [] =
    b0.is ∙ ap (λ (l : List ℕ). b0.first ∷ l) (b1.is ∙ ap (λ (l : List ℕ). b1.first ∷ l) (b2.is ∙ ap (λ (l : List ℕ). b2.first ∷ l) (b3.is ∙ ap (λ (l : List ℕ). b3.first ∷ l) (b4.is ∙ ap (λ (l : List ℕ). b4.first ∷ l) (b5.is ∙ ap (λ (l : List ℕ). b5.first ∷ l) (b6.is ∙ ap (λ (l : List ℕ). b6.first ∷ l) (b7.is ∙ ap (λ (l : List ℕ). b7.first ∷ l) (b8.is ∙ ap (λ (l : List ℕ). b8.first ∷ l) (b9.is ∙ ap (λ (l : List ℕ). b9.first ∷ l) (b10.is ∙ ap (λ (l : List ℕ). b10.first ∷ l) (b11.is ∙ ap (λ (l : List ℕ). b11.first ∷ l) (b12.is ∙ ap (λ (l : List ℕ). b12.first ∷ l) (b13.is ∙ ap (λ (l : List ℕ). b13.first ∷ l) (b14.is ∙ ap (λ (l : List ℕ). b14.first ∷ l) (nothing_left b14.rest b14.left))))))))))))))) in
    let D : List ℕ → Type 0 = λ l. is_date l ≡ true in
    let M : List ℕ → Type 0 = λ l. Dated l in
    subst M (sym all) (fifteen b0.first b1.first b2.first b3.first b4.first b5.first b6.first b7.first b8.first b9.first b10.first b11.first b12.first b13.first b14.first (subst D all e))
