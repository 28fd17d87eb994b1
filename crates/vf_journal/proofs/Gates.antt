-- What octets are read as, gate by gate.
use Rattle.std.proofs.Common.{◌≡◌, ◌≢◌, ◌==◌, ◌||◌, ℕ, zero, suc, ◌+◌, ◌<◌, ◌≤◌, Bool, true, false, if◌then◌else◌, nat_lt, List, [], ◌∷◌, ◌++◌, length, take, drop, Option, None, Some, refl, sym, ◌∙◌, ap, arith, append_assoc, length-append, length-drop}
use Rattle.std.proofs.lemmas.Bool.Decides.{nat_tests}
use Rattle.std.proofs.lemmas.List.{take_at, drop_at, length-take-le}
use Rattle.vf_journal.specs.Layout.{length_named, length_octets}
use Rattle.vf_journal.specs.Records.{HoldsArea, before_rest, first_record, longest, records_in, records_up_to, sized}
use Rattle.vf_journal.proofs.Areas.{length-sized}
use Rattle.vf_journal.proofs.Numbers.{length-length_octets, length_read_back}

-- after a closed gate, or with too little after it, stands no record
pub first_closed : (gate : ℕ) (after : List ℕ) → gate ≡ 0 → first_record (gate ∷ after) ≡ None
first_closed gate after closed =
    let test : (gate == 0) ≡ true = grind (arith, nat_tests) in
    rw test refl

pub first_short : (gate : ℕ) (after : List ℕ) → length after < length_named after + 5 → first_record (gate ∷ after) ≡ None
first_short gate after short = cases (gate == 0) refl
  where
    less : nat_lt (length after) (length_named after + 5) ≡ true
    less = grind (arith, nat_tests)

    cases : (b : Bool) → (gate == 0) ≡ b → first_record (gate ∷ after) ≡ None
    cases true is = rw is refl
    cases false is = rw (is, less) refl

pub first_whole : (gate : ℕ) (after : List ℕ) → gate ≢ 0 → length_named after + 5 ≤ length after
    → first_record (gate ∷ after) ≡ Some (take (length_named after) (drop 4 after), drop (length_named after + 4) after)
first_whole gate after opened long =
    let open_gate : (gate == 0) ≡ false = grind (arith, nat_tests) in
    let enough : nat_lt (length after) (length_named after + 5) ≡ false = grind (arith, nat_tests) in
    rw (open_gate, enough) refl

-- fewer octets stand after a record than from its gate on
chosen : (b : Bool) (found x : List ℕ × List ℕ) → (if b then None else Some x) ≡ Some found → (b ≡ false) × (x ≡ found)
chosen true found x is = cc
chosen false found x is = (refl, let same : x ≡ found = cc in same)

pub first_falls : (octets : List ℕ) (found : List ℕ × List ℕ) → first_record octets ≡ Some found → length found.1 < length octets
first_falls [] found is = cc
first_falls (gate ∷ after) found is =
    let pick = chosen ((gate == 0) || nat_lt (length after) (length_named after + 5)) found (take (length_named after) (drop 4 after), drop (length_named after + 4) after) is in
    let rest = ap (λ (x : List ℕ × List ℕ). length x.1) pick.1 in
    omega (arith, rest, length-drop (length_named after + 4) after)

-- to look for more records than there can be changes nothing
enough_at : (n m : ℕ) (found : Option (List ℕ × List ℕ)) → ((rest : List ℕ × List ℕ) → found ≡ Some rest → records_up_to n rest.1 ≡ records_up_to m rest.1)
    → before_rest (records_up_to n) found ≡ before_rest (records_up_to m) found
enough_at n m None same = refl
enough_at n m (Some found) same = ap (λ (l : List (List ℕ)). found.0 ∷ l) (same found refl)

none_in : (m : ℕ) → [] ≡ records_up_to m []
none_in zero = refl
none_in (suc m) = refl

pub enough : (n m : ℕ) (octets : List ℕ) → length octets ≤ n → length octets ≤ m → records_up_to n octets ≡ records_up_to m octets
enough zero m [] le_n le_m = none_in m
enough zero m (x ∷ xs) le_n le_m = absurd (omega arith)
enough (suc n) zero [] le_n le_m = refl
enough (suc n) zero (x ∷ xs) le_n le_m = absurd (omega arith)
enough (suc n) (suc m) octets le_n le_m = enough_at n m (first_record octets) (λ rest is.
    let falls = first_falls octets rest is in
    enough n m rest.1 (omega (arith, falls)) (omega (arith, falls)))

pub reads_none : (octets : List ℕ) → first_record octets ≡ None → records_in octets ≡ []
unfolding records_in
reads_none octets is = enough (length octets) (suc (length octets)) octets (omega arith) (omega arith) ∙ ap (before_rest (records_up_to (length octets))) is

pub reads_some : (octets : List ℕ) (found : List ℕ × List ℕ) → first_record octets ≡ Some found → records_in octets ≡ found.0 ∷ records_in found.1
unfolding records_in
reads_some octets found is =
    enough (length octets) (suc (length octets)) octets (omega arith) (omega arith)
    ∙ ap (before_rest (records_up_to (length octets))) is
    ∙ ap (λ (l : List (List ℕ)). found.0 ∷ l) (enough (length octets) (length found.1) found.1 (omega (arith, first_falls octets found is)) (omega arith))

-- a record of an area is read as what it is
area_first : (gate : ℕ) (item rest : List ℕ) → gate ≢ 0 → length item ≤ longest → 1 ≤ length rest → first_record (gate ∷ (sized item ++ rest)) ≡ Some (item, rest)
area_first gate item rest opened short some =
    let grouped : sized item ++ rest ≡ length_octets (length item) ++ (item ++ rest) = append_assoc (length_octets (length item)) item rest in
    let named : length_named (sized item ++ rest) ≡ length item = ap length_named grouped ∙ length_read_back (length item) (item ++ rest) (omega arith) in
    let long : length_named (sized item ++ rest) + 5 ≤ length (sized item ++ rest) = omega (arith, named, length-append (sized item) rest, length-sized item) in
    let after : drop 4 (sized item ++ rest) ≡ item ++ rest = ap (λ (l : List ℕ). drop 4 l) grouped ∙ drop_at (length_octets (length item)) (item ++ rest) 4 (length-length_octets (length item)) in
    let record_is : take (length_named (sized item ++ rest)) (drop 4 (sized item ++ rest)) ≡ item =
    ap (λ (n : ℕ). take n (drop 4 (sized item ++ rest))) named ∙ ap (λ (l : List ℕ). take (length item) l) after ∙ take_at item rest (length item) refl in
    let rest_is : drop (length_named (sized item ++ rest) + 4) (sized item ++ rest) ≡ rest =
    ap (λ (n : ℕ). drop (n + 4) (sized item ++ rest)) named ∙ drop_at (sized item) rest (length item + 4) (length-sized item) in
    first_whole gate (sized item ++ rest) opened long ∙ ap (λ (l : List ℕ). Some (l, drop (length_named (sized item ++ rest) + 4) (sized item ++ rest))) record_is ∙ ap (λ (l : List ℕ). Some (item, l)) rest_is

area_some : (records : List (List ℕ)) (octets : List ℕ) → HoldsArea octets records → 1 ≤ length octets
area_some [] octets (rest, is) = omega (arith, ap length is)
area_some (item ∷ records) octets (gate, rest, opened, short, is, more) = omega (arith, ap length is)

pub area_read : (records : List (List ℕ)) (octets : List ℕ) → HoldsArea octets records → records_in octets ≡ records
area_read [] octets (rest, is) = reads_none octets (ap first_record is ∙ first_closed 0 rest refl)
area_read (item ∷ records) octets (gate, rest, opened, short, is, more) =
    reads_some octets (item, rest) (ap first_record is ∙ area_first gate item rest opened short (area_some records rest more))
    ∙ ap (λ (l : List (List ℕ)). item ∷ l) (area_read records rest more)

-- what stands after a record
pub first_rest : (octets : List ℕ) (found : List ℕ × List ℕ) → first_record octets ≡ Some found → found.1 ≡ drop (length found.0 + 5) octets
first_rest [] found is = cc
first_rest (gate ∷ after) found is =
    let count = length_named after in
    let pick = chosen ((gate == 0) || nat_lt (length after) (count + 5)) found (take count (drop 4 after), drop (count + 4) after) is in
    let long : count + 5 ≤ length after = enough_after (gate == 0) (length after) (count + 5) pick.0 in
    let size : length found.0 ≡ count = sym (ap (λ (x : List ℕ × List ℕ). length x.0) pick.1) ∙ length-take-le count (drop 4 after) (omega (arith, length-drop 4 after, long)) in
    let next : suc (count + 4) ≡ length found.0 + 5 = omega (arith, size) in
    sym (ap (λ (x : List ℕ × List ℕ). x.1) pick.1) ∙ ap (λ (n : ℕ). drop n (gate ∷ after)) next
  where
    enough_after : (b : Bool) (m n : ℕ) → (b || nat_lt m n) ≡ false → n ≤ m
    enough_after true m n is = cc
    enough_after false m n is = grind (arith, nat_tests)
