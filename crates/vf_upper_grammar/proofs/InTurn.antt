-- Values in turn: as many turns as there are octets are enough.
use Rattle.std.proofs.Common.{◌≡◌, ℕ, zero, suc, ◌+◌, ◌<◌, ◌≤◌, Bool, true, false, List, [], ◌∷◌, length, drop, refl, ap, sym, ◌∙◌, arith}
use Rattle.std.specs.Prelude.{nat_lt, take, Ok, Err}
use Rattle.std.proofs.lemmas.Bool.Decides.{nat_tests}
use Rattle.std.proofs.lemmas.List.{drop-drop, length-drop, length-take-le}
use Rattle.vf_ber.specs.Reader.{reading}
use Rattle.vf_ber.specs.Reading.{IsReading, Reading, Read, Short, Bad, Deep, Long}
use Rattle.vf_ber.proofs.OneTree.{spelling_long}
use Rattle.vf_ber.proofs.Plain.{reading_found}
use Rattle.vf_upper_grammar.specs.declared.marks.Stop.{Stop}
use Rattle.vf_upper_grammar.specs.declared.marks.Stop.TheVariants.{At, NoMemory}
use Rattle.vf_upper_grammar.specs.ValueViews.{IsNext}
use Rattle.vf_upper_grammar.specs.MarkViews.{Stops}
use Rattle.vf_upper_grammar.specs.Marks.{Mark, Found}
use Rattle.vf_upper_grammar.specs.Texts.{go_on, some, some_in, then_read}
use Rattle.vf_upper_grammar.proofs.Readings.{Others}

-- a value takes an octet at least
abbrev pub Takes : List ℕ → Reading → Type 0
Takes octets (Read tree n) = (0 < n) × (n ≤ length octets)
Takes octets other = Unit {0}

takes_by : (octets : List ℕ) (v : Reading) → IsReading octets v → Takes octets v
takes_by octets (Read tree n) (le, (spells, within)) =
    let long = spelling_long (take n octets) tree spells in
    let len = length-take-le n octets le in
    (omega arith, le)
takes_by octets Short is = tt
takes_by octets (Bad at) is = tt
takes_by octets (Deep at) is = tt
takes_by octets (Long at) is = tt

pub takes : (octets : List ℕ) → Takes octets (reading octets)
takes octets = takes_by octets (reading octets) (reading_found octets)

-- equal on shorter octets
abbrev Agree : ℕ → Others → Others → Type 0
Agree n f g = (at : ℕ) (octets : List ℕ) (found : List Mark) → length octets < n → f at octets found ≡ g at octets found

go-same : (n : ℕ) (f g : Others) → Agree n f g → Agree n (go_on f) (go_on g)
go-same n f g agree at [] found lt = refl
go-same n f g agree at (octet ∷ octets) found lt = agree at (octet ∷ octets) found lt

then-same : (at : ℕ) (octets : List ℕ) (f g : Others) (found : List Mark) (v : Reading) → Takes octets v → Agree (length octets) f g
    → then_read at octets f found v ≡ then_read at octets g found v
then-same at octets f g found (Read tree n) t agree = let some = t.0 in let few = t.1 in agree (at + n) (drop n octets) _ (omega (arith, length-drop n octets))
then-same at octets f g found Short t agree = refl
then-same at octets f g found (Bad p) t agree = refl
then-same at octets f g found (Deep p) t agree = refl
then-same at octets f g found (Long p) t agree = refl

some-same : (t u at : ℕ) (octets : List ℕ) (found : List Mark) → length octets < t → length octets < u → some_in t at octets found ≡ some_in u at octets found
unfolding some_in
some-same zero u at octets found a b = absurd (omega arith)
some-same (suc t) zero at octets found a b = absurd (omega arith)
some-same (suc t) (suc u) at octets found a b =
    then-same at octets (go_on (some_in t)) (go_on (some_in u)) found (reading octets) (takes octets)
    (go-same (length octets) (some_in t) (some_in u) (λ p o f lt. some-same t u p o f (omega arith) (omega arith)))

-- the values from a place on
unfoldable pub some_at : Others
some_at at octets found = some_in (suc (length octets)) at octets found

pub some-at : (octets : List ℕ) (found : List Mark) → some octets found ≡ some_at 0 octets found
unfolding some some_at
some-at octets found = refl

pub some-step : (at : ℕ) (octets : List ℕ) (found : List Mark) → some_at at octets found ≡ then_read at octets (go_on some_at) found (reading octets)
unfolding some_at some_in
some-step at octets found =
    then-same at octets (go_on (some_in (length octets))) (go_on some_at) found (reading octets) (takes octets)
    (go-same (length octets) (some_in (length octets)) some_at (λ p o f lt. some-same (length octets) (suc (length o)) p o f (omega arith) (omega arith)))

-- ---- the loop over values

-- what is still to be read, if anything is
abbrev pub left : Bool → ℕ → List ℕ → List Mark → Found
left true at rest found = some_at at rest found
left false at rest found = Ok found

go-left : (at : ℕ) (rest : List ℕ) (found : List Mark) → go_on some_at at rest found ≡ left (nat_lt 0 (length rest)) at rest found
go-left at [] found = refl
go-left at (octet ∷ octets) found =
    let some : nat_lt 0 (length (octet ∷ octets)) ≡ true = grind (arith, nat_tests) in ap (λ b. left b at (octet ∷ octets) found) (sym some)

-- something is after a place where this is before the end
after_place : (at : ℕ) (octets : List ℕ) → nat_lt 0 (length (drop at octets)) ≡ nat_lt at (length octets)
after_place at octets = let long = length-drop at octets in grind (arith, nat_tests)

pub left_next : (at n : ℕ) (octets : List ℕ) (old new : List Mark) → IsNext at (drop at octets) old (Ok n) new
    → left true at (drop at octets) old ≡ left (nat_lt (at + n) (length octets)) (at + n) (drop (at + n) octets) new
left_next at n octets old new next =
    some-step at (drop at octets) old ∙ next (go_on some_at) ∙ ap (λ o. go_on some_at (at + n) o new) (drop-drop n at octets) ∙ go-left (at + n) (drop (at + n) octets) new
    ∙ ap (λ b. left b (at + n) (drop (at + n) octets) new) (after_place (at + n) octets)

pub left_stops : (at : ℕ) (rest : List ℕ) (old new : List Mark) (stop : Stop) (all : Found) → all ≡ left true at rest old → IsNext at rest old (Err stop) new → Stops stop all
left_stops at rest old new (At place) all same next = same ∙ some-step at rest old ∙ next (go_on some_at)
left_stops at rest old new NoMemory all same next = tt
