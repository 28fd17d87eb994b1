-- What octets begin with is read there whatever follows.
use Rattle.std.proofs.Common.{◌≡◌, ℕ, ◌+◌, ◌<◌, ◌≤◌, List, [], ◌++◌, length, take, sym, subst, ◌∙◌, arith, length-append, inl, inr}
use Rattle.std.proofs.lemmas.Bool.{cases_lt}
use Rattle.std.proofs.lemmas.List.{append-nil, length-take-le, take-append-le}
use Rattle.vf_ber.specs.Reader.{reading}
use Rattle.vf_ber.specs.Reading.{free, shallow, bounded, IsSpelling, Begins, IsFirstFault, Reading, Short, Bad, Deep, Long, Read, IsReading}
use Rattle.vf_ber.proofs.OneTree.{spelling_long}
use Rattle.vf_ber.proofs.Plain.{reading_found}
use Rattle.vf_ber.proofs.Readings.{begins_less, none_short, one_reading, take_less}

pub reading_is : (octets : List ℕ) (v : Reading) → IsReading octets v → reading octets ≡ v
reading_is octets v is = one_reading octets (reading octets) v (reading_found octets) is

pub reading_none : reading [] ≡ Short
reading_none = reading_is [] Short none_short

-- a value is two octets at least, and all of it is there
abbrev pub Takes : List ℕ → Reading → Type 0
Takes octets (Read tree n) = (1 < n) × (n ≤ length octets)
Takes octets _ = Unit {0}

takes_by : (octets : List ℕ) (v : Reading) → IsReading octets v → Takes octets v
takes_by octets (Read tree n) (le, (spelled, within)) = (omega (arith, spelling_long (take n octets) tree spelled, length-take-le n octets le), le)
takes_by octets Short is = tt
takes_by octets (Bad at) is = tt
takes_by octets (Deep at) is = tt
takes_by octets (Long at) is = tt

pub reading-takes : (octets : List ℕ) → Takes octets (reading octets)
reading-takes octets = takes_by octets (reading octets) (reading_found octets)

-- a reading that what follows can't change
abbrev pub IsSettled : Reading → Type 0
IsSettled Short = ⊥
IsSettled _ = Unit {0}

first_stays : (octets more : List ℕ) (at : ℕ) → IsFirstFault octets at → IsFirstFault (octets ++ more) at
first_stays octets more at f =
    let there = f.there in
    let before : take at (octets ++ more) ≡ take at octets = take-append-le at octets more (omega arith) in
    let upto : take (at + 1) (octets ++ more) ≡ take (at + 1) octets = take-append-le (at + 1) octets more (omega arith) in
    record {
      there = omega (arith, length-append octets more);
      before = subst (Begins bounded) (sym before) f.before;
      after = λ begun. f.after (subst (Begins bounded) upto begun);
      unread = λ n tree s. elim (cases_lt (length octets) n) [
        | inl lt ↦
            let whole = take n (octets ++ more) in
            let begun : Begins bounded (take (at + 1) whole) =
            begins_less bounded whole (at + 1) ([], tree, subst (λ (o : List ℕ). IsSpelling bounded o tree) (sym (append-nil whole)) s) in
            f.after (subst (Begins bounded) (take_less (at + 1) n (octets ++ more) (omega arith) ∙ upto) begun)
        | inr le ↦ f.unread n tree (subst (λ (o : List ℕ). IsSpelling bounded o tree) (take-append-le n octets more le) s)
      ];
    }

upto_stays : (octets more : List ℕ) (at : ℕ) → IsFirstFault octets at → take (at + 1) octets ≡ take (at + 1) (octets ++ more)
upto_stays octets more at f = let there = f.there in sym (take-append-le (at + 1) octets more (omega arith))

stays : (octets more : List ℕ) (v : Reading) → IsReading octets v → IsSettled v → IsReading (octets ++ more) v
stays octets more (Read tree n) (le, s) settled =
    (omega (arith, length-append octets more), subst (λ (o : List ℕ). IsSpelling bounded o tree) (sym (take-append-le n octets more le)) s)
stays octets more Short is settled = absurd settled
stays octets more (Bad at) (first, none) settled =
    (first_stays octets more at first, subst (λ (o : List ℕ). ¬ Begins free o) (upto_stays octets more at first) none)
stays octets more (Deep at) (first, some, none) settled =
    let upto = upto_stays octets more at first in
    (first_stays octets more at first, subst (Begins free) upto some, subst (λ (o : List ℕ). ¬ Begins shallow o) upto none)
stays octets more (Long at) (first, some) settled = (first_stays octets more at first, subst (Begins shallow) (upto_stays octets more at first) some)

pub reading-append : (octets more : List ℕ) → IsSettled (reading octets) → reading (octets ++ more) ≡ reading octets
reading-append octets more settled = reading_is (octets ++ more) (reading octets) (stays octets more (reading octets) (reading_found octets) settled)
