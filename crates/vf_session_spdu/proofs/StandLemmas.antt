-- Octets that stand at a place among all.
use Rattle.std.proofs.Common.{◌≡◌, ℕ, ◌+◌, ◌-◌, ◌≤◌, ◌<◌, Bool, true, false, cond, nat_lt, List, [], ◌∷◌, length, take, drop, Option, None, Some, refl, ap, sym, subst, ◌∙◌, arith, drop-drop, length-drop, length-take-le, take-take, take_all}
use Rattle.std.proofs.lemmas.Bool.Decides.{nat_tests}
use Rattle.std.proofs.lemmas.List.{drop-take}
use Rattle.vf_session_spdu.specs.Numbers.{length_at}
use Rattle.vf_session_spdu.specs.Parts.{Measured, short, whole, measured, measured_by}
use Rattle.vf_session_spdu.specs.Steps.{Stands}

part_of_part : (start len at n : ℕ) (all : List ℕ) → at + n ≤ len → take n (drop (start + at) all) ≡ take n (drop at (take len (drop start all)))
part_of_part start len at n all within =
    let left : ℕ = len - at in
    let on : at + left ≡ len = omega (arith, within) in
    ap (take n) (sym (drop-drop at start all))
    ∙ sym (take-take n left (drop at (drop start all)) (omega (arith, within)))
    ∙ ap (take n) (sym (drop-take at left (drop start all)))
    ∙ ap (λ k. take n (drop at (take k (drop start all)))) on

-- some in turn of them
pub stands-part : (all : List ℕ) (place : ℕ) (octets : List ℕ) (at n : ℕ) → Stands all place octets → at + n ≤ length octets → Stands all (place + at) (take n (drop at octets))
stands-part all place octets at n (is, within) le =
    let long : length (take n (drop at octets)) ≡ n = length-take-le n (drop at octets) (omega (arith, le, length-drop at octets)) in (
      ap (λ k. take k (drop (place + at) all)) long ∙ part_of_part place (length octets) at n all le ∙ ap (λ o. take n (drop at o)) is,
      omega (arith, long, le, within),
    )

-- those from an offset on
pub stands-later : (all : List ℕ) (place : ℕ) (octets : List ℕ) (at : ℕ) → Stands all place octets → at ≤ length octets → Stands all (place + at) (drop at octets)
stands-later all place octets at s le =
    let n : ℕ = length octets - at in
    let P : List ℕ → Type 0 = λ o. Stands all (place + at) o in
    subst P (take_all n (drop at octets) (omega (arith, length-drop at octets))) (stands-part all place octets at n s (omega (arith, le)))

-- after the first octet
pub stands-after : (all : List ℕ) (place : ℕ) (octets after : List ℕ) → Stands all place octets → 0 < length octets → after ≡ drop 1 octets → Stands all (place + 1) after
stands-after all place octets after s some is =
    let P : List ℕ → Type 0 = λ o. Stands all (place + 1) o in
    subst P (sym is) (stands-later all place octets 1 s (omega (arith, some)))

pub stands-all : (all octets : List ℕ) → all ≡ octets → Stands all 0 octets
stands-all all octets is = (take_all (length octets) all (omega (arith, ap length is)) ∙ is, omega (arith, ap length is))

-- ---- what follows an identifier

record Cut (octets : List ℕ) (spelled : ℕ) (value more : List ℕ) : Type 0 where
  pub inside : take (length value) (drop spelled octets) ≡ value
  pub after : drop (spelled + length value) octets ≡ more

cut_if : (octets : List ℕ) (b : Bool) (n count s : ℕ) (v m : List ℕ) → b ≡ nat_lt (length octets) (n + count)
    → cond b short (whole n (take count (drop n octets)) (drop (n + count) octets)) ≡ whole s v m → Cut octets s v m
cut_if octets true n count s v m test h = absurd cc
cut_if octets false n count s v m test h =
    let spelled : n ≡ s = cc in
    let value : take count (drop n octets) ≡ v = cc in
    let more : drop (n + count) octets ≡ m = cc in
    let fits : n + count ≤ length octets = grind (arith, nat_tests) in
    let long : length v ≡ count = ap length (sym value) ∙ length-take-le count (drop n octets) (omega (arith, fits, length-drop n octets)) in
    let place : n + count ≡ s + length v = omega (arith, spelled, long) in
    record {
      inside = ap (λ k. take k (drop s octets)) long ∙ ap (λ k. take count (drop k octets)) (sym spelled) ∙ value;
      after = ap (λ k. drop k octets) (sym place) ∙ more;
    }

cut_by : (octets : List ℕ) (r : Option (ℕ × ℕ)) (s : ℕ) (v m : List ℕ) → measured_by octets r ≡ whole s v m → Cut octets s v m
cut_by octets None s v m h = absurd cc
cut_by octets (Some (n, count)) s v m h = cut_if octets (nat_lt (length octets) (n + count)) n count s v m refl h

pub stands-value : (all : List ℕ) (place : ℕ) (octets : List ℕ) (s : ℕ) (v m : List ℕ) → Stands all place octets → measured octets ≡ whole s v m
    → s + (length v + length m) ≡ length octets → Stands all (place + s) v
stands-value all place octets s v m stands found size =
    let P : List ℕ → Type 0 = λ o. Stands all (place + s) o in
    subst P (cut_by octets (length_at octets) s v m found).inside (stands-part all place octets s (length v) stands (omega (arith, size)))

pub stands-more : (all : List ℕ) (place : ℕ) (octets : List ℕ) (s : ℕ) (v m : List ℕ) → Stands all place octets → measured octets ≡ whole s v m
    → s + (length v + length m) ≡ length octets → Stands all (place + s + length v) m
stands-more all place octets s v m stands found size =
    let at : ℕ = s + length v in
    let on : place + at ≡ place + s + length v = omega arith in
    let P : List ℕ → Type 0 = λ o. Stands all (place + at) o in
    let Q : ℕ → Type 0 = λ n. Stands all n m in
    subst Q on (subst P (cut_by octets (length_at octets) s v m found).after (stands-later all place octets at stands (omega (arith, size))))
