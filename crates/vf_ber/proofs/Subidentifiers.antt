-- Groups of octets and their numbers.
use Rattle.std.proofs.Common.{◌≡◌, ℕ, zero, suc, ◌+◌, ◌*◌, ◌%◌, ◌<◌, ◌≤◌, List, [], ◌∷◌, length, take, drop, get_or, refl, ap, sym, ◌∙◌, arith, le-ltb, lt-ltb, nat_lt, true, false, cond, length-drop, add-one}
use Rattle.std.specs.Prelude.{Some, None, ◌||◌}
use Rattle.std.specs.Option.{option_and_then, option_map}
use Rattle.vf_ber.specs.Primitive.{groups_of, led_by, septets, is_padded, subidentifier_of}

-- Octets with bit 8 set, and one with bit 8 clear after them, are the first group.
pub first_group : (octets : List ℕ) (i : ℕ) → i < length octets → ((k : ℕ) → k < i → 128 ≤ get_or octets k 0) → get_or octets i 0 < 128
    → groups_of octets ≡ option_map (λ groups. take (suc i) octets ∷ groups) (groups_of (drop (suc i) octets))
first_group [] i within above below = absurd (omega arith)
first_group (octet ∷ octets) zero within above below = rw (lt-ltb octet 128 below) refl
first_group (octet ∷ octets) (suc i) within above below =
    let rest = first_group octets i (omega arith) (λ k lt. above (suc k) (omega arith)) below in
    let high : 128 ≤ octet = above 0 (omega arith) in
    rw (le-ltb octet 128 high, rest) (elim (groups_of (drop (suc i) octets)) as (λ o. option_and_then (led_by octet) (option_map (λ groups. take (suc i) octets ∷ groups) o) ≡ option_map (λ groups. (octet ∷ take (suc i) octets) ∷ groups) o) [ None ↦ refl | Some groups ↦ refl ])

-- octets with bit 8 set are not whole groups
pub no_group : (octets : List ℕ) → 0 < length octets → ((k : ℕ) → k < length octets → 128 ≤ get_or octets k 0) → groups_of octets ≡ None
no_group [] some above = absurd (omega arith)
no_group (octet ∷ []) some above = let high : 128 ≤ octet = above 0 (omega arith) in rw (le-ltb octet 128 high) refl
no_group (octet ∷ other ∷ octets) some above =
    let high : 128 ≤ octet = above 0 (omega arith) in
    let rest = no_group (other ∷ octets) (omega arith) (λ k lt. above (suc k) (omega arith)) in
    rw (le-ltb octet 128 high) (ap (option_and_then (led_by octet)) rest)

pub septets-le : (n : ℕ) (octets : List ℕ) → n ≤ septets n octets
septets-le n [] = omega arith
septets-le n (octet ∷ octets) = omega (arith, septets-le (128 * n + octet % 128) octets)

pub septets-more : (n : ℕ) (octets : List ℕ) → 0 < length octets → 128 * n ≤ septets n octets
septets-more n [] some = absurd (omega arith)
septets-more n (octet ∷ octets) some = omega (arith, septets-le (128 * n + octet % 128) octets)

-- a number that the next octet makes too large
pub too_large : (group : List ℕ) (i n : ℕ) → i < length group → 2097152 < n → septets n (drop i group) ≡ septets 0 group → None ≡ subidentifier_of group
too_large group i n within large e =
    let more : 128 * n ≤ septets n (drop i group) = septets-more n (drop i group) (omega (arith, length-drop i group)) in
    let past : 268435583 < septets 0 group = omega (arith, e) in
    elim (is_padded group) as (λ b. None ≡ cond (b || nat_lt 268435583 (septets 0 group)) None (Some (septets 0 group))) [
      | true ↦ refl
      | false ↦ rw (lt-ltb 268435583 (septets 0 group) past) refl
    ]

-- the first group and what is after it
pub cut_tail : (octets prefix back : List ℕ) (i : ℕ) → i < length octets → ((k : ℕ) → k < i → 128 ≤ get_or octets k 0) → get_or octets i 0 < 128
    → prefix ≡ take (i + 1) octets → back ≡ drop (i + 1) octets → groups_of octets ≡ option_map (λ groups. prefix ∷ groups) (groups_of back)
cut_tail octets prefix back i within above below f b =
    first_group octets i within above below
    ∙ ap (λ n. option_map (λ groups. take n octets ∷ groups) (groups_of (drop n octets))) (sym (add-one i))
    ∙ ap (λ x. option_map (λ groups. x ∷ groups) (groups_of (drop (i + 1) octets))) (sym f)
    ∙ ap (λ x. option_map (λ groups. prefix ∷ groups) (groups_of x)) (sym b)
