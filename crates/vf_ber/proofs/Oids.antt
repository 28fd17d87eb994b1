-- Subidentifiers that are spelled are read again, and what is read was spelled so.
use Rattle.std.proofs.Common.{◌≡◌, ℕ, suc, ◌+◌, ◌-◌, ◌*◌, ◌/◌, ◌%◌, ◌<◌, ◌≤◌, List, [], ◌∷◌, ◌++◌, length, refl, ap, sym, ◌∙◌, arith, le-ltb, lt-ltb, nat_lt, nat_le, nat_eq, true, false, cond, subst, inl, inr}
use Rattle.std.specs.Prelude.{Option, Some, None, Bool, ◌||◌, ◌&&◌}
use Rattle.std.specs.List.{flat_map, concat, list_all}
use Rattle.std.specs.Option.{option_and_then, option_map}
use Rattle.std.proofs.lemmas.Bool.{cases_lt, cond-true, cond-false, eqb-false, leb-true, ltb-false, ne_eqb}
use Rattle.std.proofs.lemmas.Bool.Decides.{nat_tests}
use Rattle.std.proofs.lemmas.Option.{option_and_then_some}
use Rattle.vf_base.specs.Oid.{IsOid, is_arc, is_oid, is_root}
use Rattle.vf_ber.specs.Contents.{arc_octets, oid_octets}
use Rattle.vf_ber.specs.ContentsLaws.{AllOctets}
use Rattle.vf_ber.proofs.Subidentifiers.{septets-le}
use Rattle.vf_ber.specs.Primitive.{arcs_at, arcs_of, groups_of, led_by, oid_with, root_arc, septets, is_padded, subidentifier_of, subidentifiers_of, subidentifiers_at}

-- How a number is spelled, by its size.
arc-1 : (n : ℕ) → n < 128 → arc_octets n ≡ n ∷ []
arc-1 n lt = rw (lt-ltb n 128 lt) refl

arc-2 : (n : ℕ) → 128 ≤ n → n < 16384 → arc_octets n ≡ (128 + n / 128) ∷ n % 128 ∷ []
arc-2 n ge lt = rw (le-ltb n 128 ge, lt-ltb n 16384 lt) refl

arc-3 : (n : ℕ) → 16384 ≤ n → n < 2097152 → arc_octets n ≡ (128 + n / 16384) ∷ (128 + n / 128 % 128) ∷ n % 128 ∷ []
arc-3 n ge lt = rw (le-ltb n 128 (omega arith), le-ltb n 16384 ge, lt-ltb n 2097152 lt) refl

arc-4 : (n : ℕ) → 2097152 ≤ n → n < 268435456 → arc_octets n ≡ (128 + n / 2097152) ∷ (128 + n / 16384 % 128) ∷ (128 + n / 128 % 128) ∷ n % 128 ∷ []
arc-4 n ge lt = rw (le-ltb n 128 (omega arith), le-ltb n 16384 (omega arith), le-ltb n 2097152 ge, lt-ltb n 268435456 lt) refl

arc-5 : (n : ℕ) → 268435456 ≤ n
    → arc_octets n ≡ (128 + n / 268435456) ∷ (128 + n / 2097152 % 128) ∷ (128 + n / 16384 % 128) ∷ (128 + n / 128 % 128) ∷ n % 128 ∷ []
arc-5 n ge = rw (le-ltb n 128 (omega arith), le-ltb n 16384 (omega arith), le-ltb n 2097152 (omega arith), le-ltb n 268435456 ge) refl

-- Octets of seven bits each, of which the last has bit 8 clear, and a number that they make.
pub record Spells (group : List ℕ) (n : ℕ) : Type 0 where
  pub cut : (rest : List ℕ) → groups_of (group ++ rest) ≡ option_map (λ groups. group ∷ groups) (groups_of rest)
  pub needed : is_padded group ≡ false
  pub number : septets 0 group ≡ n

cut-last : (octet : ℕ) → octet < 128 → (rest : List ℕ) → groups_of (octet ∷ rest) ≡ option_map (λ groups. (octet ∷ []) ∷ groups) (groups_of rest)
cut-last octet lt rest = rw (lt-ltb octet 128 lt) refl

led-map : (octet : ℕ) (group : List ℕ) (o : Option (List (List ℕ))) → option_and_then (led_by octet) (option_map (λ groups. group ∷ groups) o) ≡ option_map (λ groups. (octet ∷ group) ∷ groups) o
led-map octet group None = refl
led-map octet group (Some groups) = refl

cut-more : (octet : ℕ) (group : List ℕ) → 128 ≤ octet → ((rest : List ℕ) → groups_of (group ++ rest) ≡ option_map (λ groups. group ∷ groups) (groups_of rest))
    → (rest : List ℕ) → groups_of (octet ∷ (group ++ rest)) ≡ option_map (λ groups. (octet ∷ group) ∷ groups) (groups_of rest)
cut-more octet group ge cut rest = rw (le-ltb octet 128 ge, cut rest) (led-map octet group (groups_of rest))

spells-1 : (n : ℕ) → n < 128 → Spells (n ∷ []) n
spells-1 n lt = record { cut = cut-last n lt; needed = ne_eqb n 128 (λ e. omega arith); number = omega arith }

spells-2 : (n a b : ℕ) → 0 < a → b < 128 → n ≡ 128 * a + b → a < 128 → Spells ((128 + a) ∷ b ∷ []) n
spells-2 n a b some lt e small = record { cut = cut-more (128 + a) (b ∷ []) (omega arith) (cut-last b lt); needed = ne_eqb (128 + a) 128 (λ e. omega arith); number = omega arith }

spells-3 : (n a b c : ℕ) → 0 < a → b < 128 → c < 128 → n ≡ 16384 * a + 128 * b + c → a < 128 → Spells ((128 + a) ∷ (128 + b) ∷ c ∷ []) n
spells-3 n a b c some lt lt' e small = record {
  cut = cut-more (128 + a) ((128 + b) ∷ c ∷ []) (omega arith) (cut-more (128 + b) (c ∷ []) (omega arith) (cut-last c lt'));
  needed = ne_eqb (128 + a) 128 (λ e. omega arith);
  number = omega arith;
}

spells-4 : (n a b c d : ℕ) → 0 < a → b < 128 → c < 128 → d < 128 → n ≡ 2097152 * a + 16384 * b + 128 * c + d → a < 128 → Spells ((128 + a) ∷ (128 + b) ∷ (128 + c) ∷ d ∷ []) n
spells-4 n a b c d some lt lt' lt'' e small = record {
  cut = cut-more (128 + a) ((128 + b) ∷ (128 + c) ∷ d ∷ []) (omega arith) (cut-more (128 + b) ((128 + c) ∷ d ∷ []) (omega arith) (cut-more (128 + c) (d ∷ []) (omega arith) (cut-last d lt'')));
  needed = ne_eqb (128 + a) 128 (λ e. omega arith);
  number = omega arith;
}

spells-5 : (n a b c d f : ℕ) → 0 < a → b < 128 → c < 128 → d < 128 → f < 128 → n ≡ 268435456 * a + 2097152 * b + 16384 * c + 128 * d + f → a < 128
    → Spells ((128 + a) ∷ (128 + b) ∷ (128 + c) ∷ (128 + d) ∷ f ∷ []) n
spells-5 n a b c d f some lt lt' lt'' lt''' e small = record {
  cut = cut-more (128 + a) ((128 + b) ∷ (128 + c) ∷ (128 + d) ∷ f ∷ []) (omega arith) (cut-more (128 + b) ((128 + c) ∷ (128 + d) ∷ f ∷ []) (omega arith) (cut-more (128 + c) ((128 + d) ∷ f ∷ []) (omega arith) (cut-more (128 + d) (f ∷ []) (omega arith) (cut-last f lt'''))));
  needed = ne_eqb (128 + a) 128 (λ e. omega arith);
  number = omega arith;
}

-- an arc's octets make it
pub arc-spells : (n : ℕ) → n < 34359738368 → Spells (arc_octets n) n
arc-spells n small =
    elim (cases_lt n 128) [
      | inl lt ↦ subst (λ o. Spells o n) (sym (arc-1 n lt)) (spells-1 n lt)
      | inr ge ↦ elim (cases_lt n 16384) [
        | inl lt ↦ subst (λ o. Spells o n) (sym (arc-2 n ge lt)) (spells-2 n (n / 128) (n % 128) (omega arith) (omega arith) (omega arith) (omega arith))
        | inr ge' ↦ elim (cases_lt n 2097152) [
          | inl lt ↦ subst (λ o. Spells o n) (sym (arc-3 n ge' lt)) (spells-3 n (n / 16384) (n / 128 % 128) (n % 128) (omega arith) (omega arith) (omega arith) (omega arith) (omega arith))
          | inr ge'' ↦ elim (cases_lt n 268435456) [
            | inl lt ↦ subst (λ o. Spells o n) (sym (arc-4 n ge'' lt)) (spells-4 n (n / 2097152) (n / 16384 % 128) (n / 128 % 128) (n % 128) (omega arith) (omega arith) (omega arith) (omega arith) (omega arith) (omega arith))
            | inr ge''' ↦ subst (λ o. Spells o n) (sym (arc-5 n ge''')) (spells-5 n (n / 268435456) (n / 2097152 % 128) (n / 16384 % 128) (n / 128 % 128) (n % 128) (omega arith) (omega arith) (omega arith) (omega arith) (omega arith) (omega arith) (omega arith))
          ]
        ]
      ]
    ]

-- ---- what is spelled is read

small_enough : (group : List ℕ) (n : ℕ) → n ≤ 268435583 → Spells group n → subidentifier_of group ≡ Some n
small_enough group n le s = rw (s.needed, s.number, le-ltb 268435583 n le) refl

tail : (group : List ℕ) (n : ℕ) (o : Option (List (List ℕ))) → subidentifier_of group ≡ Some n
    → option_and_then subidentifiers_of (option_map (λ groups. group ∷ groups) o) ≡ option_map (λ rest. n ∷ rest) (option_and_then subidentifiers_of o)
tail group n None e = refl
tail group n (Some groups) e = ap (option_and_then (λ first. option_map (λ rest. first ∷ rest) (subidentifiers_of groups))) e

first-read : (n : ℕ) (rest : List ℕ) → n ≤ 268435583 → subidentifiers_at (arc_octets n ++ rest) ≡ option_map (λ ns. n ∷ ns) (subidentifiers_at rest)
first-read n rest le =
    let s = arc-spells n (omega arith) in
    ap (option_and_then subidentifiers_of) (s.cut rest) ∙ tail (arc_octets n) n (groups_of rest) (small_enough (arc_octets n) n le s)

both : (a b : Bool) → (a && b) ≡ true → (a ≡ true) × (b ≡ true)
both true true e = (refl, refl)
both true false e = absurd cc
both false b e = absurd cc

arcs-read : (arcs : List ℕ) → list_all is_arc arcs ≡ true → subidentifiers_at (flat_map arc_octets arcs) ≡ Some arcs
arcs-read [] e = refl
arcs-read (arc ∷ arcs) e =
    let tests = both (is_arc arc) (list_all is_arc arcs) e in
    let small : arc ≤ 268435455 = leb-true arc 268435455 tests.0 in
    first-read arc (flat_map arc_octets arcs) (omega arith) ∙ ap (option_map (λ ns. arc ∷ ns)) (arcs-read arcs tests.1)

root-arc : (first second : ℕ) → (nat_le first 2 && (nat_eq first 2 || nat_le second 39)) ≡ true → root_arc (40 * first + second) ≡ first
root-arc first second e = grind (arith, nat_tests)

pub oid-read : (arcs : List ℕ) → IsOid arcs → option_and_then oid_with (arcs_at (oid_octets arcs)) ≡ Some arcs
oid-read [] is = absurd cc
oid-read (first ∷ []) is = absurd cc
oid-read (first ∷ second ∷ arcs) is =
    let all = first ∷ second ∷ arcs in
    let whole : is_oid all ≡ true = is in
    let outer = both (nat_le (length all) 16 && is_root all) (list_all is_arc all) whole in
    let root = both (nat_le (length all) 16) (is_root all) outer.0 in
    let small = both (is_arc first) (list_all is_arc (second ∷ arcs)) outer.1 in
    let small' = both (is_arc second) (list_all is_arc arcs) small.1 in
    let low : first ≤ 2 = leb-true first 2 (both (nat_le first 2) (nat_eq first 2 || nat_le second 39) root.1).0 in
    let high : second ≤ 268435455 = leb-true second 268435455 small'.0 in
    let n = 40 * first + second in
    let read : subidentifiers_at (oid_octets all) ≡ Some (n ∷ arcs) = first-read n (flat_map arc_octets arcs) (omega arith) ∙ ap (option_map (λ ns. n ∷ ns)) (arcs-read arcs small'.1) in
    let prefix : root_arc n ≡ first = root-arc first second root.1 in
    let back : n - 40 * first ≡ second = omega arith in
    let parts : root_arc n ∷ (n - 40 * root_arc n) ∷ arcs ≡ all = ap (λ r. r ∷ (n - 40 * r) ∷ arcs) prefix ∙ ap (λ s. first ∷ s ∷ arcs) back in
    ap (λ o. option_and_then oid_with (option_and_then arcs_of o)) read ∙ ap oid_with parts ∙ ap (λ b. cond b (Some all) None) whole

-- ---- what is read was spelled

-- octets with bit 8 set, and one with bit 8 clear
abbrev IsGroup : List ℕ → Type 0
IsGroup [] = ⊥
IsGroup (octet ∷ []) = octet < 128
IsGroup (octet ∷ other ∷ octets) = (128 ≤ octet) × (octet < 256) × IsGroup (other ∷ octets)

some_is : {A : Type 0} (x y : A) → Some x ≡ Some y → x ≡ y
some_is x y e = cc

option_map_some : {A B : Type 0} (f : A → B) (o : Option A) (y : B) → option_map f o ≡ Some y → (x : A) × (o ≡ Some x) × (f x ≡ y)
option_map_some f None y e = absurd cc
option_map_some f (Some x) y e = (x, refl, some_is (f x) y e)

abbrev AllGroups : List (List ℕ) → Type 0
AllGroups [] = Unit {0}
AllGroups (group ∷ groups) = IsGroup group × AllGroups groups

-- the octets that were cut
abbrev AreGroups : List ℕ → List (List ℕ) → Type 0
AreGroups octets groups = (concat groups ≡ octets) × AllGroups groups

octet-first : (octet : ℕ) (octets : List ℕ) → AllOctets (octet ∷ octets) → octet < 256
octet-first octet octets all = all 0 0 (omega arith)

octets-tail : (octet : ℕ) (octets : List ℕ) → AllOctets (octet ∷ octets) → AllOctets octets
octets-tail octet octets all = λ k d lt. all (suc k) d (omega arith)

led : (octet : ℕ) (octets : List ℕ) (inner groups : List (List ℕ)) → 128 ≤ octet → octet < 256 → AreGroups octets inner → led_by octet inner ≡ Some groups → AreGroups (octet ∷ octets) groups
led octet octets [] groups ge lt are e = absurd cc
led octet octets ([] ∷ inner) groups ge lt are e = absurd (are.1.0)
led octet octets ((a ∷ group) ∷ inner) groups ge lt are e =
    let same : (octet ∷ a ∷ group) ∷ inner ≡ groups = some_is ((octet ∷ a ∷ group) ∷ inner) groups e in
    subst (λ gs. (concat gs ≡ octet ∷ octets) × AllGroups gs) same (ap (λ o. octet ∷ o) are.0, ((ge, lt, are.1.0), are.1.1))

groups-are : (octets : List ℕ) (groups : List (List ℕ)) → AllOctets octets → groups_of octets ≡ Some groups → AreGroups octets groups
groups-are [] groups all e = subst (λ gs. (concat gs ≡ []) × AllGroups gs) (some_is [] groups e) (refl, tt)
groups-are (octet ∷ octets) groups all e =
    elim (cases_lt octet 128) [
      | inl lt ↦
          let m = option_map_some (λ gs. (octet ∷ []) ∷ gs) (groups_of octets) groups (sym (cond-true (nat_lt octet 128) _ _ (lt-ltb octet 128 lt)) ∙ e) in
          let rest = groups-are octets m.0 (octets-tail octet octets all) m.1 in
          subst (λ gs. (concat gs ≡ octet ∷ octets) × AllGroups gs) m.2 (ap (λ o. octet ∷ o) rest.0, (lt, rest.1))
      | inr ge ↦
          option_and_then_some (led_by octet) (groups_of octets) groups (sym (cond-false (nat_lt octet 128) _ _ (le-ltb octet 128 ge)) ∙ e) (λ inner is made. led octet octets inner groups ge (octet-first octet octets all) (groups-are octets inner (octets-tail octet octets all) is) made)
    ]

-- digits of a number
two : (a b : ℕ) → 128 ≤ a → a < 256 → b < 128 → (a ≡ 128 → ⊥) → arc_octets (128 * (128 * 0 + a % 128) + b % 128) ≡ a ∷ b ∷ []
two a b ge lt small needed =
    let n = 128 * (128 * 0 + a % 128) + b % 128 in
    let some : 0 < a % 128 = omega arith in
    let high : 128 + n / 128 ≡ a = omega arith in
    let low : n % 128 ≡ b = omega arith in
    arc-2 n (omega arith) (omega arith) ∙ ap (λ x. x ∷ n % 128 ∷ []) high ∙ ap (λ x. a ∷ x ∷ []) low

three : (a b c : ℕ) → 128 ≤ a → a < 256 → 128 ≤ b → b < 256 → c < 128 → (a ≡ 128 → ⊥) → arc_octets (128 * (128 * (128 * 0 + a % 128) + b % 128) + c % 128) ≡ a ∷ b ∷ c ∷ []
three a b c ge lt ge' lt' small needed =
    let n = 128 * (128 * (128 * 0 + a % 128) + b % 128) + c % 128 in
    let some : 0 < a % 128 = omega arith in
    let first : 128 + n / 16384 ≡ a = omega arith in
    let second : 128 + n / 128 % 128 ≡ b = omega arith in
    let third : n % 128 ≡ c = omega arith in
    arc-3 n (omega arith) (omega arith) ∙ ap (λ x. x ∷ (128 + n / 128 % 128) ∷ n % 128 ∷ []) first ∙ ap (λ x. a ∷ x ∷ n % 128 ∷ []) second ∙ ap (λ x. a ∷ b ∷ x ∷ []) third

four : (a b c d : ℕ) → 128 ≤ a → a < 256 → 128 ≤ b → b < 256 → 128 ≤ c → c < 256 → d < 128 → (a ≡ 128 → ⊥)
    → arc_octets (128 * (128 * (128 * (128 * 0 + a % 128) + b % 128) + c % 128) + d % 128) ≡ a ∷ b ∷ c ∷ d ∷ []
four a b c d ge lt ge' lt' ge'' lt'' small needed =
    let n = 128 * (128 * (128 * (128 * 0 + a % 128) + b % 128) + c % 128) + d % 128 in
    let some : 0 < a % 128 = omega arith in
    let first : 128 + n / 2097152 ≡ a = omega arith in
    let second : 128 + n / 16384 % 128 ≡ b = omega arith in
    let third : 128 + n / 128 % 128 ≡ c = omega arith in
    let fourth : n % 128 ≡ d = omega arith in
    arc-4 n (omega arith) (omega arith) ∙ ap (λ x. x ∷ (128 + n / 16384 % 128) ∷ (128 + n / 128 % 128) ∷ n % 128 ∷ []) first
    ∙ ap (λ x. a ∷ x ∷ (128 + n / 128 % 128) ∷ n % 128 ∷ []) second ∙ ap (λ x. a ∷ b ∷ x ∷ n % 128 ∷ []) third ∙ ap (λ x. a ∷ b ∷ c ∷ x ∷ []) fourth

five : (a b c d f : ℕ) → 128 ≤ a → a < 256 → 128 ≤ b → b < 256 → 128 ≤ c → c < 256 → 128 ≤ d → d < 256 → f < 128 → (a ≡ 128 → ⊥)
    → arc_octets (128 * (128 * (128 * (128 * (128 * 0 + a % 128) + b % 128) + c % 128) + d % 128) + f % 128) ≡ a ∷ b ∷ c ∷ d ∷ f ∷ []
five a b c d f ge lt ge2 lt2 ge3 lt3 ge4 lt4 small needed =
    let n = 128 * (128 * (128 * (128 * (128 * 0 + a % 128) + b % 128) + c % 128) + d % 128) + f % 128 in
    let some : 0 < a % 128 = omega arith in
    let first : 128 + n / 268435456 ≡ a = omega arith in
    let second : 128 + n / 2097152 % 128 ≡ b = omega arith in
    let third : 128 + n / 16384 % 128 ≡ c = omega arith in
    let fourth : 128 + n / 128 % 128 ≡ d = omega arith in
    let fifth : n % 128 ≡ f = omega arith in
    arc-5 n (omega arith) ∙ ap (λ x. x ∷ (128 + n / 2097152 % 128) ∷ (128 + n / 16384 % 128) ∷ (128 + n / 128 % 128) ∷ n % 128 ∷ []) first
    ∙ ap (λ x. a ∷ x ∷ (128 + n / 16384 % 128) ∷ (128 + n / 128 % 128) ∷ n % 128 ∷ []) second ∙ ap (λ x. a ∷ b ∷ x ∷ (128 + n / 128 % 128) ∷ n % 128 ∷ []) third
    ∙ ap (λ x. a ∷ b ∷ c ∷ x ∷ n % 128 ∷ []) fourth ∙ ap (λ x. a ∷ b ∷ c ∷ d ∷ x ∷ []) fifth

-- a group of six octets or more makes too large a number
long_group : (a b c d f g : ℕ) (octets : List ℕ) → 128 ≤ a → a < 256 → (a ≡ 128 → ⊥) → 268435583 < septets 0 (a ∷ b ∷ c ∷ d ∷ f ∷ g ∷ octets)
long_group a b c d f g octets ge lt needed =
    let some : 0 < a % 128 = omega arith in
    omega (arith, septets-le (128 * (128 * (128 * (128 * (128 * (128 * 0 + a % 128) + b % 128) + c % 128) + d % 128) + f % 128) + g % 128) octets)

tests_off : (a b : Bool) → (a || b) ≡ false → (a ≡ false) × (b ≡ false)
tests_off false false e = (refl, refl)
tests_off false true e = absurd cc
tests_off true b e = absurd cc

guarded : {A : Type 0} (t : Bool) (x y : A) → cond t None (Some x) ≡ Some y → (t ≡ false) × (x ≡ y)
guarded true x y e = absurd cc
guarded false x y e = (refl, cc)

group-needed : (a : ℕ) (octets : List ℕ) (n : ℕ) → subidentifier_of (a ∷ octets) ≡ Some n → (a ≡ 128 → ⊥) × (septets 0 (a ∷ octets) ≤ 268435583) × (septets 0 (a ∷ octets) ≡ n)
group-needed a octets n e =
    let g = guarded (is_padded (a ∷ octets) || nat_lt 268435583 (septets 0 (a ∷ octets))) (septets 0 (a ∷ octets)) n e in
    let off = tests_off (is_padded (a ∷ octets)) (nat_lt 268435583 (septets 0 (a ∷ octets))) g.0 in
    (eqb-false a 128 off.0, ltb-false 268435583 (septets 0 (a ∷ octets)) off.1, g.1)

spelled_as : (group : List ℕ) (n : ℕ) → septets 0 group ≡ n → arc_octets (septets 0 group) ≡ group → arc_octets n ≡ group
spelled_as group n e same = ap arc_octets (sym e) ∙ same

group-spelled : (group : List ℕ) (n : ℕ) → IsGroup group → subidentifier_of group ≡ Some n → arc_octets n ≡ group
group-spelled [] n is e = absurd is
group-spelled (a ∷ []) n is e =
    let r = group-needed a [] n e in
    let same : n ≡ a = omega (arith, is, r.2) in
    arc-1 n (omega (arith, is, same)) ∙ ap (λ x. x ∷ []) same
group-spelled (a ∷ b ∷ []) n is e =
    let r = group-needed a (b ∷ []) n e in
    spelled_as (a ∷ b ∷ []) n r.2 (two a b is.0 is.1 is.2 r.0)
group-spelled (a ∷ b ∷ c ∷ []) n is e =
    let r = group-needed a (b ∷ c ∷ []) n e in
    spelled_as (a ∷ b ∷ c ∷ []) n r.2 (three a b c is.0 is.1 is.2.0 is.2.1 is.2.2 r.0)
group-spelled (a ∷ b ∷ c ∷ d ∷ []) n is e =
    let r = group-needed a (b ∷ c ∷ d ∷ []) n e in
    spelled_as (a ∷ b ∷ c ∷ d ∷ []) n r.2 (four a b c d is.0 is.1 is.2.0 is.2.1 is.2.2.0 is.2.2.1 is.2.2.2 r.0)
group-spelled (a ∷ b ∷ c ∷ d ∷ f ∷ []) n is e =
    let r = group-needed a (b ∷ c ∷ d ∷ f ∷ []) n e in
    spelled_as (a ∷ b ∷ c ∷ d ∷ f ∷ []) n r.2 (five a b c d f is.0 is.1 is.2.0 is.2.1 is.2.2.0 is.2.2.1 is.2.2.2.0 is.2.2.2.1 is.2.2.2.2 r.0)
group-spelled (a ∷ b ∷ c ∷ d ∷ f ∷ g ∷ octets) n is e =
    let r = group-needed a (b ∷ c ∷ d ∷ f ∷ g ∷ octets) n e in
    absurd (omega (arith, r.1, long_group a b c d f g octets is.0 is.1 r.0))

numbers-spelled : (groups : List (List ℕ)) (ns : List ℕ) → AllGroups groups → subidentifiers_of groups ≡ Some ns → flat_map arc_octets ns ≡ concat groups
numbers-spelled [] ns are e = ap (flat_map arc_octets) (sym (some_is [] ns e))
numbers-spelled (group ∷ groups) ns are e =
    option_and_then_some (λ first. option_map (λ rest. first ∷ rest) (subidentifiers_of groups)) (subidentifier_of group) ns e (λ n is made.
    let m = option_map_some (λ rest. n ∷ rest) (subidentifiers_of groups) ns made in
    ap (flat_map arc_octets) (sym m.2) ∙ ap (λ o. o ++ flat_map arc_octets m.0) (group-spelled group n are.0 is) ∙ ap (λ o. group ++ o) (numbers-spelled groups m.0 are.1 m.1))

root-le : (n : ℕ) → 40 * root_arc n ≤ n
root-le n = grind (arith, nat_tests)

arcs-spelled : (ns arcs : List ℕ) → arcs_of ns ≡ Some arcs → oid_octets arcs ≡ flat_map arc_octets ns
arcs-spelled [] arcs e = absurd cc
arcs-spelled (first ∷ ns) arcs e =
    let le = root-le first in
    let sum : 40 * root_arc first + (first - 40 * root_arc first) ≡ first = omega (arith, le) in
    ap oid_octets (sym (some_is (root_arc first ∷ (first - 40 * root_arc first) ∷ ns) arcs e)) ∙ ap (λ n. arc_octets n ++ flat_map arc_octets ns) sum

guarded_by : {A : Type 0} (t : Bool) (x y : A) → cond t (Some x) None ≡ Some y → (t ≡ true) × (x ≡ y)
guarded_by true x y e = (refl, cc)
guarded_by false x y e = absurd cc

pub oid-spelled : (octets arcs : List ℕ) → AllOctets octets → option_and_then oid_with (arcs_at octets) ≡ Some arcs → IsOid arcs × (octets ≡ oid_octets arcs)
oid-spelled octets arcs all e =
    option_and_then_some oid_with (arcs_at octets) arcs e (λ found arcs_are kept.
    option_and_then_some arcs_of (subidentifiers_at octets) found arcs_are (λ ns ns_are arcs_is.
    option_and_then_some subidentifiers_of (groups_of octets) ns ns_are (λ groups groups_are made.
    let g = guarded_by (is_oid found) found arcs kept in
    let are = groups-are octets groups all groups_are in
    let spelled : octets ≡ oid_octets found = sym are.0 ∙ sym (numbers-spelled groups ns are.1 made) ∙ sym (arcs-spelled ns found arcs_is) in
    (ap is_oid (sym g.1) ∙ g.0, spelled ∙ ap oid_octets g.1))))
