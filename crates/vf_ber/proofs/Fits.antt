-- Depth and room, by limits: what follows from what.
use Rattle.std.proofs.Common.{◌≡◌, ◌≢◌, ℕ, ◌+◌, ◌-◌, ◌<◌, ◌≤◌, Bool, true, false, refl, arith, nat_eq, inl, inr, ◌⊎◌}
use Rattle.std.specs.Prelude.{not, ◌||◌, ◌&&◌, nat_le, Option, Some, None}
use Rattle.std.proofs.lemmas.Bool.{and_parts, and_from, or_cases, or_left, or_right, cases_eq, lt-ltb, le-leb, eq-eqb, ltb-true, leb-true, eqb-true, eqb-false, not-true, ne_eqb, not_from_false}
use Rattle.vf_ber.specs.declared.room.Room.{Room}
use Rattle.vf_ber.specs.declared.room.Room.TheVariants.{Exact, Within}
use Rattle.vf_ber.specs.Reading.{Limits, free, shallow, bounded}
use Rattle.vf_ber.specs.Steps.{fits, is_roomy, less, has_depth, IsShallow, size_fits}

-- ---- depth

pub depth_some : (l : Limits) (most n : ℕ) → IsShallow l most n → 0 < n → has_depth l most ≡ true
depth_some free most n h some = refl
depth_some shallow most n h some = lt-ltb 0 most (omega arith)
depth_some bounded most n h some = lt-ltb 0 most (omega arith)

pub depth_lift : (l : Limits) (most : ℕ) → has_depth bounded most ≡ true → has_depth l most ≡ true
depth_lift free most h = refl
depth_lift shallow most h = h
depth_lift bounded most h = h

pub depth_from : (l : Limits) (most : ℕ) → 0 < most → has_depth l most ≡ true
depth_from free most h = refl
depth_from shallow most h = lt-ltb 0 most h
depth_from bounded most h = lt-ltb 0 most h

pub shallow_lift : (l : Limits) (most n : ℕ) → IsShallow bounded most n → IsShallow l most n
shallow_lift free most n h = tt
shallow_lift shallow most n h = h
shallow_lift bounded most n h = h

pub shallow_le : (l : Limits) (most m n : ℕ) → m ≤ n → IsShallow l most n → IsShallow l most m
shallow_le free most m n le h = tt
shallow_le shallow most m n le h = omega arith
shallow_le bounded most m n le h = omega arith

pub shallow_zero : (l : Limits) (most : ℕ) → IsShallow l most 0
shallow_zero free most = tt
shallow_zero shallow most = omega arith
shallow_zero bounded most = omega arith

pub shallow_one : (l : Limits) (most : ℕ) → has_depth l most ≡ true → IsShallow l most 1
shallow_one free most h = tt
shallow_one shallow most h = omega (arith, ltb-true 0 most h)
shallow_one bounded most h = omega (arith, ltb-true 0 most h)

pub shallow_around : (l : Limits) (most n : ℕ) → has_depth l most ≡ true → IsShallow l (most - 1) n → IsShallow l most (n + 1)
shallow_around free most n d h = tt
shallow_around shallow most n d h = omega (arith, ltb-true 0 most d)
shallow_around bounded most n d h = omega (arith, ltb-true 0 most d)

pub shallow_inside : (l : Limits) (most n : ℕ) → IsShallow l most (n + 1) → IsShallow l (most - 1) n
shallow_inside free most n h = tt
shallow_inside shallow most n h = omega arith
shallow_inside bounded most n h = omega arith

pub shallow_both : (l : Limits) (most m n k : ℕ) → IsShallow l most m → IsShallow l most n → (k ≤ m) ⊎ (k ≤ n) → IsShallow l most k
shallow_both l most m n k a b (inl le) = shallow_le l most k m le a
shallow_both l most m n k a b (inr le) = shallow_le l most k n le b

-- ---- room

pub fits_lift : (l : Limits) (room : Room) (n : ℕ) → fits bounded room n ≡ true → fits l room n ≡ true
fits_lift l (Exact r) n h = h
fits_lift free (Within r) n h = refl
fits_lift shallow (Within r) n h = refl
fits_lift bounded (Within r) n h = h

pub roomy_lift : (l : Limits) (room : Room) (n : ℕ) → is_roomy bounded room n ≡ true → is_roomy l room n ≡ true
roomy_lift l (Exact r) n h = h
roomy_lift free (Within r) n h = refl
roomy_lift shallow (Within r) n h = refl
roomy_lift bounded (Within r) n h = h

pub exact_cases : (n r : ℕ) → (nat_eq n r || nat_le (n + 2) r) ≡ true → (n ≡ r) ⊎ (n + 2 ≤ r)
exact_cases n r h = elim (or_cases (nat_eq n r) (nat_le (n + 2) r) h) [ inl e ↦ inl (eqb-true n r e) | inr le ↦ inr (leb-true (n + 2) r le) ]

pub exact_from : (n r : ℕ) → (n ≡ r) ⊎ (n + 2 ≤ r) → (nat_eq n r || nat_le (n + 2) r) ≡ true
exact_from n r (inl e) = or_left (nat_eq n r) (nat_le (n + 2) r) (eq-eqb n r e)
exact_from n r (inr le) = or_right (nat_eq n r) (nat_le (n + 2) r) (le-leb (n + 2) r le)

pub fits_roomy : (l : Limits) (room : Room) (n m : ℕ) → m ≤ n → fits l room n ≡ true → is_roomy l room m ≡ true
fits_roomy l (Exact r) n m le h = elim (exact_cases n r h) [ inl e ↦ le-leb m r (omega arith) | inr f ↦ le-leb m r (omega arith) ]
fits_roomy free (Within r) n m le h = refl
fits_roomy shallow (Within r) n m le h = refl
fits_roomy bounded (Within r) n m le h = le-leb m r (omega (arith, leb-true n r h))

pub roomy_le : (l : Limits) (room : Room) (n m : ℕ) → m ≤ n → is_roomy l room n ≡ true → is_roomy l room m ≡ true
roomy_le l (Exact r) n m le h = le-leb m r (omega (arith, leb-true n r h))
roomy_le free (Within r) n m le h = refl
roomy_le shallow (Within r) n m le h = refl
roomy_le bounded (Within r) n m le h = le-leb m r (omega (arith, leb-true n r h))

-- a value of a minimal length fills the room, or one of an octet more
pub roomy_fits : (l : Limits) (room : Room) (n : ℕ) → is_roomy l room n ≡ true → (fits l room n ≡ true) ⊎ (fits l room (n + 1) ≡ true)
roomy_fits l (Exact r) n h =
    let le = leb-true n r h in
    elim (cases_eq (n + 1) r) [
      | inl e ↦ inr (exact_from (n + 1) r (inl e))
      | inr ne ↦ inl (exact_from n r (elim (cases_eq n r) [ inl e ↦ inl e | inr other ↦ inr (omega arith) ]))
    ]
roomy_fits free (Within r) n h = inl refl
roomy_fits shallow (Within r) n h = inl refl
roomy_fits bounded (Within r) n h = inl h

pub fits_less : (l : Limits) (room : Room) (k n m : ℕ) → k ≤ m → is_roomy l room m ≡ true → fits l (less room k) n ≡ true → fits l room (k + n) ≡ true
fits_less l (Exact r) k n m le h f =
    let there = leb-true m r h in
    exact_from (k + n) r (elim (exact_cases n (r - k) f) [ inl e ↦ inl (omega arith) | inr g ↦ inr (omega arith) ])
fits_less free (Within r) k n m le h f = refl
fits_less shallow (Within r) k n m le h f = refl
fits_less bounded (Within r) k n m le h f = le-leb (k + n) r (omega (arith, leb-true m r h, leb-true n (r - k) f))

pub less_fits : (l : Limits) (room : Room) (k n : ℕ) → fits l room (k + n) ≡ true → fits l (less room k) n ≡ true
less_fits l (Exact r) k n f = exact_from n (r - k) (elim (exact_cases (k + n) r f) [ inl e ↦ inl (omega arith) | inr g ↦ inr (omega arith) ])
less_fits free (Within r) k n f = refl
less_fits shallow (Within r) k n f = refl
less_fits bounded (Within r) k n f = le-leb n (r - k) (omega (arith, leb-true (k + n) r f))

-- what fits without its contents, which are not one octet
pub fits_without : (l : Limits) (room : Room) (prefix n : ℕ) → n ≢ 1 → fits l room (prefix + n) ≡ true → fits l room prefix ≡ true
fits_without l (Exact r) prefix n some f =
    exact_from prefix r (elim (exact_cases (prefix + n) r f) [
      | inl e ↦ elim (cases_eq n 0) [ inl none ↦ inl (omega arith) | inr more ↦ inr (omega arith) ]
      | inr g ↦ inr (omega arith)
    ])
fits_without free (Within r) prefix n some f = refl
fits_without shallow (Within r) prefix n some f = refl
fits_without bounded (Within r) prefix n some f = le-leb prefix r (omega (arith, leb-true (prefix + n) r f))

-- a value before the rest of an exact room
pub exact_prefix : (l : Limits) (n m : ℕ) → m ≢ 1 → fits l (Exact (n + m)) n ≡ true
exact_prefix l n m some = exact_from n (n + m) (elim (cases_eq m 0) [ inl none ↦ inl (omega arith) | inr more ↦ inr (omega arith) ])

pub exact_rest : (l : Limits) (n r : ℕ) → fits l (Exact r) n ≡ true → (n ≤ r) × (r - n ≢ 1)
exact_rest l n r f = elim (exact_cases n r f) [ inl e ↦ (omega arith, λ h. omega arith) | inr g ↦ (omega arith, λ h. omega arith) ]

-- a value, and the end of contents after it
pub end_tail : (l : Limits) (room : Room) (n : ℕ) → 0 < n → fits l (less room 2) n ≡ true → fits l (less room n) 2 ≡ true
end_tail l (Exact r) n some f =
    exact_from 2 (r - n) (elim (exact_cases n (r - 2) f) [ inl e ↦ inl (omega arith) | inr g ↦ inr (omega arith) ])
end_tail free (Within r) n some f = refl
end_tail shallow (Within r) n some f = refl
end_tail bounded (Within r) n some f = le-leb 2 (r - n) (omega (arith, leb-true n (r - 2) f))

pub tail_end : (l : Limits) (room : Room) (n m : ℕ) → 0 < n → fits l (less room 2) n ≡ true → fits l (less room n) m ≡ true → fits l room (n + m) ≡ true
tail_end l (Exact r) n m some f g =
    let there : n ≤ r = elim (exact_cases n (r - 2) f) [ inl e ↦ omega arith | inr h ↦ omega arith ] in
    exact_from (n + m) r (elim (exact_cases m (r - n) g) [ inl e ↦ inl (omega arith) | inr h ↦ inr (omega arith) ])
tail_end free (Within r) n m some f g = refl
tail_end shallow (Within r) n m some f g = refl
tail_end bounded (Within r) n m some f g = le-leb (n + m) r (omega (arith, leb-true n (r - 2) f, leb-true m (r - n) g))

-- a value before others and the end of contents
pub prefix_of_end : (l : Limits) (room : Room) (n m : ℕ) → m ≢ 1 → fits l room (n + (m + 2)) ≡ true → fits l (less room 2) n ≡ true
prefix_of_end l (Exact r) n m some f =
    exact_from n (r - 2) (elim (exact_cases (n + (m + 2)) r f) [
      | inl e ↦ elim (cases_eq m 0) [ inl none ↦ inl (omega arith) | inr more ↦ inr (omega arith) ]
      | inr g ↦ inr (omega arith)
    ])
prefix_of_end free (Within r) n m some f = refl
prefix_of_end shallow (Within r) n m some f = refl
prefix_of_end bounded (Within r) n m some f = le-leb n (r - 2) (omega (arith, leb-true (n + (m + 2)) r f))

-- ---- sizes

pub size_lift : (l : Limits) (most : ℕ) (room : Room) (prefix : ℕ) (constructed : Bool) (size : Option ℕ)
    → size_fits bounded most room prefix constructed size ≡ true → size_fits l most room prefix constructed size ≡ true
size_lift l most room prefix false (Some n) h =
    let both = and_parts (fits bounded room (prefix + n)) true h in and_from (fits l room (prefix + n)) true (fits_lift l room (prefix + n) both.0) refl
size_lift l most room prefix true (Some n) h =
    let inner = λ (k : Limits). not (nat_eq n 1) && (nat_eq n 0 || has_depth k (most - 1)) in
    let both = and_parts (fits bounded room (prefix + n)) (inner bounded) h in
    let two = and_parts (not (nat_eq n 1)) (nat_eq n 0 || has_depth bounded (most - 1)) both.1 in
    let deep : (nat_eq n 0 || has_depth l (most - 1)) ≡ true =
    elim (or_cases (nat_eq n 0) (has_depth bounded (most - 1)) two.1) [
      | inl z ↦ or_left (nat_eq n 0) (has_depth l (most - 1)) z
      | inr d ↦ or_right (nat_eq n 0) (has_depth l (most - 1)) (depth_lift l (most - 1) d)
    ] in
    and_from (fits l room (prefix + n)) (inner l) (fits_lift l room (prefix + n) both.0) (and_from (not (nat_eq n 1)) (nat_eq n 0 || has_depth l (most - 1)) two.0 deep)
size_lift l most room prefix false None h = absurd cc
size_lift l most room prefix true None h = fits_lift l room (prefix + 2) h

pub size_room : (l : Limits) (most : ℕ) (room : Room) (prefix : ℕ) (constructed : Bool) (n : ℕ) → size_fits l most room prefix constructed (Some n) ≡ true → fits l room (prefix + n) ≡ true
size_room l most room prefix constructed n h = (and_parts (fits l room (prefix + n)) (not constructed || (not (nat_eq n 1) && (nat_eq n 0 || has_depth l (most - 1)))) h).0

pub size_parts : (l : Limits) (most : ℕ) (room : Room) (prefix n : ℕ) → size_fits l most room prefix true (Some n) ≡ true → (n ≢ 1) × ((n ≡ 0) ⊎ (has_depth l (most - 1) ≡ true))
size_parts l most room prefix n h =
    let both = and_parts (fits l room (prefix + n)) (not (nat_eq n 1) && (nat_eq n 0 || has_depth l (most - 1))) h in
    let two = and_parts (not (nat_eq n 1)) (nat_eq n 0 || has_depth l (most - 1)) both.1 in (
      eqb-false n 1 (not-true (nat_eq n 1) two.0),
      elim (or_cases (nat_eq n 0) (has_depth l (most - 1)) two.1) [ inl z ↦ inl (eqb-true n 0 z) | inr d ↦ inr d ],
    )

pub size_from : (l : Limits) (most : ℕ) (room : Room) (prefix n : ℕ) → fits l room (prefix + n) ≡ true → n ≢ 1 → (n ≡ 0) ⊎ (has_depth l (most - 1) ≡ true)
    → size_fits l most room prefix true (Some n) ≡ true
size_from l most room prefix n f some deep =
    and_from (fits l room (prefix + n)) (not (nat_eq n 1) && (nat_eq n 0 || has_depth l (most - 1))) f
    (and_from (not (nat_eq n 1)) (nat_eq n 0 || has_depth l (most - 1)) (not_from_false (nat_eq n 1) (ne_eqb n 1 some))
    (elim deep [ inl z ↦ or_left (nat_eq n 0) (has_depth l (most - 1)) (eq-eqb n 0 z) | inr d ↦ or_right (nat_eq n 0) (has_depth l (most - 1)) d ]))

pub size_plain : (l : Limits) (most : ℕ) (room : Room) (prefix n : ℕ) → fits l room (prefix + n) ≡ true → size_fits l most room prefix false (Some n) ≡ true
size_plain l most room prefix n f = and_from (fits l room (prefix + n)) true f refl

-- no contents
pub size_none : (l : Limits) (most : ℕ) (room : Room) (prefix : ℕ) (constructed : Bool) → fits l room (prefix + 0) ≡ true → size_fits l most room prefix constructed (Some 0) ≡ true
size_none l most room prefix false f = size_plain l most room prefix 0 f
size_none l most room prefix true f = size_from l most room prefix 0 f (λ e. absurd cc) (inl refl)
