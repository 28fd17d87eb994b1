-- Which octets a length may have, as the tests on them tell.
use Rattle.std.proofs.Common.{◌≡◌, ◌≢◌, ℕ, zero, suc, ◌+◌, ◌-◌, ◌*◌, ◌%◌, ◌<◌, ◌≤◌, Bool, true, false, List, [], ◌∷◌, ◌++◌, length, refl, ap, sym, subst, ◌∙◌, arith, nat_eq, nat_lt, inl, inr, ◌⊎◌, eq-eqb}
use Rattle.std.specs.Prelude.{◌&&◌, nat_le, Option, Some, None}
use Rattle.std.proofs.lemmas.Bool.{cases_lt, cases_eq, cond-true, cond-false, lt-ltb, le-ltb, le-leb, leb-true, eqb-true, ne_eqb, and_parts, and_from, or_cases, or_left, or_right, both_ways}
use Rattle.vf_ber.specs.declared.fault.Fault.{Fault}
use Rattle.vf_ber.specs.declared.fault.Fault.TheVariants as faults
use Rattle.vf_ber.specs.declared.room.Room.{Room}
use Rattle.vf_ber.specs.declared.room.Room.TheVariants.{Exact, Within}
use Rattle.vf_ber.specs.Spellings.{number_in}
use Rattle.vf_ber.specs.Reading.{Limits, free, shallow, bounded}
use Rattle.vf_ber.specs.Steps.{Language, Sizes, Digits, Open, Ruled, Got, Failed, fits, is_roomy, size_fits, grown, shifted, fills, reaches, length_fits}
use Rattle.vf_ber.proofs.Chains.{Chain, Carries, Anything, Tells, tail_got, tail_failed, carried_failed}
use Rattle.vf_ber.proofs.Digits.{digits, length-digits, octets-digits, number-digits, shifted_number, shifted_grown, grown_least, grown_whole}
use Rattle.vf_ber.proofs.Fits.{exact_cases, exact_from, roomy_fits, size_lift, size_room, size_parts, size_from, size_plain, size_none}

-- ---- lengths that begin with some octets

fits_below : (l : Limits) (room : Room) (prefix least n : ℕ) → least ≤ n → fits l room (prefix + n) ≡ true → (fits l room (prefix + least) ≡ true) ⊎ ((most : ℕ) × (room ≡ Exact most) × (prefix + n ≡ most))
fits_below l (Exact r) prefix least n le f = elim (exact_cases (prefix + n) r f) [ inl e ↦ inr (r, refl, e) | inr g ↦ inl (exact_from (prefix + least) r (inr (omega arith))) ]
fits_below free (Within r) prefix least n le f = inl refl
fits_below shallow (Within r) prefix least n le f = inl refl
fits_below bounded (Within r) prefix least n le f = inl (le-leb (prefix + least) r (omega (arith, leb-true (prefix + n) r f)))

size_below : (l : Limits) (most : ℕ) (room : Room) (prefix : ℕ) (constructed : Bool) (least n : ℕ) → least ≤ n → (least ≡ n) ⊎ (least ≢ 1) → fits l room (prefix + least) ≡ true
    → size_fits l most room prefix constructed (Some n) ≡ true → size_fits l most room prefix constructed (Some least) ≡ true
size_below l most room prefix constructed least n le (inl same) f h = subst (λ (k : ℕ). size_fits l most room prefix constructed (Some k) ≡ true) (sym same) h
size_below l most room prefix false least n le (inr some) f h = size_plain l most room prefix least f
size_below l most room prefix true least n le (inr some) f h =
    let p = size_parts l most room prefix n h in
    size_from l most room prefix least f some (elim p.1 [ inl z ↦ inl (omega arith) | inr d ↦ inr d ])

pub reach_some : (l : Limits) (most : ℕ) (room : Room) (prefix : ℕ) (constructed : Bool) (others high : ℕ) → reaches l most room prefix constructed others high ≡ true
    → (n : ℕ) × (shifted others n ≡ high) × (size_fits l most room prefix constructed (Some n) ≡ true)
reach_some l most (Exact r) prefix constructed others high h =
    let least = size_fits l most (Exact r) prefix constructed (Some (grown others high)) in
    let last = size_fits l most (Exact r) prefix constructed (Some (r - prefix)) in
    elim (or_cases least (nat_le prefix r && nat_eq (shifted others (r - prefix)) high && last) h) [
      | inl a ↦ (grown others high, shifted_grown others high, a)
      | inr a ↦
          let p = and_parts (nat_le prefix r && nat_eq (shifted others (r - prefix)) high) last a in
          let q = and_parts (nat_le prefix r) (nat_eq (shifted others (r - prefix)) high) p.0 in
          (r - prefix, eqb-true (shifted others (r - prefix)) high q.1, p.1)
    ]
reach_some l most (Within r) prefix constructed others high h =
    elim (or_cases (size_fits l most (Within r) prefix constructed (Some (grown others high))) false h) [
      | inl a ↦ (grown others high, shifted_grown others high, a)
      | inr a ↦ absurd cc
    ]

fills_from : (l : Limits) (most r prefix : ℕ) (constructed : Bool) (others high n : ℕ) → prefix + n ≡ r → shifted others n ≡ high → size_fits l most (Exact r) prefix constructed (Some n) ≡ true
    → fills l most (Exact r) prefix constructed others high ≡ true
fills_from l most r prefix constructed others high n e s h =
    let left : n ≡ r - prefix = omega arith in
    let last = size_fits l most (Exact r) prefix constructed (Some (r - prefix)) in
    and_from (nat_le prefix r && nat_eq (shifted others (r - prefix)) high) last
    (and_from (nat_le prefix r) (nat_eq (shifted others (r - prefix)) high) (le-leb prefix r (omega arith)) (eq-eqb (shifted others (r - prefix)) high (ap (shifted others) (sym left) ∙ s)))
    (subst (λ (k : ℕ). size_fits l most (Exact r) prefix constructed (Some k) ≡ true) left h)

pub reach_from : (l : Limits) (most : ℕ) (room : Room) (prefix : ℕ) (constructed : Bool) (others high n : ℕ) → shifted others n ≡ high
    → size_fits l most room prefix constructed (Some n) ≡ true → reaches l most room prefix constructed others high ≡ true
reach_from l most room prefix constructed others high n s h =
    let least = size_fits l most room prefix constructed (Some (grown others high)) in
    let last = fills l most room prefix constructed others high in
    let le : grown others high ≤ n = subst (λ (k : ℕ). grown others k ≤ n) s (grown_least others n) in
    elim (fits_below l room prefix (grown others high) n le (size_room l most room prefix constructed n h)) [
      | inl f ↦ or_left least last (size_below l most room prefix constructed (grown others high) n le (whole others s) f h)
      | inr f ↦ or_right least last
          (subst (λ (k : Room). fills l most k prefix constructed others high ≡ true) (sym f.1)
          (fills_from l most f.0 prefix constructed others high n f.2 s (subst (λ (k : Room). size_fits l most k prefix constructed (Some n) ≡ true) f.1 h)))
    ]
  where
    whole : (k : ℕ) → shifted k n ≡ high → (grown k high ≡ n) ⊎ (grown k high ≢ 1)
    whole zero e = inl (sym e)
    whole (suc k) e = inr (grown_whole (suc k) high (omega arith))

reaches_lift : (l : Limits) (most : ℕ) (room : Room) (prefix : ℕ) (constructed : Bool) (others high : ℕ) → reaches bounded most room prefix constructed others high ≡ true
    → reaches l most room prefix constructed others high ≡ true
reaches_lift l most room prefix constructed others high h =
    let s = reach_some bounded most room prefix constructed others high h in
    reach_from l most room prefix constructed others high s.0 s.1 (size_lift l most room prefix constructed (Some s.0) s.2)

-- ---- the octets of a long form

abbrev pub OneDigit : ℕ → Room → ℕ → Bool → ℕ → ℕ → Language ℕ
OneDigit most room prefix constructed others high l octets digit =
    (octets ≡ digit ∷ []) × (digit < 256) × (reaches l most room prefix constructed others (256 * high + digit) ≡ true)

digits_word : (l : Limits) (most : ℕ) (room : Room) (prefix : ℕ) (constructed : Bool) (others high : ℕ) → reaches l most room prefix constructed others high ≡ true
    → (n : ℕ) × Digits most room prefix constructed others high l (digits others n) n
digits_word l most room prefix constructed others high h =
    let s = reach_some l most room prefix constructed others high h in
    (s.0, (length-digits others s.0, octets-digits others s.0, ap (λ k. number_in k (digits others s.0)) (sym s.1) ∙ number-digits others s.0, s.2))

digits_reach : (l : Limits) (most : ℕ) (room : Room) (prefix : ℕ) (constructed : Bool) (others high n : ℕ) (octets : List ℕ) → Digits most room prefix constructed others high l octets n
    → reaches l most room prefix constructed others high ≡ true
digits_reach l most room prefix constructed others high n octets (len, each, number, h) =
    reach_from l most room prefix constructed others high n
    (ap (λ k. shifted k n) (sym len) ∙ ap (shifted (length octets)) (sym number) ∙ shifted_number octets high each) h

pub digit_chain : (most : ℕ) (room : Room) (prefix : ℕ) (constructed : Bool) (others high : ℕ) → 0 < others
    → Chain (OneDigit most room prefix constructed (others - 1) high) (λ digit a. Digits most room prefix constructed (others - 1) (256 * high + digit)) (Digits most room prefix constructed others high) (λ digit n. n)
digit_chain most room prefix constructed others high some = record { unique = unique; lift = lift; nonempty = nonempty; join = join; split = split }
  where
    unique : (l k : Limits) (a b r s : List ℕ) (x y : ℕ) → OneDigit most room prefix constructed (others - 1) high l a x → OneDigit most room prefix constructed (others - 1) high k b y
        → a ++ r ≡ b ++ s → (a ≡ b) × (x ≡ y)
    unique l k a b r s x y (is, small, f) (other_is, other_small, g) e =
        let same : x ∷ r ≡ y ∷ s = ap (λ o. o ++ r) (sym is) ∙ e ∙ ap (λ o. o ++ s) other_is in
        let digit : x ≡ y = cc in
        (is ∙ ap (λ d. d ∷ []) digit ∙ sym other_is, digit)

    lift : (l : Limits) (a : List ℕ) (x : ℕ) → OneDigit most room prefix constructed (others - 1) high bounded a x → OneDigit most room prefix constructed (others - 1) high l a x
    lift l a x (is, small, h) = (is, small, reaches_lift l most room prefix constructed (others - 1) (256 * high + x) h)

    nonempty : (l : Limits) (a : List ℕ) (x : ℕ) → OneDigit most room prefix constructed (others - 1) high l a x → Open (Digits most room prefix constructed (others - 1) (256 * high + x)) l []
    nonempty l a x (is, small, h) = let w = digits_word l most room prefix constructed (others - 1) (256 * high + x) h in (digits (others - 1) w.0, w.0, w.1)

    join : (l : Limits) (a b : List ℕ) (x n : ℕ) → OneDigit most room prefix constructed (others - 1) high l a x → Digits most room prefix constructed (others - 1) (256 * high + x) l b n
        → Digits most room prefix constructed others high l (a ++ b) n
    join l a b x n (is, small, h) d =
        subst (λ (o : List ℕ). Digits most room prefix constructed others high l (o ++ b) n) (sym is) (let len = d.0 in omega arith, (small, d.1), d.2, d.3)

    split : (l : Limits) (o : List ℕ) (n : ℕ) → Digits most room prefix constructed others high l o n
        → (a : List ℕ) × (b : List ℕ) × (x : ℕ) × (y : ℕ) × OneDigit most room prefix constructed (others - 1) high l a x × Digits most room prefix constructed (others - 1) (256 * high + x) l b y × (o ≡ a ++ b)
    split l [] n (len, each, number, h) = absurd (omega (arith, len, some))
    split l (x ∷ octets) n (len, each, number, h) =
        let rest : Digits most room prefix constructed (others - 1) (256 * high + x) l octets n = (omega arith, each.1, number, h) in
        (x ∷ [], octets, x, n, (refl, each.0, digits_reach l most room prefix constructed (others - 1) (256 * high + x) n octets rest), rest, refl)

pub digit_tells : (most : ℕ) (room : Room) (prefix : ℕ) (constructed : Bool) (others high digit : ℕ) → 0 < others → digit < 256
    → Tells (Digits most room prefix constructed others high) (digit ∷ []) (λ l. reaches l most room prefix constructed (others - 1) (256 * high + digit))
digit_tells most room prefix constructed others high digit some small = record { opens = opens; rules = rules }
  where
    chain : Chain (OneDigit most room prefix constructed (others - 1) high) (λ digit a. Digits most room prefix constructed (others - 1) (256 * high + digit)) (Digits most room prefix constructed others high) (λ digit n. n)
    chain = digit_chain most room prefix constructed others high some

    opens : (l : Limits) → reaches l most room prefix constructed (others - 1) (256 * high + digit) ≡ true → Open (Digits most room prefix constructed others high) l (digit ∷ [])
    opens l h =
        let w = digits_word l most room prefix constructed (others - 1) (256 * high + digit) h in
        (digits (others - 1) w.0, w.0, chain.join l (digit ∷ []) (digits (others - 1) w.0) digit w.0 (refl, small, h) w.1)

    rules : (l : Limits) → reaches l most room prefix constructed (others - 1) (256 * high + digit) ≡ false → Ruled (Digits most room prefix constructed others high) l (digit ∷ [])
    rules l h word tail rest n d e =
        let s = chain.split l word n d in
        let spelled : s.2 ∷ (s.1 ++ tail) ≡ digit ∷ rest = ap (λ o. (o ++ s.1) ++ tail) (sym s.4.0) ∙ ap (λ o. o ++ tail) (sym s.6) ∙ e in
        let same : s.2 ≡ digit = cc in
        both_ways (reaches l most room prefix constructed (others - 1) (256 * high + digit)) h
        (subst (λ (x : ℕ). reaches l most room prefix constructed (others - 1) (256 * high + x) ≡ true) same s.4.2)

pub no_digits : (most : ℕ) (room : Room) (prefix : ℕ) (constructed : Bool) (others high : ℕ) (octets : List ℕ) → others ≡ 0 → reaches bounded most room prefix constructed others high ≡ true
    → Got (Digits most room prefix constructed others high) octets high octets
no_digits most room prefix constructed zero high octets is h =
    let s = reach_some bounded most room prefix constructed 0 high h in
    ([], refl, (refl, tt, refl, subst (λ (n : ℕ). size_fits bounded most room prefix constructed (Some n) ≡ true) s.1 s.2))
no_digits most room prefix constructed (suc others) high octets is h = absurd (omega arith)

pub digits_short : (most : ℕ) (room : Room) (prefix : ℕ) (constructed : Bool) (others high : ℕ) → 0 < others → reaches bounded most room prefix constructed others high ≡ true
    → Failed (Digits most room prefix constructed others high) [] faults.Short
unfolding digits
digits_short most room prefix constructed zero high some h = absurd (omega arith)
digits_short most room prefix constructed (suc others) high some h =
    let w = digits_word bounded most room prefix constructed (suc others) high h in
    (shifted others w.0 % 256, digits others w.0, w.0, w.1)

-- ---- a length

-- what stands after its first octet
abbrev pub Tail : ℕ → Room → ℕ → Bool → ℕ → Language (Option ℕ)
Tail most room prefix constructed first l octets size =
    ((first < 128) × (octets ≡ []) × (size ≡ Some first) × (length_fits l most room prefix constructed first ≡ true))
    ⊎ (((first ≡ 128) × (octets ≡ []) × (size ≡ None) × (length_fits l most room prefix constructed first ≡ true))
    ⊎ ((128 < first) × (first ≤ 136) × ((n : ℕ) × Digits most room (prefix + 1 + (first - 128)) constructed (first - 128) 0 l octets n × (size ≡ Some n))))

abbrev pub FirstOctet : ℕ → Room → ℕ → Bool → Language ℕ
FirstOctet most room prefix constructed l octets first = (octets ≡ first ∷ []) × (length_fits l most room prefix constructed first ≡ true)

length_short : (l : Limits) (most : ℕ) (room : Room) (prefix : ℕ) (constructed : Bool) (first : ℕ) → first < 128
    → length_fits l most room prefix constructed first ≡ size_fits l most room (prefix + 1) constructed (Some first)
length_short l most room prefix constructed first lt = cond-true (nat_lt first 128) _ _ (lt-ltb first 128 lt)

length_open : (l : Limits) (most : ℕ) (room : Room) (prefix : ℕ) (constructed : Bool) (first : ℕ) → first ≡ 128
    → length_fits l most room prefix constructed first ≡ size_fits l most room (prefix + 1) constructed None
length_open l most room prefix constructed first is =
    cond-false (nat_lt first 128) _ _ (le-ltb first 128 (omega arith)) ∙ cond-true (nat_eq first 128) _ _ (eq-eqb first 128 is)

length_long : (l : Limits) (most : ℕ) (room : Room) (prefix : ℕ) (constructed : Bool) (first : ℕ) → 128 < first
    → length_fits l most room prefix constructed first ≡ (nat_le first 136 && reaches l most room (prefix + 1 + (first - 128)) constructed (first - 128) 0)
length_long l most room prefix constructed first far =
    cond-false (nat_lt first 128) _ _ (le-ltb first 128 (omega arith)) ∙ cond-false (nat_eq first 128) _ _ (ne_eqb first 128 (λ e. omega arith))

pub long_parts : (l : Limits) (most : ℕ) (room : Room) (prefix : ℕ) (constructed : Bool) (first : ℕ) → 128 < first → length_fits l most room prefix constructed first ≡ true
    → (first ≤ 136) × (reaches l most room (prefix + 1 + (first - 128)) constructed (first - 128) 0 ≡ true)
long_parts l most room prefix constructed first far h =
    let p = and_parts (nat_le first 136) (reaches l most room (prefix + 1 + (first - 128)) constructed (first - 128) 0) (sym (length_long l most room prefix constructed first far) ∙ h) in
    (leb-true first 136 p.0, p.1)

length_from : (l : Limits) (most : ℕ) (room : Room) (prefix : ℕ) (constructed : Bool) (first : ℕ) → 128 < first → first ≤ 136
    → reaches l most room (prefix + 1 + (first - 128)) constructed (first - 128) 0 ≡ true → length_fits l most room prefix constructed first ≡ true
length_from l most room prefix constructed first far few h =
    length_long l most room prefix constructed first far ∙ and_from (nat_le first 136) _ (le-leb first 136 few) h

length_lift : (l : Limits) (most : ℕ) (room : Room) (prefix : ℕ) (constructed : Bool) (first : ℕ) → length_fits bounded most room prefix constructed first ≡ true
    → length_fits l most room prefix constructed first ≡ true
length_lift l most room prefix constructed first h =
    elim (cases_lt first 128) [
      | inl lt ↦ length_short l most room prefix constructed first lt
          ∙ size_lift l most room (prefix + 1) constructed (Some first) (sym (length_short bounded most room prefix constructed first lt) ∙ h)
      | inr le ↦ elim (cases_eq first 128) [
        | inl e ↦ length_open l most room prefix constructed first e ∙ size_lift l most room (prefix + 1) constructed None (sym (length_open bounded most room prefix constructed first e) ∙ h)
        | inr ne ↦
            let far : 128 < first = omega arith in
            let p = long_parts bounded most room prefix constructed first far h in
            length_from l most room prefix constructed first far p.0 (reaches_lift l most room (prefix + 1 + (first - 128)) constructed (first - 128) 0 p.1)
      ]
    ]

pub size_chain : (most : ℕ) (room : Room) (prefix : ℕ) (constructed : Bool)
    → Chain (FirstOctet most room prefix constructed) (λ first a. Tail most room prefix constructed first) (Sizes most room prefix constructed) (λ first size. size)
size_chain most room prefix constructed = record { unique = unique; lift = lift; nonempty = nonempty; join = join; split = split }
  where
    unique : (l k : Limits) (a b r s : List ℕ) (x y : ℕ) → FirstOctet most room prefix constructed l a x → FirstOctet most room prefix constructed k b y → a ++ r ≡ b ++ s → (a ≡ b) × (x ≡ y)
    unique l k a b r s x y (is, f) (other_is, g) e =
        let same : x ∷ r ≡ y ∷ s = ap (λ o. o ++ r) (sym is) ∙ e ∙ ap (λ o. o ++ s) other_is in
        let first : x ≡ y = cc in
        (is ∙ ap (λ d. d ∷ []) first ∙ sym other_is, first)

    lift : (l : Limits) (a : List ℕ) (x : ℕ) → FirstOctet most room prefix constructed bounded a x → FirstOctet most room prefix constructed l a x
    lift l a x (is, h) = (is, length_lift l most room prefix constructed x h)

    nonempty : (l : Limits) (a : List ℕ) (x : ℕ) → FirstOctet most room prefix constructed l a x → Open (Tail most room prefix constructed x) l []
    nonempty l a x (is, h) =
        elim (cases_lt x 128) [
          | inl lt ↦ ([], Some x, inl (lt, refl, refl, h))
          | inr le ↦ elim (cases_eq x 128) [
            | inl e ↦ ([], None, inr (inl (e, refl, refl, h)))
            | inr ne ↦
                let far : 128 < x = omega arith in
                let p = long_parts l most room prefix constructed x far h in
                let w = digits_word l most room (prefix + 1 + (x - 128)) constructed (x - 128) 0 p.1 in
                (digits (x - 128) w.0, Some w.0, inr (inr (far, p.0, (w.0, w.1, refl))))
          ]
        ]

    join : (l : Limits) (a b : List ℕ) (x : ℕ) (size : Option ℕ) → FirstOctet most room prefix constructed l a x → Tail most room prefix constructed x l b size
        → Sizes most room prefix constructed l (a ++ b) size
    join l a b x size (is, h) (inl (lt, none, same, f)) =
        let word : a ++ b ≡ x ∷ [] = ap (λ o. o ++ b) is ∙ ap (λ o. x ∷ o) none in
        subst (λ (o : List ℕ). Sizes most room prefix constructed l o size) (sym word)
        (subst (λ (s : Option ℕ). Sizes most room prefix constructed l (x ∷ []) s) (sym same) (inl (refl, lt), sym (length_short l most room prefix constructed x lt) ∙ h))
    join l a b x size (is, h) (inr (inl (e, none, same, f))) =
        let word : a ++ b ≡ 128 ∷ [] = ap (λ o. o ++ b) is ∙ ap (λ o. x ∷ o) none ∙ ap (λ o. o ∷ []) e in
        subst (λ (o : List ℕ). Sizes most room prefix constructed l o size) (sym word)
        (subst (λ (s : Option ℕ). Sizes most room prefix constructed l (128 ∷ []) s) (sym same) (refl, sym (length_open l most room prefix constructed x e) ∙ h))
    join l a b x size (is, h) (inr (inr (far, few, (n, (len, each, number, f), same)))) =
        let word : a ++ b ≡ x ∷ b = ap (λ o. o ++ b) is in
        let first : x ≡ 128 + length b = omega arith in
        let taken : prefix + 1 + (x - 128) ≡ prefix + length (x ∷ b) = omega arith in
        subst (λ (o : List ℕ). Sizes most room prefix constructed l o size) (sym word)
        (subst (λ (s : Option ℕ). Sizes most room prefix constructed l (x ∷ b) s) (sym same) (
          inr (record { digits = b; some = omega arith; few = omega arith; each = each; number = number; spelled = ap (λ o. o ∷ b) first }),
          subst (λ (k : ℕ). size_fits l most room k constructed (Some n) ≡ true) taken f,
        ))

    split : (l : Limits) (o : List ℕ) (size : Option ℕ) → Sizes most room prefix constructed l o size
        → (a : List ℕ) × (b : List ℕ) × (x : ℕ) × (y : Option ℕ) × FirstOctet most room prefix constructed l a x × Tail most room prefix constructed x l b y × (o ≡ a ++ b)
    split l o (Some n) (inl (is, lt), h) =
        let f : size_fits l most room (prefix + 1) constructed (Some n) ≡ true = ap (λ w. size_fits l most room (prefix + length w) constructed (Some n)) (sym is) ∙ h in
        let g = length_short l most room prefix constructed n lt ∙ f in
        (n ∷ [], [], n, Some n, (refl, g), inl (lt, refl, refl, g), is)
    split l o (Some n) (inr long, h) =
        let first = 128 + length long.digits in
        let some = long.some in
        let few = long.few in
        let others : length long.digits ≡ first - 128 = omega arith in
        let taken : prefix + length o ≡ prefix + 1 + (first - 128) = omega (arith, ap length long.spelled) in
        let rest : Digits most room (prefix + 1 + (first - 128)) constructed (first - 128) 0 l long.digits n =
        (others, long.each, long.number, subst (λ (k : ℕ). size_fits l most room k constructed (Some n) ≡ true) taken h) in
        let g = length_from l most room prefix constructed first (omega arith) (omega arith) (digits_reach l most room (prefix + 1 + (first - 128)) constructed (first - 128) 0 n long.digits rest) in
        (first ∷ [], long.digits, first, Some n, (refl, g), inr (inr (omega arith, omega arith, (n, rest, refl))), long.spelled)
    split l o None (is, h) =
        let f : size_fits l most room (prefix + 1) constructed None ≡ true = ap (λ w. size_fits l most room (prefix + length w) constructed None) (sym is) ∙ h in
        let g = length_open l most room prefix constructed 128 refl ∙ f in
        (128 ∷ [], [], 128, None, (refl, g), inr (inl (refl, refl, refl, g)), is)

pub length_tells : (most : ℕ) (room : Room) (prefix : ℕ) (constructed : Bool) (first : ℕ)
    → Tells (Sizes most room prefix constructed) (first ∷ []) (λ l. length_fits l most room prefix constructed first)
length_tells most room prefix constructed first = record { opens = opens; rules = rules }
  where
    chain : Chain (FirstOctet most room prefix constructed) (λ first a. Tail most room prefix constructed first) (Sizes most room prefix constructed) (λ first size. size)
    chain = size_chain most room prefix constructed

    opens : (l : Limits) → length_fits l most room prefix constructed first ≡ true → Open (Sizes most room prefix constructed) l (first ∷ [])
    opens l h =
        let w = chain.nonempty l (first ∷ []) first (refl, h) in
        (w.0, w.1, chain.join l (first ∷ []) w.0 first w.1 (refl, h) w.2)

    rules : (l : Limits) → length_fits l most room prefix constructed first ≡ false → Ruled (Sizes most room prefix constructed) l (first ∷ [])
    rules l h word tail rest size d e =
        let s = chain.split l word size d in
        let spelled : s.2 ∷ (s.1 ++ tail) ≡ first ∷ rest = ap (λ o. (o ++ s.1) ++ tail) (sym s.4.0) ∙ ap (λ o. o ++ tail) (sym s.6) ∙ e in
        let same : s.2 ≡ first = cc in
        both_ways (length_fits l most room prefix constructed first) h (subst (λ (x : ℕ). length_fits l most room prefix constructed x ≡ true) same s.4.1)

-- a length of no contents always fits
pub sizes_some : (l : Limits) (most : ℕ) (room : Room) (prefix : ℕ) (constructed : Bool) → is_roomy l room (prefix + 1) ≡ true
    → (next : ℕ) × (rest : List ℕ) × Sizes most room prefix constructed l (next ∷ rest) (Some 0)
sizes_some l most room prefix constructed h =
    elim (roomy_fits l room (prefix + 1) h) [
      | inl f ↦ (0, [], (inl (refl, omega arith), size_none l most room (prefix + 1) constructed (let e : prefix + 1 ≡ prefix + 1 + 0 = omega arith in subst (λ (k : ℕ). fits l room k ≡ true) e f)))
      | inr f ↦ (
        129,
        0 ∷ [],
        (
          inr (record { digits = 0 ∷ []; some = omega arith; few = omega arith; each = (omega arith, tt); number = refl; spelled = refl }),
          size_none l most room (prefix + 2) constructed (let e : prefix + 1 + 1 ≡ prefix + 2 + 0 = omega arith in subst (λ (k : ℕ). fits l room k ≡ true) e f),
        ),
      )
    ]

-- ---- what is read

pub got_short : (most : ℕ) (room : Room) (prefix : ℕ) (constructed : Bool) (first : ℕ) (tail : List ℕ) → length_fits bounded most room prefix constructed first ≡ true → first < 128
    → Got (Sizes most room prefix constructed) (first ∷ tail) (Some first) tail
got_short most room prefix constructed first tail h lt =
    tail_got _ _ _ _ (size_chain most room prefix constructed) (first ∷ tail) tail tail (first ∷ []) first (Some first) refl (refl, h) ([], refl, inl (lt, refl, refl, h))

pub got_open : (most : ℕ) (room : Room) (prefix : ℕ) (constructed : Bool) (first : ℕ) (tail : List ℕ) → length_fits bounded most room prefix constructed first ≡ true → first ≡ 128
    → Got (Sizes most room prefix constructed) (first ∷ tail) None tail
got_open most room prefix constructed first tail h is =
    tail_got _ _ _ _ (size_chain most room prefix constructed) (first ∷ tail) tail tail (first ∷ []) first None refl (refl, h) ([], refl, inr (inl (is, refl, refl, h)))

long_carries : (most : ℕ) (room : Room) (prefix : ℕ) (constructed : Bool) (first : ℕ) → 128 < first → first ≤ 136
    → Carries (Digits most room (prefix + 1 + (first - 128)) constructed (first - 128) 0) (Tail most room prefix constructed first) (λ n. Some n) Anything
long_carries most room prefix constructed first far few = record { onto = onto; back = back }
  where
    onto : (l : Limits) (word : List ℕ) (n : ℕ) → Digits most room (prefix + 1 + (first - 128)) constructed (first - 128) 0 l word n → Tail most room prefix constructed first l word (Some n)
    onto l word n d = inr (inr (far, few, (n, d, refl)))

    back : (l : Limits) (word tail : List ℕ) (size : Option ℕ) → Tail most room prefix constructed first l word size → Anything (word ++ tail)
        → (n : ℕ) × Digits most room (prefix + 1 + (first - 128)) constructed (first - 128) 0 l word n
    back l word tail size (inl (lt, none, same, f)) any = absurd (omega (arith, lt, far))
    back l word tail size (inr (inl (e, none, same, f))) any = absurd (omega (arith, e, far))
    back l word tail size (inr (inr (above, below, (n, d, same)))) any = (n, d)

pub got_long : (most : ℕ) (room : Room) (prefix : ℕ) (constructed : Bool) (first n : ℕ) (tail rest : List ℕ) → length_fits bounded most room prefix constructed first ≡ true → 128 < first
    → Got (Digits most room (prefix + 1 + (first - 128)) constructed (first - 128) 0) tail n rest → Got (Sizes most room prefix constructed) (first ∷ tail) (Some n) rest
got_long most room prefix constructed first n tail rest h far (word, is, d) =
    let p = long_parts bounded most room prefix constructed first far h in
    tail_got _ _ _ _ (size_chain most room prefix constructed) (first ∷ tail) tail rest (first ∷ []) first (Some n) refl (refl, h) (word, is, inr (inr (far, p.0, (n, d, refl))))

pub long_failed : (most : ℕ) (room : Room) (prefix : ℕ) (constructed : Bool) (first : ℕ) (tail : List ℕ) (fault : Fault) → length_fits bounded most room prefix constructed first ≡ true → 128 < first
    → Failed (Digits most room (prefix + 1 + (first - 128)) constructed (first - 128) 0) tail fault → Failed (Sizes most room prefix constructed) (first ∷ tail) fault
long_failed most room prefix constructed first tail fault h far d =
    let p = long_parts bounded most room prefix constructed first far h in
    tail_failed _ _ _ _ (size_chain most room prefix constructed) (first ∷ tail) tail (first ∷ []) first fault refl (refl, h)
    (carried_failed _ _ _ _ (long_carries most room prefix constructed first far p.0) tail fault (λ prefix rest more octet e. tt) d)

-- the octets of a length are octets
pub digit_large : (most : ℕ) (room : Room) (prefix : ℕ) (constructed : Bool) (others high digit : ℕ) (l : Limits) → 256 ≤ digit
    → Ruled (Digits most room prefix constructed (suc others) high) l (digit ∷ [])
digit_large most room prefix constructed others high digit l large [] tail rest n (len, each, number, f) e = absurd (omega (arith, len))
digit_large most room prefix constructed others high digit l large (x ∷ word) tail rest n (len, each, number, f) e =
    let same : x ∷ (word ++ tail) ≡ digit ∷ rest = e in let is : x ≡ digit = cc in omega (arith, each.0, large, is)
