-- Which octets an identifier may have, as the tests on them tell.
use Rattle.std.proofs.Common.{◌≡◌, ◌≢◌, ℕ, ◌+◌, ◌-◌, ◌*◌, ◌/◌, ◌%◌, ◌<◌, ◌≤◌, Bool, true, false, cond, List, [], ◌∷◌, ◌++◌, length, refl, ap, sym, ◌∙◌, arith, nat_eq, nat_lt, inl, inr, ◌⊎◌, eq-eqb}
use Rattle.std.specs.Prelude.{not, ◌&&◌, nat_le, if◌then◌else◌}
use Rattle.std.proofs.lemmas.Bool.{cases_lt, cases_eq, cond-true, cond-false, lt-ltb, le-ltb, le-leb, leb-true, eqb-false, ne_eqb, and_parts, and_from, not-true, not_from_false, both_ways}
use Rattle.std.proofs.lemmas.Bool.Decides.{nat_tests}
use Rattle.vf_ber.specs.declared.fault.Fault.TheVariants as faults
use Rattle.vf_ber.specs.declared.room.Room.{Room}
use Rattle.vf_ber.specs.Spelling.{first_octet, identifier}
use Rattle.vf_ber.specs.Reading.{Limits, bounded}
use Rattle.vf_ber.specs.Steps.{Name, Names, Open, Ruled, Got, Failed, has_depth, is_roomy, first_fits, second_fits, named}
use Rattle.vf_ber.proofs.Chains.{Tells}
use Rattle.vf_ber.proofs.Fits.{depth_lift, roomy_le}
use Rattle.vf_ber.proofs.Names.{tag, identifier-short, identifier-longer, identifier-longest}

-- ---- first octets

bit_is : (q : ℕ) → q % 2 ≡ cond (nat_eq (q % 2) 1) 1 0
bit_is q = grind (arith, nat_tests)

first_octet-is : (constructed : Bool) (class low : ℕ) → first_octet constructed class low ≡ 64 * class + (32 * cond constructed 1 0 + low)
first_octet-is true class low = omega arith
first_octet-is false class low = omega arith

abbrev pub is_built : ℕ → Bool
is_built octet = nat_eq (octet / 32 % 2) 1

pub first_octet-parts : (octet low : ℕ) → octet % 32 ≡ low → first_octet (is_built octet) (octet / 64) low ≡ octet
first_octet-parts octet low is =
    let q = octet / 32 in
    let e : octet ≡ 64 * (octet / 64) + (32 * (octet / 32 % 2) + low) = omega arith in
    sym (e ∙ ap (λ b. 64 * (octet / 64) + (32 * b + low)) (bit_is (octet / 32)) ∙ sym (first_octet-is (is_built octet) (octet / 64) low))

low-first : (constructed : Bool) (class low : ℕ) → low < 32 → first_octet constructed class low % 32 ≡ low
low-first true class low lt = omega arith
low-first false class low lt = omega arith

first_some : (constructed : Bool) (class low : ℕ) → 0 < class + low → low < 32 → (first_octet constructed class low ≢ 0) × (first_octet constructed class low ≢ 32)
first_some true class low some lt = (λ e. omega arith, λ e. omega arith)
first_some false class low some lt = (λ e. omega arith, λ e. omega arith)

-- ---- the tests

abbrev FirstRoom : Limits → Room → ℕ → Type 0
FirstRoom l room octet = ((octet % 32 ≡ 31) × (is_roomy l room 3 ≡ true)) ⊎ ((octet % 32 ≢ 31) × (is_roomy l room 2 ≡ true))

first_room : (l : Limits) (room : Room) (octet : ℕ) → is_roomy l room (if nat_eq (octet % 32) 31 then 3 else 2) ≡ true → FirstRoom l room octet
first_room l room octet h =
    elim (cases_eq (octet % 32) 31) [
      | inl e ↦ inl (e, ap (is_roomy l room) (sym (cond-true (nat_eq (octet % 32) 31) 3 2 (eq-eqb (octet % 32) 31 e))) ∙ h)
      | inr ne ↦ inr (ne, ap (is_roomy l room) (sym (cond-false (nat_eq (octet % 32) 31) 3 2 (ne_eqb (octet % 32) 31 ne))) ∙ h)
    ]

room_first : (l : Limits) (room : Room) (octet : ℕ) → FirstRoom l room octet → is_roomy l room (if nat_eq (octet % 32) 31 then 3 else 2) ≡ true
room_first l room octet (inl (e, h)) = ap (is_roomy l room) (cond-true (nat_eq (octet % 32) 31) 3 2 (eq-eqb (octet % 32) 31 e)) ∙ h
room_first l room octet (inr (ne, h)) = ap (is_roomy l room) (cond-false (nat_eq (octet % 32) 31) 3 2 (ne_eqb (octet % 32) 31 ne)) ∙ h

pub record FirstFits (l : Limits) (most : ℕ) (room : Room) (octet : ℕ) : Type 0 where
  pub some : octet ≢ 0
  pub tagged : octet ≢ 32
  pub deep : has_depth l most ≡ true
  pub roomy : FirstRoom l room octet

pub first_parts : (l : Limits) (most : ℕ) (room : Room) (octet : ℕ) → first_fits l most room octet ≡ true → FirstFits l most room octet
first_parts l most room octet h =
    let a = and_parts (not (nat_eq octet 0) && not (nat_eq octet 32) && has_depth l most) (is_roomy l room (if nat_eq (octet % 32) 31 then 3 else 2)) h in
    let b = and_parts (not (nat_eq octet 0) && not (nat_eq octet 32)) (has_depth l most) a.0 in
    let c = and_parts (not (nat_eq octet 0)) (not (nat_eq octet 32)) b.0 in
    record {
      some = eqb-false octet 0 (not-true (nat_eq octet 0) c.0);
      tagged = eqb-false octet 32 (not-true (nat_eq octet 32) c.1);
      deep = b.1;
      roomy = first_room l room octet a.1;
    }

first_from : (l : Limits) (most : ℕ) (room : Room) (octet : ℕ) → FirstFits l most room octet → first_fits l most room octet ≡ true
first_from l most room octet f =
    and_from (not (nat_eq octet 0) && not (nat_eq octet 32) && has_depth l most) (is_roomy l room (if nat_eq (octet % 32) 31 then 3 else 2))
    (and_from (not (nat_eq octet 0) && not (nat_eq octet 32)) (has_depth l most)
    (and_from (not (nat_eq octet 0)) (not (nat_eq octet 32)) (not_from_false (nat_eq octet 0) (ne_eqb octet 0 f.some)) (not_from_false (nat_eq octet 32) (ne_eqb octet 32 f.tagged)))
    f.deep)
    (room_first l room octet f.roomy)

abbrev SecondRoom : Limits → Room → ℕ → Type 0
SecondRoom l room octet = ((octet < 128) × (is_roomy l room 3 ≡ true)) ⊎ ((128 < octet) × (is_roomy l room 4 ≡ true))

pub record SecondFits (l : Limits) (room : Room) (octet : ℕ) : Type 0 where
  pub long : 31 ≤ octet
  pub roomy : SecondRoom l room octet

pub second_parts : (l : Limits) (room : Room) (octet : ℕ) → second_fits l room octet ≡ true → SecondFits l room octet
second_parts l room octet h =
    let a = and_parts (nat_le 31 octet && not (nat_eq octet 128)) (is_roomy l room (if nat_lt octet 128 then 3 else 4)) h in
    let b = and_parts (nat_le 31 octet) (not (nat_eq octet 128)) a.0 in
    let other : octet ≢ 128 = eqb-false octet 128 (not-true (nat_eq octet 128) b.1) in
    record {
      long = leb-true 31 octet b.0;
      roomy = elim (cases_lt octet 128) [
        | inl lt ↦ inl (lt, ap (is_roomy l room) (sym (cond-true (nat_lt octet 128) 3 4 (lt-ltb octet 128 lt))) ∙ a.1)
        | inr le ↦ inr (omega arith, ap (is_roomy l room) (sym (cond-false (nat_lt octet 128) 3 4 (le-ltb octet 128 le))) ∙ a.1)
      ];
    }

second_from : (l : Limits) (room : Room) (octet : ℕ) → SecondFits l room octet → second_fits l room octet ≡ true
second_from l room octet f =
    let long = f.long in
    elim f.roomy [
      | inl r ↦
          and_from (nat_le 31 octet && not (nat_eq octet 128)) (is_roomy l room (if nat_lt octet 128 then 3 else 4))
          (and_from (nat_le 31 octet) (not (nat_eq octet 128)) (le-leb 31 octet long) (not_from_false (nat_eq octet 128) (ne_eqb octet 128 (λ e. omega (arith, r.0)))))
          (ap (is_roomy l room) (cond-true (nat_lt octet 128) 3 4 (lt-ltb octet 128 r.0)) ∙ r.1)
      | inr r ↦
          and_from (nat_le 31 octet && not (nat_eq octet 128)) (is_roomy l room (if nat_lt octet 128 then 3 else 4))
          (and_from (nat_le 31 octet) (not (nat_eq octet 128)) (le-leb 31 octet long) (not_from_false (nat_eq octet 128) (ne_eqb octet 128 (λ e. omega (arith, r.0)))))
          (ap (is_roomy l room) (cond-false (nat_lt octet 128) 3 4 (le-ltb octet 128 (omega (arith, r.0)))) ∙ r.1)
    ]

-- ---- words

short_word : (l : Limits) (most : ℕ) (room : Room) (first low : ℕ) → first < 256 → FirstFits l most room first → first % 32 ≡ low → low < 31
    → Names most room l (first ∷ []) (named (is_built first) (tag (first / 64) low))
short_word l most room first low small f is lt =
    let some = f.some in
    let tagged = f.tagged in (
      sym (identifier-short (is_built first) (first / 64) low lt ∙ ap (λ o. o ∷ []) (first_octet-parts first low is)),
      record { class_within = omega arith; number_within = omega arith; some_value = above first low is some tagged },
      f.deep,
      elim f.roomy [ inl r ↦ absurd (omega (arith, r.0, is)) | inr r ↦ r.1 ],
    )
  where
    above : (first low : ℕ) → first % 32 ≡ low → first ≢ 0 → first ≢ 32 → 0 < first / 64 + low
    above first low is a b = elim (cases_lt 0 (first / 64 + low)) [ inl lt ↦ lt | inr le ↦ absurd (elim (cases_lt first 32) [ inl lt ↦ a (omega arith) | inr far ↦ b (omega arith) ]) ]

longer_word : (l : Limits) (most : ℕ) (room : Room) (first second : ℕ) → first < 256 → first % 32 ≡ 31 → has_depth l most ≡ true → 31 ≤ second → second < 128 → is_roomy l room 3 ≡ true
    → Names most room l (first ∷ second ∷ []) (named (is_built first) (tag (first / 64) second))
longer_word l most room first second small is deep le lt roomy = (
  sym (identifier-longer (is_built first) (first / 64) second le lt ∙ ap (λ o. o ∷ second ∷ []) (first_octet-parts first 31 is)),
  record { class_within = omega arith; number_within = omega arith; some_value = omega arith },
  deep,
  roomy,
)

longest_word : (l : Limits) (most : ℕ) (room : Room) (first second third : ℕ) → first < 256 → second < 256 → first % 32 ≡ 31 → has_depth l most ≡ true → 128 < second → third < 128 → is_roomy l room 4 ≡ true
    → Names most room l (first ∷ second ∷ third ∷ []) (named (is_built first) (tag (first / 64) (128 * (second - 128) + third)))
longest_word l most room first second third small below is deep far lt roomy =
    let n = 128 * (second - 128) + third in
    let a : 128 + n / 128 ≡ second = omega arith in
    let b : n % 128 ≡ third = omega arith in (
      sym (identifier-longest (is_built first) (first / 64) n (omega arith) ∙ ap (λ o. o ∷ (128 + n / 128) ∷ n % 128 ∷ []) (first_octet-parts first 31 is)
          ∙ ap (λ o. first ∷ o ∷ n % 128 ∷ []) a ∙ ap (λ o. first ∷ second ∷ o ∷ []) b),
      record { class_within = omega arith; number_within = omega arith; some_value = omega arith },
      deep,
      roomy,
    )

-- ---- what the tests tell

abbrev head : List ℕ → ℕ
head [] = 0
head (o ∷ octets) = o

abbrev tail : List ℕ → List ℕ
tail [] = []
tail (o ∷ octets) = octets

-- an identifier by its octets
pub record ShortName (name : Name) (word : List ℕ) (octets : List ℕ) : Type 0 where
  pub low : name.tag.number < 31
  pub word_is : word ≡ first_octet name.constructed name.tag.class name.tag.number ∷ []
  pub first_is : head octets ≡ first_octet name.constructed name.tag.class name.tag.number

pub record LongerName (name : Name) (word : List ℕ) (octets : List ℕ) : Type 0 where
  pub high : 31 ≤ name.tag.number
  pub low : name.tag.number < 128
  pub word_is : word ≡ first_octet name.constructed name.tag.class 31 ∷ name.tag.number ∷ []
  pub first_is : head octets ≡ first_octet name.constructed name.tag.class 31
  pub second_is : head (tail octets) ≡ name.tag.number

pub record LongestName (name : Name) (word : List ℕ) (octets : List ℕ) : Type 0 where
  pub high : 128 ≤ name.tag.number
  pub word_is : word ≡ first_octet name.constructed name.tag.class 31 ∷ (128 + name.tag.number / 128) ∷ name.tag.number % 128 ∷ []
  pub first_is : head octets ≡ first_octet name.constructed name.tag.class 31
  pub second_is : head (tail octets) ≡ 128 + name.tag.number / 128
  pub third_is : head (tail (tail octets)) ≡ name.tag.number % 128

name_cases : (name : Name) (word after octets : List ℕ) → word ≡ identifier name.constructed name.tag → word ++ after ≡ octets
    → ShortName name word octets ⊎ (LongerName name word octets ⊎ LongestName name word octets)
name_cases name word after octets is e =
    let t = name.tag in
    let c = name.constructed in
    let spelled = λ (i : List ℕ) (p : identifier c t ≡ i). sym e ∙ ap (λ o. o ++ after) (is ∙ p) in
    elim (cases_lt t.number 31) [
      | inl lt ↦
          let i = identifier-short c t.class t.number lt in
          inl (record { low = lt; word_is = is ∙ i; first_is = ap head (spelled _ i) })
      | inr le ↦ elim (cases_lt t.number 128) [
        | inl lt ↦
            let i = identifier-longer c t.class t.number le lt in
            inr (inl (record { high = le; low = lt; word_is = is ∙ i; first_is = ap head (spelled _ i); second_is = ap (λ o. head (tail o)) (spelled _ i) }))
        | inr far ↦
            let i = identifier-longest c t.class t.number far in
            inr (inr (record {
              high = far;
              word_is = is ∙ i;
              first_is = ap head (spelled _ i);
              second_is = ap (λ o. head (tail o)) (spelled _ i);
              third_is = ap (λ o. head (tail (tail o))) (spelled _ i);
            }))
      ]
    ]

pub first_tells : (most : ℕ) (room : Room) (first : ℕ) → first < 256 → Tells (Names most room) (first ∷ []) (λ l. first_fits l most room first)
first_tells most room first small = record { opens = opens; rules = rules }
  where
    opens : (l : Limits) → first_fits l most room first ≡ true → Open (Names most room) l (first ∷ [])
    opens l h =
        let f = first_parts l most room first h in
        elim (cases_eq (first % 32) 31) [
          | inl e ↦ (31 ∷ [], named (is_built first) (tag (first / 64) 31), longer_word l most room first 31 small e f.deep (omega arith) (omega arith) (elim f.roomy [ inl r ↦ r.1 | inr r ↦ absurd (r.0 e) ]))
          | inr ne ↦ ([], named (is_built first) (tag (first / 64) (first % 32)), short_word l most room first (first % 32) small f refl (omega arith))
        ]

    passes : (l : Limits) (word after rest : List ℕ) (name : Name) → Names most room l word name → word ++ after ≡ first ∷ rest → first_fits l most room first ≡ true
    passes l word after rest name (is, fits, deep, roomy) e =
        elim (name_cases name word after (first ∷ rest) is e) [
          | inl s ↦
              let low : first % 32 ≡ name.tag.number = ap (λ n. n % 32) s.first_is ∙ low-first name.constructed name.tag.class name.tag.number (omega (arith, s.low)) in
              let some = first_some name.constructed name.tag.class name.tag.number fits.some_value (omega (arith, s.low)) in
              let two : is_roomy l room 2 ≡ true = ap (λ o. is_roomy l room (length o + 1)) (sym s.word_is) ∙ roomy in
              first_from l most room first (record { some = λ z. some.0 (sym s.first_is ∙ z); tagged = λ z. some.1 (sym s.first_is ∙ z); deep = deep; roomy = inr (λ z. omega (arith, s.low, low, z), two) })
          | inr others ↦ elim others [
            | inl s ↦
                let low : first % 32 ≡ 31 = ap (λ n. n % 32) s.first_is ∙ low-first name.constructed name.tag.class 31 (omega arith) in
                let some = first_some name.constructed name.tag.class 31 (omega arith) (omega arith) in
                let three : is_roomy l room 3 ≡ true = ap (λ o. is_roomy l room (length o + 1)) (sym s.word_is) ∙ roomy in
                first_from l most room first (record { some = λ z. some.0 (sym s.first_is ∙ z); tagged = λ z. some.1 (sym s.first_is ∙ z); deep = deep; roomy = inl (low, three) })
            | inr s ↦
                let low : first % 32 ≡ 31 = ap (λ n. n % 32) s.first_is ∙ low-first name.constructed name.tag.class 31 (omega arith) in
                let some = first_some name.constructed name.tag.class 31 (omega arith) (omega arith) in
                let four : is_roomy l room 4 ≡ true = ap (λ o. is_roomy l room (length o + 1)) (sym s.word_is) ∙ roomy in
                first_from l most room first (record { some = λ z. some.0 (sym s.first_is ∙ z); tagged = λ z. some.1 (sym s.first_is ∙ z); deep = deep; roomy = inl (low, roomy_le l room 4 3 (omega arith) four) })
          ]
        ]

    rules : (l : Limits) → first_fits l most room first ≡ false → Ruled (Names most room) l (first ∷ [])
    rules l h word after rest name n e = both_ways (first_fits l most room first) h (passes l word after rest name n e)

pub second_tells : (most : ℕ) (room : Room) (first second : ℕ) → first < 256 → second < 256 → first % 32 ≡ 31 → has_depth bounded most ≡ true
    → Tells (Names most room) (first ∷ second ∷ []) (λ l. second_fits l room second)
second_tells most room first second small below is deep = record { opens = opens; rules = rules }
  where
    opens : (l : Limits) → second_fits l room second ≡ true → Open (Names most room) l (first ∷ second ∷ [])
    opens l h =
        let f = second_parts l room second h in
        let d = depth_lift l most deep in
        elim f.roomy [
          | inl r ↦ ([], named (is_built first) (tag (first / 64) second), longer_word l most room first second small is d f.long r.0 r.1)
          | inr r ↦ (0 ∷ [], named (is_built first) (tag (first / 64) (128 * (second - 128) + 0)), longest_word l most room first second 0 small below is d r.0 (omega arith) r.1)
        ]

    passes : (l : Limits) (word after rest : List ℕ) (name : Name) → Names most room l word name → word ++ after ≡ first ∷ second ∷ rest → second_fits l room second ≡ true
    passes l word after rest name (same, fits, far, roomy) e =
        elim (name_cases name word after (first ∷ second ∷ rest) same e) [
          | inl s ↦
              let low : first % 32 ≡ name.tag.number = ap (λ n. n % 32) s.first_is ∙ low-first name.constructed name.tag.class name.tag.number (omega (arith, s.low)) in
              absurd (omega (arith, s.low, low, is))
          | inr others ↦ elim others [
            | inl s ↦
                let three : is_roomy l room 3 ≡ true = ap (λ o. is_roomy l room (length o + 1)) (sym s.word_is) ∙ roomy in
                second_from l room second (record { long = omega (arith, s.high, s.second_is); roomy = inl (omega (arith, s.low, s.second_is), three) })
            | inr s ↦
                let four : is_roomy l room 4 ≡ true = ap (λ o. is_roomy l room (length o + 1)) (sym s.word_is) ∙ roomy in
                let high = s.high in
                let at = s.second_is in
                second_from l room second (record { long = omega arith; roomy = inr (omega arith, four) })
          ]
        ]

    rules : (l : Limits) → second_fits l room second ≡ false → Ruled (Names most room) l (first ∷ second ∷ [])
    rules l h word after rest name n e = both_ways (second_fits l room second) h (passes l word after rest name n e)

pub third_rules : (most : ℕ) (room : Room) (first second third : ℕ) (l : Limits) → first % 32 ≡ 31 → 128 ≤ second → 128 ≤ third → Ruled (Names most room) l (first ∷ second ∷ third ∷ [])
third_rules most room first second third l is far high word after rest name (same, fits, deep, roomy) e =
    elim (name_cases name word after (first ∷ second ∷ third ∷ rest) same e) [
      | inl s ↦
          let low : first % 32 ≡ name.tag.number = ap (λ n. n % 32) s.first_is ∙ low-first name.constructed name.tag.class name.tag.number (omega (arith, s.low)) in
          omega (arith, s.low, low, is)
      | inr others ↦ elim others [
        | inl s ↦ omega (arith, s.low, s.second_is)
        | inr s ↦ let at = s.third_is in omega arith
      ]
    ]

-- ---- what is read

pub got_short : (most : ℕ) (room : Room) (first : ℕ) (after : List ℕ) → first < 256 → first_fits bounded most room first ≡ true → first % 32 < 31
    → Got (Names most room) (first ∷ after) (named (is_built first) (tag (first / 64) (first % 32))) after
got_short most room first after small h lt = (first ∷ [], refl, short_word bounded most room first (first % 32) small (first_parts bounded most room first h) refl lt)

pub got_longer : (most : ℕ) (room : Room) (first second : ℕ) (after : List ℕ) → first < 256 → first_fits bounded most room first ≡ true → first % 32 ≡ 31
    → second_fits bounded room second ≡ true → second < 128
    → Got (Names most room) (first ∷ second ∷ after) (named (is_built first) (tag (first / 64) second)) after
got_longer most room first second after small h is g lt =
    let f = second_parts bounded room second g in (
      first ∷ second ∷ [],
      refl,
      longer_word bounded most room first second small is (first_parts bounded most room first h).deep f.long lt
          (elim f.roomy [ inl r ↦ r.1 | inr r ↦ absurd (omega (arith, r.0)) ]),
    )

pub got_longest : (most : ℕ) (room : Room) (first second third : ℕ) (after : List ℕ) → first < 256 → second < 256 → first_fits bounded most room first ≡ true → first % 32 ≡ 31
    → second_fits bounded room second ≡ true → 128 ≤ second → third < 128
    → Got (Names most room) (first ∷ second ∷ third ∷ after) (named (is_built first) (tag (first / 64) (128 * (second - 128) + third))) after
got_longest most room first second third after small below h is g le lt =
    let f = second_parts bounded room second g in
    elim f.roomy [
      | inl r ↦ absurd (omega (arith, r.0))
      | inr r ↦ (first ∷ second ∷ third ∷ [], refl, longest_word bounded most room first second third small below is (first_parts bounded most room first h).deep r.0 lt r.1)
    ]

-- octets are wanting after the first, or after the second
pub first_short : (most : ℕ) (room : Room) (first : ℕ) → first < 256 → first_fits bounded most room first ≡ true → first % 32 ≡ 31 → Failed (Names most room) (first ∷ []) faults.Short
first_short most room first small h is =
    let f = first_parts bounded most room first h in (
      31,
      [],
      named (is_built first) (tag (first / 64) 31),
      longer_word bounded most room first 31 small is f.deep (omega arith) (omega arith) (elim f.roomy [ inl r ↦ r.1 | inr r ↦ absurd (r.0 is) ]),
    )

pub second_short : (most : ℕ) (room : Room) (first second : ℕ) → first < 256 → second < 256 → first_fits bounded most room first ≡ true → first % 32 ≡ 31
    → second_fits bounded room second ≡ true → 128 ≤ second → Failed (Names most room) (first ∷ second ∷ []) faults.Short
second_short most room first second small below h is g le =
    let f = second_parts bounded room second g in
    elim f.roomy [
      | inl r ↦ absurd (omega (arith, r.0))
      | inr r ↦ (
        0,
        [],
        named (is_built first) (tag (first / 64) (128 * (second - 128) + 0)),
        longest_word bounded most room first second 0 small below is (first_parts bounded most room first h).deep r.0 (omega arith) r.1,
      )
    ]

-- an identifier's octets are octets
first_below : (constructed : Bool) (class low : ℕ) → class ≤ 3 → low < 32 → first_octet constructed class low < 256
first_below true class low le lt = omega arith
first_below false class low le lt = omega arith

pub first_large : (most : ℕ) (room : Room) (first : ℕ) (l : Limits) → 256 ≤ first → Ruled (Names most room) l (first ∷ [])
first_large most room first l large word after rest name (same, fits, deep, roomy) e =
    elim (name_cases name word after (first ∷ rest) same e) [
      | inl s ↦ omega (arith, large, s.first_is, first_below name.constructed name.tag.class name.tag.number fits.class_within (omega (arith, s.low)))
      | inr others ↦ elim others [
        | inl s ↦ omega (arith, large, s.first_is, first_below name.constructed name.tag.class 31 fits.class_within (omega arith))
        | inr s ↦ omega (arith, large, s.first_is, first_below name.constructed name.tag.class 31 fits.class_within (omega arith))
      ]
    ]

pub second_large : (most : ℕ) (room : Room) (first second : ℕ) (l : Limits) → first % 32 ≡ 31 → 256 ≤ second → Ruled (Names most room) l (first ∷ second ∷ [])
second_large most room first second l is large word after rest name (same, fits, deep, roomy) e =
    elim (name_cases name word after (first ∷ second ∷ rest) same e) [
      | inl s ↦
          let low : first % 32 ≡ name.tag.number = ap (λ n. n % 32) s.first_is ∙ low-first name.constructed name.tag.class name.tag.number (omega (arith, s.low)) in
          omega (arith, s.low, low, is)
      | inr others ↦ elim others [
        | inl s ↦ omega (arith, large, s.low, s.second_is)
        | inr s ↦ let at = s.second_is in let within = fits.number_within in omega arith
      ]
    ]
