-- The plain program finds the reading.
use Rattle.std.proofs.Common.{◌≡◌, ◌≢◌, ℕ, zero, suc, ◌+◌, ◌-◌, ◌*◌, ◌%◌, ◌<◌, ◌≤◌, Bool, true, false, cond, List, [], ◌∷◌, ◌++◌, length, take, drop, refl, ap, sym, subst, arith, length-append, nat_eq, nat_lt, inl, inr, ◌⊎◌}
use Rattle.std.specs.Prelude.{Option, Some, None, Ok, Err, ◌&&◌}
use Rattle.std.proofs.lemmas.Bool.{cases_lt, and_parts, and_cases, both_ways, ltb-true, ltb-false, lt-ltb, eqb-true, eqb-false, ltb-true}
use Rattle.vf_ber.specs.declared.fault.Fault.{Fault}
use Rattle.vf_ber.specs.declared.fault.Fault.TheVariants as faults
use Rattle.vf_ber.specs.declared.room.Room.{Room}
use Rattle.vf_ber.specs.declared.room.Room.TheVariants.{Exact, Within}
use Rattle.vf_ber.specs.Tree.{Tag, Tree, plain, built, Trees, none, more}
use Rattle.vf_ber.specs.Reading.{Limits, free, shallow, bounded, IsReading}
use Rattle.vf_ber.specs.Steps.{Language, Name, Names, Sizes, Digits, Contents, Values, Parts, Ended, Open, Ruled, Got, Failed, Judged, fault_of, first_fits, second_fits, reaches, length_fits, size_fits, fits, is_roomy, has_depth, less}
use Rattle.vf_ber.specs.Reader.{Reads, then_read, checked, name_from, third_at, second_at, name_at, digits_at, size_at, Reader, parts_at, end_at, ended_at, contents_at, value_at, as_reading, reading}
use Rattle.vf_ber.proofs.Chains.{Chain, Tells, tail_got, tail_failed, test_failed}
use Rattle.vf_ber.proofs.Fits.{shallow_zero}
use Rattle.vf_ber.proofs.NameSteps as names
use Rattle.vf_ber.proofs.ReaderSteps.{value_got, name_failed, size_failed, contents_failed, plain_got, plain_short, contents_plain, contents_wanting, parts_got, parts_failed, ended_got, ended_failed, name_facts, size_facts, open_room, parts_room, PartsSoFar, parts_start, parts_next, part_failed, parts_short, EndedSoFar, ended_start, ended_next, other_failed, ended_short, ended_end, ended_wrong}
use Rattle.vf_ber.proofs.SizeSteps as sizes
use Rattle.vf_ber.proofs.OneTree.{spelling_long}
use Rattle.vf_ber.proofs.Readings.{spelling_from, none_short, whole_read, bad_reading, deep_reading, long_reading}

abbrev pub IsReal : Fault → Type 0
IsReal faults.Short = Unit {0}
IsReal (faults.Bad left) = Unit {0}
IsReal (faults.Deep left) = Unit {0}
IsReal (faults.Long left) = Unit {0}
IsReal faults.NoMemory = ⊥

-- what is answered on octets, memory aside
abbrev pub Answers : {X : Type 0} → Language X → List ℕ → Reads X → Type 0
Answers L octets (Ok x) = Got L octets x.0 x.1
Answers L octets (Err fault) = Failed L octets fault × IsReal fault

-- ---- an octet that is tested

judged : (test : Limits → Bool) (left : ℕ) (a b : Bool) → test free ≡ a → test shallow ≡ b → test bounded ≡ false → Judged test left (fault_of a b left)
judged test left false b p q r = (refl, p)
judged test left true false p q r = (refl, p, q)
judged test left true true p q r = (refl, q, r)

real : (a b : Bool) (left : ℕ) → IsReal (fault_of a b left)
real false b left = tt
real true false left = tt
real true true left = tt

checked_answers : {X : Type 0} (L : Language X) (octets prefix rest : List ℕ) (octet : ℕ) (test : Limits → Bool) (next : Reads X) → octets ≡ prefix ++ (octet ∷ rest)
    → (prefix ≡ []) ⊎ Open L bounded prefix → Tells L (prefix ++ (octet ∷ [])) test → (test bounded ≡ true → Answers L octets next) → Answers L octets (checked test (octet ∷ rest) next)
checked_answers L octets prefix rest octet test next is before tells passes = by (test bounded) refl
  where
    left : ℕ
    left = length (octet ∷ rest)

    by : (b : Bool) → test bounded ≡ b → Answers L octets (cond b next (Err (fault_of (test free) (test shallow) (length (octet ∷ rest)))))
    by true e = passes e
    by false e = (
      test_failed L octets prefix rest octet (length (octet ∷ rest)) test (fault_of (test free) (test shallow) (length (octet ∷ rest))) is refl before tells
          (judged test (length (octet ∷ rest)) (test free) (test shallow) refl refl e),
      real (test free) (test shallow) (length (octet ∷ rest)),
    )

small_tells : {X : Type 0} (L : Language X) (upto : List ℕ) (octet : ℕ) (test : Limits → Bool) → (octet < 256 → Tells L upto test) → ((l : Limits) → 256 ≤ octet → Ruled L l upto)
    → Tells L upto (λ l. nat_lt octet 256 && test l)
small_tells L upto octet test small large = record { opens = opens; rules = rules }
  where
    opens : (l : Limits) → (nat_lt octet 256 && test l) ≡ true → Open L l upto
    opens l h = let p = and_parts (nat_lt octet 256) (test l) h in (small (ltb-true octet 256 p.0)).opens l p.1

    rules : (l : Limits) → (nat_lt octet 256 && test l) ≡ false → Ruled L l upto
    rules l h =
        elim (cases_lt octet 256) [
          | inl lt ↦ elim (and_cases (nat_lt octet 256) (test l) h) [ inl n ↦ absurd (both_ways (nat_lt octet 256) n (lt-ltb octet 256 lt)) | inr n ↦ (small lt).rules l n ]
          | inr ge ↦ large l ge
        ]

-- ---- identifiers

third_answers : (most : ℕ) (room : Room) (first second : ℕ) (octets : List ℕ) → first < 256 → second < 256 → first_fits bounded most room first ≡ true → first % 32 ≡ 31
    → second_fits bounded room second ≡ true → 128 ≤ second → Answers (Names most room) (first ∷ second ∷ octets) (third_at first second octets)
third_answers most room first second [] small below h is g far = (names.second_short most room first second small below h is g far, tt)
third_answers most room first second (third ∷ octets) small below h is g far = by (nat_lt third 128) refl
  where
    by : (b : Bool) → nat_lt third 128 ≡ b
        → Answers (Names most room) (first ∷ second ∷ third ∷ octets) (cond b (Ok (name_from first (128 * (second - 128) + third), octets)) (Err (faults.Bad (length (third ∷ octets)))))
    by true e = names.got_longest most room first second third octets small below h is g far (ltb-true third 128 e)
    by false e = (
      record {
        prefix = first ∷ second ∷ [];
        octet = third;
        rest = octets;
        parts = refl;
        left_is = refl;
        before = inr ((names.second_tells most room first second small below is (names.first_parts bounded most room first h).deep).opens bounded g);
        after = names.third_rules most room first second third free is far (ltb-false third 128 e);
      },
      tt,
    )

second_answers : (most : ℕ) (room : Room) (first : ℕ) (octets : List ℕ) → first < 256 → first_fits bounded most room first ≡ true → first % 32 ≡ 31
    → Answers (Names most room) (first ∷ octets) (second_at room first octets)
second_answers most room first [] small h is = (names.first_short most room first small h is, tt)
second_answers most room first (second ∷ octets) small h is =
    checked_answers (Names most room) (first ∷ second ∷ octets) (first ∷ []) octets second (λ l. nat_lt second 256 && second_fits l room second) _ refl
    (inr ((names.first_tells most room first small).opens bounded h))
    (small_tells (Names most room) (first ∷ second ∷ []) second (λ l. second_fits l room second) (λ below. names.second_tells most room first second small below is deep)
    (λ l large. names.second_large most room first second l is large))
    passes
  where
    deep : has_depth bounded most ≡ true
    deep = (names.first_parts bounded most room first h).deep

    by : (b : Bool) → nat_lt second 128 ≡ b → second < 256 → second_fits bounded room second ≡ true
        → Answers (Names most room) (first ∷ second ∷ octets) (cond b (Ok (name_from first second, octets)) (third_at first second octets))
    by true e below g = names.got_longer most room first second octets small h is g (ltb-true second 128 e)
    by false e below g = third_answers most room first second octets small below h is g (ltb-false second 128 e)

    passes : (nat_lt second 256 && second_fits bounded room second) ≡ true
        → Answers (Names most room) (first ∷ second ∷ octets) (cond (nat_lt second 128) (Ok (name_from first second, octets)) (third_at first second octets))
    passes p = let q = and_parts (nat_lt second 256) (second_fits bounded room second) p in by (nat_lt second 128) refl (ltb-true second 256 q.0) q.1

name_answers : (most : ℕ) (room : Room) (first : ℕ) (octets : List ℕ) → Answers (Names most room) (first ∷ octets) (name_at most room (first ∷ octets))
name_answers most room first octets =
    checked_answers (Names most room) (first ∷ octets) [] octets first (λ l. nat_lt first 256 && first_fits l most room first) _ refl (inl refl)
    (small_tells (Names most room) (first ∷ []) first (λ l. first_fits l most room first) (λ small. names.first_tells most room first small) (λ l large. names.first_large most room first l large))
    passes
  where
    by : (b : Bool) → nat_lt (first % 32) 31 ≡ b → first < 256 → first_fits bounded most room first ≡ true
        → Answers (Names most room) (first ∷ octets) (cond b (Ok (name_from first (first % 32), octets)) (second_at room first octets))
    by true e small h = names.got_short most room first octets small h (ltb-true (first % 32) 31 e)
    by false e small h = let far = ltb-false (first % 32) 31 e in second_answers most room first octets small h (omega arith)

    passes : (nat_lt first 256 && first_fits bounded most room first) ≡ true
        → Answers (Names most room) (first ∷ octets) (cond (nat_lt (first % 32) 31) (Ok (name_from first (first % 32), octets)) (second_at room first octets))
    passes p = let q = and_parts (nat_lt first 256) (first_fits bounded most room first) p in by (nat_lt (first % 32) 31) refl (ltb-true first 256 q.0) q.1

-- ---- lengths

digit_passed : (most : ℕ) (room : Room) (prefix : ℕ) (constructed : Bool) (others high digit : ℕ) (octets : List ℕ) (r : Reads ℕ) → digit < 256
    → reaches bounded most room prefix constructed others (256 * high + digit) ≡ true → Answers (Digits most room prefix constructed others (256 * high + digit)) octets r
    → Answers (Digits most room prefix constructed (suc others) high) (digit ∷ octets) r
digit_passed most room prefix constructed others high digit octets r small h answers = by r answers
  where
    chain : Chain (sizes.OneDigit most room prefix constructed (suc others - 1) high) (λ d a. Digits most room prefix constructed (suc others - 1) (256 * high + d)) (Digits most room prefix constructed (suc others) high) (λ d n. n)
    chain = sizes.digit_chain most room prefix constructed (suc others) high (omega arith)

    same : others ≡ suc others - 1
    same = omega arith

    begun : reaches bounded most room prefix constructed (suc others - 1) (256 * high + digit) ≡ true
    begun = subst (λ (k : ℕ). reaches bounded most room prefix constructed k (256 * high + digit) ≡ true) same h

    by : (r : Reads ℕ) → Answers (Digits most room prefix constructed others (256 * high + digit)) octets r → Answers (Digits most room prefix constructed (suc others) high) (digit ∷ octets) r
    by (Ok x) g =
        tail_got _ _ _ _ chain (digit ∷ octets) octets x.1 (digit ∷ []) digit x.0 refl (refl, small, begun)
        (subst (λ (k : ℕ). Got (Digits most room prefix constructed k (256 * high + digit)) octets x.0 x.1) same g)
    by (Err fault) (f, is_real) = (
      tail_failed _ _ _ _ chain (digit ∷ octets) octets (digit ∷ []) digit fault refl (refl, small, begun)
          (subst (λ (k : ℕ). Failed (Digits most room prefix constructed k (256 * high + digit)) octets fault) same f),
      is_real,
    )

digits_answers : (most : ℕ) (room : Room) (prefix : ℕ) (constructed : Bool) (others high : ℕ) (octets : List ℕ) → reaches bounded most room prefix constructed others high ≡ true
    → Answers (Digits most room prefix constructed others high) octets (digits_at most room prefix constructed others high octets)
unfolding digits_at
digits_answers most room prefix constructed zero high octets h = sizes.no_digits most room prefix constructed 0 high octets refl h
digits_answers most room prefix constructed (suc others) high [] h = (sizes.digits_short most room prefix constructed (suc others) high (omega arith) h, tt)
digits_answers most room prefix constructed (suc others) high (digit ∷ octets) h =
    let same : suc others - 1 ≡ others = omega arith in
    let test = λ (l : Limits). reaches l most room prefix constructed others (256 * high + digit) in
    checked_answers (Digits most room prefix constructed (suc others) high) (digit ∷ octets) [] octets digit (λ l. nat_lt digit 256 && test l) _ refl (inl refl)
    (small_tells (Digits most room prefix constructed (suc others) high) (digit ∷ []) digit test
    (λ small. subst (λ (k : ℕ). Tells (Digits most room prefix constructed (suc others) high) (digit ∷ []) (λ l. reaches l most room prefix constructed k (256 * high + digit))) same
    (sizes.digit_tells most room prefix constructed (suc others) high digit (omega arith) small))
    (λ l large. sizes.digit_large most room prefix constructed others high digit l large))
    (λ p.
    let q = and_parts (nat_lt digit 256) (test bounded) p in
    digit_passed most room prefix constructed others high digit octets (digits_at most room prefix constructed others (256 * high + digit) octets) (ltb-true digit 256 q.0) q.1
    (digits_answers most room prefix constructed others (256 * high + digit) octets q.1))

size_answers : (most : ℕ) (room : Room) (prefix : ℕ) (constructed : Bool) (octets : List ℕ) → is_roomy bounded room (prefix + 1) ≡ true
    → Answers (Sizes most room prefix constructed) octets (size_at most room prefix constructed octets)
size_answers most room prefix constructed [] roomy = let s = sizes.sizes_some bounded most room prefix constructed roomy in ((s.0, s.1, Some 0, s.2), tt)
size_answers most room prefix constructed (first ∷ octets) roomy =
    checked_answers (Sizes most room prefix constructed) (first ∷ octets) [] octets first (λ l. length_fits l most room prefix constructed first) _ refl (inl refl)
    (sizes.length_tells most room prefix constructed first) (λ h. by (nat_lt first 128) (nat_eq first 128) refl refl h)
  where
    long : (r : Reads ℕ) → length_fits bounded most room prefix constructed first ≡ true → 128 < first → Answers (Digits most room (prefix + 1 + (first - 128)) constructed (first - 128) 0) octets r
        → Answers (Sizes most room prefix constructed) (first ∷ octets) (then_read r (λ n rest. Ok (Some n, rest)))
    long (Ok x) h far g = sizes.got_long most room prefix constructed first x.0 octets x.1 h far g
    long (Err fault) h far (f, is_real) = (sizes.long_failed most room prefix constructed first octets fault h far f, is_real)

    by : (b c : Bool) → nat_lt first 128 ≡ b → nat_eq first 128 ≡ c → length_fits bounded most room prefix constructed first ≡ true
        → Answers (Sizes most room prefix constructed) (first ∷ octets)
        (cond b (Ok (Some first, octets)) (cond c (Ok (None, octets))
        (then_read (digits_at most room (prefix + 1 + (first - 128)) constructed (first - 128) 0 octets) (λ n rest. Ok (Some n, rest)))))
    by true c p q h = sizes.got_short most room prefix constructed first octets h (ltb-true first 128 p)
    by false true p q h = sizes.got_open most room prefix constructed first octets h (eqb-true first 128 q)
    by false false p q h =
        let le = ltb-false first 128 p in
        let other = eqb-false first 128 q in
        let far : 128 < first = omega arith in
        long (digits_at most room (prefix + 1 + (first - 128)) constructed (first - 128) 0 octets) h far
        (digits_answers most room (prefix + 1 + (first - 128)) constructed (first - 128) 0 octets (sizes.long_parts bounded most room prefix constructed first far h).1)

-- ---- values in turn

abbrev pub IsReader : ℕ → Reader → Type 0
IsReader most value = (room : Room) (first : ℕ) (octets : List ℕ) → Answers (Values most room) (first ∷ octets) (value room (first ∷ octets))

part_passed : (most len turns first : ℕ) (octets : List ℕ) (value : Reader) (r : Reads Tree) → 0 < len → len ≤ suc turns → len ≢ 1 → (0 < len → 0 < most)
    → ((left : ℕ) (rest : List ℕ) → left ≤ turns → left ≢ 1 → (0 < left → 0 < most) → Answers (Parts most left) rest (parts_at value turns left rest))
    → Answers (Values most (Exact len)) (first ∷ octets) r
    → Answers (Parts most len) (first ∷ octets)
    (then_read r (λ part rest. then_read (parts_at value turns (len - (length (first ∷ octets) - length rest)) rest) (λ parts tail. Ok (more part parts, tail))))
part_passed most len turns first octets value (Err fault) begun enough some deep again (f, is_real) =
    (part_failed most len len (first ∷ octets) (first ∷ octets) none fault begun (parts_start most len (first ∷ octets) some deep) f, is_real)
part_passed most len turns first octets value (Ok x) begun enough some deep again (word, is, v) =
    let left = len - (length (first ∷ octets) - length x.1) in
    let so_far = parts_next most len len left (first ∷ octets) (first ∷ octets) x.1 none (more x.0 none) x.0 begun (parts_start most len (first ∷ octets) some deep) (word, is, v) refl refl in
    let shorter : left ≤ turns = omega (arith, ap length is, length-append word x.1, spelling_long word x.0 v.0) in
    by (parts_at value turns left x.1) so_far (again left x.1 shorter so_far.some so_far.deep)
  where
    by : {left : ℕ} {part : Tree} {rest : List ℕ} (r : Reads Trees) → PartsSoFar most len left (first ∷ octets) rest (more part none) → Answers (Parts most left) rest r
        → Answers (Parts most len) (first ∷ octets) (then_read r (λ parts tail. Ok (more part parts, tail)))
    by (Ok y) so_far g = so_far.got y.0 y.1 g
    by (Err fault) so_far (f, is_real) = (so_far.failed fault f, is_real)

parts_answers : (most : ℕ) (value : Reader) → IsReader most value → (turns len : ℕ) (octets : List ℕ) → len ≤ turns → len ≢ 1 → (0 < len → 0 < most) → Answers (Parts most len) octets (parts_at value turns len octets)
unfolding parts_at
parts_answers most value reads turns zero octets enough some deep = ([], refl, (refl, shallow_zero bounded most, refl))
parts_answers most value reads zero (suc len) octets enough some deep = absurd (omega arith)
parts_answers most value reads (suc turns) (suc len) [] enough some deep =
    (parts_short most (suc len) (suc len) [] [] none (omega arith) refl (parts_start most (suc len) [] some deep), tt)
parts_answers most value reads (suc turns) (suc len) (first ∷ octets) enough some deep =
    part_passed most (suc len) turns first octets value (value (Exact (suc len)) (first ∷ octets)) (omega arith) enough some deep
    (λ left rest le ne d. parts_answers most value reads turns left rest le ne d) (reads (Exact (suc len)) first octets)

-- ---- values up to the end of contents

end_answers : (most : ℕ) (room : Room) (octets : List ℕ) → fits bounded room 2 ≡ true → Answers (Ended most room) (0 ∷ octets) (end_at octets)
end_answers most room [] roomy = (ended_wrong most room room (0 ∷ []) (0 ∷ []) [] none faults.Short refl refl (ended_start most room (0 ∷ []) roomy), tt)
end_answers most room (second ∷ octets) roomy = by (nat_eq second 0) refl
  where
    start : EndedSoFar most room room (0 ∷ second ∷ octets) (0 ∷ second ∷ octets) none
    start = ended_start most room (0 ∷ second ∷ octets) roomy

    by : (b : Bool) → nat_eq second 0 ≡ b → Answers (Ended most room) (0 ∷ second ∷ octets) (cond b (Ok (none, octets)) (Err (faults.Bad (length (second ∷ octets)))))
    by true e = ended_end most room room (0 ∷ second ∷ octets) (0 ∷ second ∷ octets) (second ∷ octets) octets none refl (ap (λ o. o ∷ octets) (eqb-true second 0 e)) start
    by false e =
        let other = eqb-false second 0 e in
        let above : 0 < second = omega arith in
        (ended_wrong most room room (0 ∷ second ∷ octets) (0 ∷ second ∷ octets) (second ∷ octets) none (faults.Bad (length (second ∷ octets))) refl (second, octets, refl, above, refl) start, tt)

other_passed : (most : ℕ) (room : Room) (turns first : ℕ) (octets : List ℕ) (value : Reader) (r : Reads Tree) → 0 < first → length octets ≤ turns → fits bounded room 2 ≡ true
    → ((left : Room) (rest : List ℕ) → length rest ≤ turns → fits bounded left 2 ≡ true → Answers (Ended most left) rest (ended_at value turns left rest))
    → Answers (Values most (less room 2)) (first ∷ octets) r
    → Answers (Ended most room) (first ∷ octets)
    (then_read r (λ part rest. then_read (ended_at value turns (less room (length (first ∷ octets) - length rest)) rest) (λ parts tail. Ok (more part parts, tail))))
other_passed most room turns first octets value (Err fault) above enough roomy again (f, is_real) =
    (other_failed most first room room (first ∷ octets) (first ∷ octets) octets none fault above refl (ended_start most room (first ∷ octets) roomy) f, is_real)
other_passed most room turns first octets value (Ok x) above enough roomy again (word, is, v) =
    let left = less room (length (first ∷ octets) - length x.1) in
    let so_far = ended_next most first room room left (first ∷ octets) (first ∷ octets) octets x.1 none (more x.0 none) x.0 above refl (ended_start most room (first ∷ octets) roomy) (word, is, v) refl refl in
    let shorter : length x.1 ≤ turns = omega (arith, ap length is, length-append word x.1, spelling_long word x.0 v.0) in
    by (ended_at value turns left x.1) so_far (again left x.1 shorter so_far.roomy)
  where
    by : {left : Room} {part : Tree} {rest : List ℕ} (r : Reads Trees) → EndedSoFar most room left (first ∷ octets) rest (more part none) → Answers (Ended most left) rest r
        → Answers (Ended most room) (first ∷ octets) (then_read r (λ parts tail. Ok (more part parts, tail)))
    by (Ok y) so_far g = so_far.got y.0 y.1 g
    by (Err fault) so_far (f, is_real) = (so_far.failed fault f, is_real)

ended_answers : (most : ℕ) (value : Reader) → IsReader most value → (turns : ℕ) (room : Room) (octets : List ℕ) → length octets ≤ turns → fits bounded room 2 ≡ true
    → Answers (Ended most room) octets (ended_at value turns room octets)
unfolding ended_at
ended_answers most value reads turns room [] enough roomy = (ended_short most room room [] [] none refl (ended_start most room [] roomy), tt)
ended_answers most value reads zero room (first ∷ octets) enough roomy = absurd (omega arith)
ended_answers most value reads (suc turns) room (first ∷ octets) enough roomy =
    by (nat_eq first 0) refl (λ left rest le f. ended_answers most value reads turns left rest le f)
  where
    by : (b : Bool) → nat_eq first 0 ≡ b
        → ((left : Room) (rest : List ℕ) → length rest ≤ turns → fits bounded left 2 ≡ true → Answers (Ended most left) rest (ended_at value turns left rest))
        → Answers (Ended most room) (first ∷ octets)
        (cond b (end_at octets) (then_read (value (less room 2) (first ∷ octets))
        (λ part rest. then_read (ended_at value turns (less room (length (first ∷ octets) - length rest)) rest) (λ parts tail. Ok (more part parts, tail)))))
    by true e again = subst (λ (o : ℕ). Answers (Ended most room) (o ∷ octets) (end_at octets)) (sym (eqb-true first 0 e)) (end_answers most room octets roomy)
    by false e again =
        let other = eqb-false first 0 e in
        other_passed most room turns first octets value (value (less room 2) (first ∷ octets)) (omega arith) (omega arith) roomy again (reads (less room 2) first octets)

-- ---- contents

parts_contents : (most : ℕ) (room : Room) (prefix : ℕ) (t : Tag) (c : Bool) (n : ℕ) (octets : List ℕ) (r : Reads Trees) → c ≡ true → Answers (Parts (most - 1) n) octets r
    → Answers (Contents most room prefix (record { constructed = c; tag = t }) (Some n)) octets (then_read r (λ parts rest. Ok (built t parts, rest)))
parts_contents most room prefix t c n octets (Ok x) e g = parts_got most room prefix t c n octets x.1 x.0 e g
parts_contents most room prefix t c n octets (Err fault) e (f, is_real) = (parts_failed most room prefix t c n octets fault e f, is_real)

ended_contents : (most : ℕ) (room : Room) (prefix : ℕ) (t : Tag) (c : Bool) (octets : List ℕ) (r : Reads Trees) → c ≡ true → Answers (Ended (most - 1) (less room prefix)) octets r
    → Answers (Contents most room prefix (record { constructed = c; tag = t }) None) octets (then_read r (λ parts rest. Ok (built t parts, rest)))
ended_contents most room prefix t c octets (Ok x) e g = ended_got most room prefix t c octets x.1 x.0 e g
ended_contents most room prefix t c octets (Err fault) e (f, is_real) = (ended_failed most room prefix t c octets fault e f, is_real)

plain_contents : (most : ℕ) (room : Room) (prefix : ℕ) (t : Tag) (n : ℕ) (octets : List ℕ) (b : Bool) → nat_lt (length octets) n ≡ b
    → Answers (Contents most room prefix (record { constructed = false; tag = t }) (Some n)) octets (cond b (Err faults.Short) (Ok (plain t (take n octets), drop n octets)))
plain_contents most room prefix t n octets true e = (contents_wanting most room prefix t false n octets faults.Short refl (plain_short t n octets (ltb-true (length octets) n e)), tt)
plain_contents most room prefix t n octets false e =
    contents_plain most room prefix t false n octets (drop n octets) (plain t (take n octets)) refl (plain_got t n octets (take n octets) (drop n octets) (ltb-false (length octets) n e) refl refl)

contents_answers : (most : ℕ) (inner : Reader) (room : Room) (prefix : ℕ) (t : Tag) (c : Bool) (size : Option ℕ) (octets : List ℕ) → IsReader (most - 1) inner
    → size_fits bounded most room prefix c size ≡ true
    → Answers (Contents most room prefix (record { constructed = c; tag = t }) size) octets (contents_at inner room prefix (record { constructed = c; tag = t }) size octets)
contents_answers most inner room prefix t c None octets reads h =
    let open_is = open_room most room prefix c h in
    ended_contents most room prefix t c octets (ended_at inner (length octets) (less room prefix) octets) open_is.0
    (ended_answers (most - 1) inner reads (length octets) (less room prefix) octets (omega arith) open_is.1)
contents_answers most inner room prefix t true (Some n) octets reads h =
    let some = parts_room most room prefix true n refl h in
    parts_contents most room prefix t true n octets (parts_at inner n n octets) refl (parts_answers (most - 1) inner reads n n octets (omega arith) some.0 some.1)
contents_answers most inner room prefix t false (Some n) octets reads h = plain_contents most room prefix t n octets (nat_lt (length octets) n) refl

-- ---- a value

name_then : (most : ℕ) (inner : Reader) (room : Room) (octets : List ℕ) (r : Reads Name) → (has_depth bounded most ≡ true → IsReader (most - 1) inner) → Answers (Names most room) octets r
    → Answers (Values most room) octets
    (then_read r (λ name rest. then_read (size_at most room (length octets - length rest) name.constructed rest) (λ size contents.
    contents_at inner room (length octets - length contents) name size contents)))
name_then most inner room octets (Err fault) reads (f, is_real) = (name_failed most room octets fault f, is_real)
name_then most inner room octets (Ok x) reads g =
    let facts = name_facts most room octets x.1 x.0 (length octets - length x.1) g refl in
    by (size_at most room (length octets - length x.1) x.0.constructed x.1) (size_answers most room (length octets - length x.1) x.0.constructed x.1 facts.2)
  where
    last : (size : Option ℕ) (contents : List ℕ) (r : Reads Tree) → Got (Sizes most room (length octets - length x.1) x.0.constructed) x.1 size contents
        → Answers (Contents most room (length octets - length contents) x.0 size) contents r → Answers (Values most room) octets r
    last size contents (Ok y) s c = value_got most room octets x.1 contents y.1 x.0 size y.0 (length octets - length x.1) (length octets - length contents) g refl s refl c
    last size contents (Err fault) s (f, is_real) = (contents_failed most room octets x.1 contents x.0 size (length octets - length x.1) (length octets - length contents) fault g refl s refl f, is_real)

    by : (r : Reads (Option ℕ)) → Answers (Sizes most room (length octets - length x.1) x.0.constructed) x.1 r
        → Answers (Values most room) octets (then_read r (λ size contents. contents_at inner room (length octets - length contents) x.0 size contents))
    by (Err fault) (f, is_real) = (size_failed most room octets x.1 x.0 (length octets - length x.1) fault g refl f, is_real)
    by (Ok y) s =
        let named = name_facts most room octets x.1 x.0 (length octets - length x.1) g refl in
        let sized = size_facts most room octets x.1 y.1 x.0 y.0 (length octets - length x.1) (length octets - length y.1) g refl s refl in
        last y.0 y.1 (contents_at inner room (length octets - length y.1) x.0 y.0 y.1) s
        (contents_answers most inner room (length octets - length y.1) x.0.tag x.0.constructed y.0 y.1 (reads named.1) sized.1)

pub value_answers : (most : ℕ) → IsReader most (value_at most)
unfolding value_at
value_answers zero room first octets =
    name_then zero (λ inside others. Err faults.Short) room (first ∷ octets) (name_at zero room (first ∷ octets)) (λ h. absurd cc) (name_answers zero room first octets)
value_answers (suc most) room first octets =
    let same : most ≡ suc most - 1 = omega arith in
    name_then (suc most) (value_at most) room (first ∷ octets) (name_at (suc most) room (first ∷ octets))
    (λ h. subst (λ (k : ℕ). IsReader k (value_at most)) same (value_answers most)) (name_answers (suc most) room first octets)

-- ---- all octets

found : (octets : List ℕ) (r : Reads Tree) → Answers (Values 32 (Within 1048576)) octets r → IsReading octets (as_reading octets r)
found octets (Ok x) g = (whole_read octets x.1 x.0 g).1
found octets (Err faults.Short) ((next, rest, tree, v), is_real) = (next, rest, tree, spelling_from bounded (octets ++ (next ∷ rest)) tree v)
found octets (Err (faults.Bad left)) (f, is_real) = (bad_reading octets left f).2
found octets (Err (faults.Deep left)) (f, is_real) = (deep_reading octets left f).2
found octets (Err (faults.Long left)) (f, is_real) = (long_reading octets left f).2
found octets (Err faults.NoMemory) (f, is_real) = absurd is_real

pub reading_found : (octets : List ℕ) → IsReading octets (reading octets)
unfolding reading value_at
reading_found [] = none_short
reading_found (first ∷ octets) = found (first ∷ octets) (value_at 32 (Within 1048576) (first ∷ octets)) (value_answers 32 (Within 1048576) first octets)
