-- Octets have one reading, and what the reader answers is this one.
use Rattle.std.proofs.Common.{◌≡◌, ℕ, zero, suc, ◌+◌, ◌-◌, ◌<◌, ◌≤◌, List, [], ◌∷◌, ◌++◌, length, take, drop, refl, ap, sym, subst, ◌∙◌, arith, append_assoc, length-append, inl, inr}
use Rattle.std.proofs.lemmas.Bool.{cases_lt, cases_order, le-leb, leb-true}
use Rattle.std.proofs.lemmas.List.{take-append-drop, take_at, length-take-le, append-nil}
use Rattle.vf_ber.specs.declared.room.Room.TheVariants.{Within}
use Rattle.vf_ber.specs.Tree.{Tree, plain, depth}
use Rattle.vf_ber.specs.Spelling.{spell}
use Rattle.vf_ber.specs.Laws.{HasOneReading, IsPrefixFree, SpellsOne, IsReadAgain}
use Rattle.vf_ber.specs.Steps.{Values, Open, Ruled, Got, FaultAt}
use Rattle.vf_ber.specs.Reading.{Limits, free, shallow, bounded, IsSpelling, Begins, IsFirstFault, Read, Short, Bad, Deep, Long, IsReading}
use Rattle.vf_ber.proofs.Canonical.{canonical}
use Rattle.vf_ber.proofs.OneTree.{one_tree, one_spelling}

-- ---- laws of spellings

pub prefix_free : IsPrefixFree
prefix_free octets rest a b at_a at_b = (one_tree a b octets (octets ++ rest) rest [] at_a at_b (sym (append-nil (octets ++ rest)))).1

pub spells_one : SpellsOne
spells_one octets a b at_a at_b = (one_tree a b octets octets [] [] at_a at_b refl).0

-- ---- one reading

begins_free : (octets : List ℕ) → Begins shallow octets → Begins free octets
begins_free octets (rest, tree, (spelled, within)) = (rest, tree, (spelled, tt))

-- what begins with some octets, begins with fewer of them
pub begins_less : (l : Limits) (octets : List ℕ) (k : ℕ) → Begins l octets → Begins l (take k octets)
begins_less l octets k (rest, tree, spelled) =
    (drop k octets ++ rest, tree, subst (λ (o : List ℕ). IsSpelling l o tree) (ap (λ o. o ++ rest) (sym (take-append-drop k octets)) ∙ append_assoc (take k octets) (drop k octets) rest) spelled)

pub take_less : (k m : ℕ) (octets : List ℕ) → k ≤ m → take k (take m octets) ≡ take k octets
take_less zero m octets le = refl
take_less (suc k) zero octets le = absurd (omega arith)
take_less (suc k) (suc m) [] le = refl
take_less (suc k) (suc m) (octet ∷ octets) le = ap (λ o. octet ∷ o) (take_less k m octets (omega arith))

same_reads : (octets : List ℕ) (t u : Tree) (n m : ℕ) → IsReading octets (Read t n) → IsReading octets (Read u m) → (t ≡ u) × (n ≡ m)
same_reads octets t u n m (le, (spelled, within)) (other_le, (other, other_within)) =
    let e : take n octets ++ drop n octets ≡ take m octets ++ drop m octets = take-append-drop n octets ∙ sym (take-append-drop m octets) in
    let same = one_spelling t u (take n octets) (take m octets) (drop n octets) (drop m octets) spelled other e in
    (same.1, sym (length-take-le n octets le) ∙ ap length same.0 ∙ length-take-le m octets other_le)

read_not_short : (octets : List ℕ) (t : Tree) (n : ℕ) → IsReading octets (Read t n) → IsReading octets Short → ⊥
read_not_short octets t n (le, (spelled, within)) (next, rest, u, (other, other_within)) =
    let e : take n octets ++ (drop n octets ++ (next ∷ rest)) ≡ (octets ++ (next ∷ rest)) ++ [] =
    sym (append_assoc (take n octets) (drop n octets) (next ∷ rest)) ∙ ap (λ o. o ++ (next ∷ rest)) (take-append-drop n octets) ∙ sym (append-nil (octets ++ (next ∷ rest))) in
    let none_left = (one_tree t u (take n octets) (octets ++ (next ∷ rest)) (drop n octets ++ (next ∷ rest)) [] spelled other e).1 in
    omega (arith, ap length none_left, length-append (drop n octets) (next ∷ rest))

short_begins : (octets : List ℕ) (k : ℕ) → IsReading octets Short → Begins bounded (take k octets)
short_begins octets k (next, rest, tree, spelled) = begins_less bounded octets k (next ∷ rest, tree, spelled)

not_before : (octets : List ℕ) (at other : ℕ) → IsFirstFault octets at → IsFirstFault octets other → at < other → ⊥
not_before octets at other f g lt =
    f.after (subst (λ (o : List ℕ). Begins bounded o) (take_less (at + 1) other octets (omega arith)) (begins_less bounded (take other octets) (at + 1) g.before))

same_places : (octets : List ℕ) (at other : ℕ) → IsFirstFault octets at → IsFirstFault octets other → at ≡ other
same_places octets at other f g =
    elim (cases_order at other) [
      | inl e ↦ e
      | inr apart ↦ absurd (elim apart [ inl lt ↦ not_before octets at other f g lt | inr gt ↦ not_before octets other at g f gt ])
    ]

pub one_reading : HasOneReading
one_reading octets (Read t n) (Read u m) p q = let s = same_reads octets t u n m p q in ap (λ v. Read v n) s.0 ∙ ap (Read u) s.1
one_reading octets (Read t n) Short p q = absurd (read_not_short octets t n p q)
one_reading octets (Read t n) (Bad at) p q = absurd (q.0.unread n t p.1)
one_reading octets (Read t n) (Deep at) p q = absurd (q.0.unread n t p.1)
one_reading octets (Read t n) (Long at) p q = absurd (q.0.unread n t p.1)
one_reading octets Short (Read t n) p q = absurd (read_not_short octets t n q p)
one_reading octets Short Short p q = refl
one_reading octets Short (Bad at) p q = absurd (q.0.after (short_begins octets (at + 1) p))
one_reading octets Short (Deep at) p q = absurd (q.0.after (short_begins octets (at + 1) p))
one_reading octets Short (Long at) p q = absurd (q.0.after (short_begins octets (at + 1) p))
one_reading octets (Bad at) (Read t n) p q = absurd (p.0.unread n t q.1)
one_reading octets (Bad at) Short p q = absurd (p.0.after (short_begins octets (at + 1) q))
one_reading octets (Bad at) (Bad other) p q = ap Bad (same_places octets at other p.0 q.0)
one_reading octets (Bad at) (Deep other) p q =
    absurd (p.1 (subst (λ (k : ℕ). Begins free (take (k + 1) octets)) (same_places octets other at q.0 p.0) q.1))
one_reading octets (Bad at) (Long other) p q =
    absurd (p.1 (begins_free (take (at + 1) octets) (subst (λ (k : ℕ). Begins shallow (take (k + 1) octets)) (same_places octets other at q.0 p.0) q.1)))
one_reading octets (Deep at) (Read t n) p q = absurd (p.0.unread n t q.1)
one_reading octets (Deep at) Short p q = absurd (p.0.after (short_begins octets (at + 1) q))
one_reading octets (Deep at) (Bad other) p q =
    absurd (q.1 (subst (λ (k : ℕ). Begins free (take (k + 1) octets)) (same_places octets at other p.0 q.0) p.1))
one_reading octets (Deep at) (Deep other) p q = ap Deep (same_places octets at other p.0 q.0)
one_reading octets (Deep at) (Long other) p q =
    absurd (p.2 (subst (λ (k : ℕ). Begins shallow (take (k + 1) octets)) (same_places octets other at q.0 p.0) q.1))
one_reading octets (Long at) (Read t n) p q = absurd (p.0.unread n t q.1)
one_reading octets (Long at) Short p q = absurd (p.0.after (short_begins octets (at + 1) q))
one_reading octets (Long at) (Bad other) p q =
    absurd (q.1 (begins_free (take (other + 1) octets) (subst (λ (k : ℕ). Begins shallow (take (k + 1) octets)) (same_places octets at other p.0 q.0) p.1)))
one_reading octets (Long at) (Deep other) p q =
    absurd (q.2 (subst (λ (k : ℕ). Begins shallow (take (k + 1) octets)) (same_places octets at other p.0 q.0) p.1))
one_reading octets (Long at) (Long other) p q = ap Long (same_places octets at other p.0 q.0)

pub read_again : IsReadAgain
read_again tree rest reading fits small =
    let n = length (spell tree) in
    let short : n ≤ 1048576 = elim (cases_lt 1048576 n) [ inl lt ↦ absurd (small (inr lt)) | inr le ↦ le ] in
    let shallow_tree : depth tree ≤ 32 = elim (cases_lt 32 (depth tree)) [ inl lt ↦ absurd (small (inl lt)) | inr le ↦ le ] in
    let whole : take n (spell tree ++ rest) ≡ spell tree = take_at (spell tree) rest n refl in
    let spelling : IsSpelling bounded (spell tree) tree = (canonical tree fits short, (shallow_tree, short)) in
    let read : IsReading (spell tree ++ rest) (Read tree n) =
    (omega (arith, length-append (spell tree) rest), subst (λ (o : List ℕ). IsSpelling bounded o tree) (sym whole) spelling) in
    (read, λ other. one_reading (spell tree ++ rest) reading (Read tree n) other read)

-- ---- what the reader answers

pub spelling_from : (l : Limits) (octets : List ℕ) (tree : Tree) → Values 32 (Within 1048576) l octets tree → IsSpelling l octets tree
spelling_from free octets tree (spelled, is_shallow, f) = (spelled, tt)
spelling_from shallow octets tree (spelled, is_shallow, f) = (spelled, is_shallow)
spelling_from bounded octets tree (spelled, is_shallow, f) = (spelled, (is_shallow, leb-true (length octets) 1048576 f))

spelling_to : (l : Limits) (octets : List ℕ) (tree : Tree) → IsSpelling l octets tree → Values 32 (Within 1048576) l octets tree
spelling_to free octets tree (spelled, within) = (spelled, tt, refl)
spelling_to shallow octets tree (spelled, within) = (spelled, within, refl)
spelling_to bounded octets tree (spelled, within) = (spelled, within.0, le-leb (length octets) 1048576 within.1)

open_begins : (l : Limits) (octets : List ℕ) → Open (Values 32 (Within 1048576)) l octets → Begins l octets
open_begins l octets (rest, tree, v) = (rest, tree, spelling_from l (octets ++ rest) tree v)

ruled_begins : (l : Limits) (octets : List ℕ) → Ruled (Values 32 (Within 1048576)) l octets → ¬ Begins l octets
ruled_begins l octets ruled (rest, tree, s) = ruled (octets ++ rest) [] rest tree (spelling_to l (octets ++ rest) tree s) (append-nil (octets ++ rest))

ruled_bounded : (l : Limits) (octets : List ℕ) → Ruled (Values 32 (Within 1048576)) l octets → Ruled (Values 32 (Within 1048576)) bounded octets
ruled_bounded free octets ruled word tail rest tree v e = ruled word tail rest tree (v.0, tt, refl) e
ruled_bounded shallow octets ruled word tail rest tree v e = ruled word tail rest tree (v.0, v.1, refl) e
ruled_bounded bounded octets ruled word tail rest tree v e = ruled word tail rest tree v e

a_spelling : IsSpelling bounded (128 ∷ 0 ∷ []) (plain (record { class = 2; number = 0 }) [])
a_spelling = ((record { class_within = omega arith; number_within = omega arith; some_value = omega arith }, (0 ∷ [], inl (refl, omega arith), refl)), (omega arith, omega arith))

pub none_short : IsReading [] Short
none_short = (128, 0 ∷ [], plain (record { class = 2; number = 0 }) [], a_spelling)

pub whole_read : (octets rest : List ℕ) (tree : Tree) → Got (Values 32 (Within 1048576)) octets tree rest
    → (length rest ≤ length octets) × IsReading octets (Read tree (length octets - length rest))
whole_read octets rest tree (word, is, v) =
    let n : length word ≡ length octets - length rest = omega (arith, ap length is, length-append word rest) in
    let prefix : take (length octets - length rest) octets ≡ word = ap (take (length octets - length rest)) is ∙ take_at word rest (length octets - length rest) n in
    (omega (arith, ap length is, length-append word rest), (omega arith, subst (λ (o : List ℕ). IsSpelling bounded o tree) (sym prefix) (spelling_from bounded word tree v)))

pub fault_first : (octets : List ℕ) (left : ℕ) (reason : List ℕ → Type 0) → ((t : List ℕ) → reason t → Ruled (Values 32 (Within 1048576)) bounded t) → FaultAt (Values 32 (Within 1048576)) octets left reason
    → (left ≤ length octets) × (length octets - left ≤ 1048576) × IsFirstFault octets (length octets - left) × reason (take (length octets - left + 1) octets)
fault_first octets left reason to f =
    let at = length octets - left in
    let prefix : List ℕ = f.prefix in
    let upto : List ℕ = f.prefix ++ (f.octet ∷ []) in
    let n : length octets ≡ length prefix + length (f.octet ∷ f.rest) = ap length f.parts ∙ length-append prefix (f.octet ∷ f.rest) in
    let left_is = f.left_is in
    let place : length prefix ≡ at = omega arith in
    let longer : length upto ≡ at + 1 = omega (arith, length-append prefix (f.octet ∷ [])) in
    let apart : octets ≡ upto ++ f.rest = f.parts ∙ sym (append_assoc prefix (f.octet ∷ []) f.rest) in
    let taken : take at octets ≡ prefix = ap (take at) f.parts ∙ take_at prefix (f.octet ∷ f.rest) at place in
    let next : take (at + 1) octets ≡ upto = ap (take (at + 1)) apart ∙ take_at upto f.rest (at + 1) longer in
    let ruled : Ruled (Values 32 (Within 1048576)) bounded upto = to upto f.after in
    let begun : Begins bounded prefix =
    elim f.before [ inl e ↦ subst (λ (o : List ℕ). Begins bounded o) (sym e) (128 ∷ 0 ∷ [], plain (record { class = 2; number = 0 }) [], a_spelling) | inr o ↦ open_begins bounded prefix o ] in
    let short : length (prefix ++ begun.0) ≤ 1048576 = begun.2.1.1 in (
      omega arith,
      omega (arith, short, length-append prefix begun.0),
      record {
        there = omega arith;
        before = subst (λ (o : List ℕ). Begins bounded o) (sym taken) begun;
        after = λ b. ruled_begins bounded upto ruled (subst (λ (o : List ℕ). Begins bounded o) next b);
        unread = λ k tree s. ruled (take k octets) (drop k octets) f.rest tree (spelling_to bounded (take k octets) tree s) (take-append-drop k octets ∙ apart);
      },
      subst reason (sym next) f.after,
    )

pub bad_reading : (octets : List ℕ) (left : ℕ) → FaultAt (Values 32 (Within 1048576)) octets left (Ruled (Values 32 (Within 1048576)) free)
    → (left ≤ length octets) × (length octets - left ≤ 1048576) × IsReading octets (Bad (length octets - left))
bad_reading octets left f =
    let p = fault_first octets left (Ruled (Values 32 (Within 1048576)) free) (ruled_bounded free) f in
    (p.0, p.1, (p.2, ruled_begins free (take (length octets - left + 1) octets) p.3))

pub deep_reading : (octets : List ℕ) (left : ℕ)
    → FaultAt (Values 32 (Within 1048576)) octets left (λ upto. Open (Values 32 (Within 1048576)) free upto × Ruled (Values 32 (Within 1048576)) shallow upto)
    → (left ≤ length octets) × (length octets - left ≤ 1048576) × IsReading octets (Deep (length octets - left))
deep_reading octets left f =
    let p = fault_first octets left (λ upto. Open (Values 32 (Within 1048576)) free upto × Ruled (Values 32 (Within 1048576)) shallow upto) (λ t r. ruled_bounded shallow t r.1) f in
    let upto = take (length octets - left + 1) octets in
    (p.0, p.1, (p.2, open_begins free upto p.3.0, ruled_begins shallow upto p.3.1))

pub long_reading : (octets : List ℕ) (left : ℕ)
    → FaultAt (Values 32 (Within 1048576)) octets left (λ upto. Open (Values 32 (Within 1048576)) shallow upto × Ruled (Values 32 (Within 1048576)) bounded upto)
    → (left ≤ length octets) × (length octets - left ≤ 1048576) × IsReading octets (Long (length octets - left))
long_reading octets left f =
    let p = fault_first octets left (λ upto. Open (Values 32 (Within 1048576)) shallow upto × Ruled (Values 32 (Within 1048576)) bounded upto) (λ t r. r.1) f in
    (p.0, p.1, (p.2, open_begins shallow (take (length octets - left + 1) octets) p.3.0))
