-- Places of octets that a part holds.
use Rattle.std.proofs.Common.{◌≡◌, ℕ, ◌+◌, ◌≤◌, Bool, true, false, List, length, take, drop, refl, ap, sym, ◌∙◌, arith, inl, inr}
use Rattle.std.specs.Prelude.{min, nat_eq, Option, None, Some, Ok, Err, if◌then◌else◌}
use Rattle.std.proofs.lemmas.Bool.{cases_lt}
use Rattle.std.proofs.lemmas.Bool.Decides.{nat_tests}
use Rattle.std.proofs.lemmas.List.{length-take}
use Rattle.vf_ber.specs.Reader.{reading}
use Rattle.vf_ber.specs.Reading.{Reading, Read, Short, Bad, Deep, Long}
use Rattle.vf_upper_grammar.specs.HeldViews.{broken_at}
use Rattle.vf_upper_grammar.specs.Marks.{Mark, Found}
use Rattle.vf_upper_grammar.specs.Parts.{is_constructed, number_of, Part, Text}
use Rattle.vf_upper_grammar.specs.Texts.{explicit_held, explicit_in, Held, held, held_in, is_begun_end, located, place_of, segments, without_end}
use Rattle.vf_upper_grammar.proofs.SegmentTurns.{place-after, place-inside}

-- ---- what is located

found_if : Bool → Found → Found → Found
found_if b x y = if b then x else y

broken-by : (b : Bool) (end place : ℕ) (marks : List Mark) → (if b then Some end else None) ≡ Some place → found_if b (Err end) (Ok marks) ≡ Err place
unfolding found_if
broken-by true end place marks e = let same : end ≡ place = cc in ap {B = Found} Err same
broken-by false end place marks e = absurd (cc)

whole-by : (b : Bool) (end : ℕ) (marks : List Mark) → (if b then Some end else None) ≡ None → found_if b (Err end) (Ok marks) ≡ Ok marks
unfolding found_if
whole-by true end marks e = absurd (cc)
whole-by false end marks e = refl

pub located-broken : (h : Held) (found : Found) (marks : List Mark) (place : ℕ) → broken_at h ≡ Some place → found ≡ Ok marks → located h found ≡ Err place
unfolding found_if
located-broken h found marks place e good = ap (located h) good ∙ broken-by h.broken h.end place marks e

pub located-whole : (h : Held) (found : Found) (marks : List Mark) → broken_at h ≡ None → found ≡ Ok marks → located h found ≡ Ok marks
unfolding found_if
located-whole h found marks e good = ap (located h) good ∙ whole-by h.broken h.end marks e

-- ---- which octets are held

abbrev pub option_if : Bool → Option Held → Option Held → Option Held
option_if b x y = if b then x else y

some-if : (b : Bool) (x h : Held) → option_if b (Some x) None ≡ Some h → h ≡ x
some-if true x h e = cc
some-if false x h e = absurd (cc)

-- [0] holds the contents of an explicit tag
pub held-explicit : (part : Part) (h : Held) → nat_eq (number_of part.first) 0 ≡ true → held part ≡ Some h → h ≡ explicit_held part.contents
held-explicit part h zero e =
    let same : option_if (is_constructed part.first) (Some (explicit_held part.contents)) None ≡ Some h =
    ap (λ b. option_if b (option_if (is_constructed part.first) (Some (explicit_held part.contents)) None)
    (option_if (is_constructed part.first) (Some (segments part.after part.contents)) (Some (held_in part.contents part.after)))) (sym zero) ∙ e in
    some-if (is_constructed part.first) (explicit_held part.contents) h same

pub held-octets : (part : Part) (h : Held) → nat_eq (number_of part.first) 0 ≡ false → is_constructed part.first ≡ false → held part ≡ Some h
    → h ≡ held_in part.contents part.after
held-octets part h other plain e =
    let same : Some (held_in part.contents part.after) ≡ Some h =
    ap (λ b. option_if b (Some (segments part.after part.contents)) (Some (held_in part.contents part.after))) (sym plain)
    ∙ ap (λ b. option_if b (option_if (is_constructed part.first) (Some (explicit_held part.contents)) None)
    (option_if (is_constructed part.first) (Some (segments part.after part.contents)) (Some (held_in part.contents part.after)))) (sym other) ∙ e in
    cc

-- ---- contents of an explicit tag

within-if : (b : Bool) (n : ℕ) (x y : List ℕ) → length x ≤ n → length y ≤ n → length (if b then x else y) ≤ n
within-if true n x y p q = p
within-if false n x y p q = q

end-within : (octets : List ℕ) (v : Reading) → length (without_end octets v) ≤ length octets
end-within octets (Read tree n) = within-if (is_begun_end (drop n octets)) (length octets) (take n octets) octets (omega (arith, length-take n octets)) (omega arith)
end-within octets Short = omega arith
end-within octets (Bad at) = omega arith
end-within octets (Deep at) = omega arith
end-within octets (Long at) = omega arith

pub explicit-within : (text : Text) → length (explicit_in text) ≤ length text.octets
explicit-within text = within-if text.whole (length text.octets) text.octets (without_end text.octets (reading text.octets)) (omega arith) (end-within text.octets (reading text.octets))

pub explicit-place : (text : Text) (o : ℕ) → place_of (explicit_held text) o ≡ text.at + min o (length (explicit_in text))
explicit-place text o =
    let seen : Text = record { octets = explicit_in text; at = text.at; whole = text.whole } in
    let n = length (explicit_in text) in
    elim (cases_lt o n) [
      | inl lt ↦ place-inside seen (text.at + n) o lt ∙ omega arith
      | inr le ↦ place-after seen (text.at + n) o le ∙ omega arith
    ]

-- ---- tests

pub is_zero : (n m : ℕ) → n ≡ m → n ≡ 0 → nat_eq m 0 ≡ true
is_zero n m e z = grind (arith, nat_tests)

pub is_other : (n m : ℕ) → n ≡ m → (n ≡ 0 → ⊥) → nat_eq m 0 ≡ false
is_other n m e z = grind (arith, nat_tests)
