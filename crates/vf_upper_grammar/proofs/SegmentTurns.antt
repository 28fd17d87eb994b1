-- Segments in turn: as many turns as there are octets are enough.
use Rattle.std.proofs.Common.{◌≡◌, ℕ, zero, suc, ◌+◌, ◌-◌, ◌<◌, ◌≤◌, Bool, true, false, List, [], ◌∷◌, ◌++◌, length, drop, get_or, refl, ap, ◌∙◌, arith}
use Rattle.std.specs.Prelude.{nat_eq, nat_lt, Option, None, Some, if◌then◌else◌}
use Rattle.std.proofs.lemmas.Bool.Decides.{nat_tests}
use Rattle.std.proofs.lemmas.List.{length-append, length-drop, get_or_append_left, get_or-append_right}
use Rattle.vf_upper_grammar.specs.Parts.{Header, header_at, FirstPart, first_part, Text}
use Rattle.vf_upper_grammar.specs.HeldViews.{broken_at}
use Rattle.vf_upper_grammar.specs.SegmentViews.{no_segment, none_held}
use Rattle.vf_upper_grammar.specs.Texts.{constructed_segment, cut_to, Held, held_in, nothing_held, place_of, places_from, primitive_segment, segment, segments, segments_in, then_held}
use Rattle.vf_upper_grammar.proofs.Ends.{header-more, header-within, HeaderWithin}
use Rattle.vf_upper_grammar.proofs.Turns.{first_part-within, FirstPartWithin}

-- equal on shorter texts
abbrev pub Agree : ℕ → (Text → Held) → (Text → Held) → Type 0
Agree n f g = (text : Text) → length text.octets < n → f text ≡ g text

primitive-same : (n : ℕ) (f g : Text → Held) (end : ℕ) (o : Option FirstPart) → Agree n f g → FirstPartWithin n o → primitive_segment f end o ≡ primitive_segment g end o
primitive-same n f g end None agree w = refl
primitive-same n f g end (Some first_part) agree w = ap (then_held first_part.part.contents) (agree first_part.rest (omega arith))

constructed-same : (n : ℕ) (f g : Text → Held) (text : Text) (end : ℕ) (h : Option Header) → Agree n f g → HeaderWithin n h
    → constructed_segment f text end h ≡ constructed_segment g text end h
constructed-same n f g text end None agree w = refl
constructed-same n f g text end (Some header) agree w = agree (cut_to text header.rest) (omega arith)

if-same : (b : Bool) (x y z w : Held) → x ≡ y → z ≡ w → (if b then x else z) ≡ (if b then y else w)
if-same true x y z w e f = e
if-same false x y z w e f = f

segment-same : (f g : Text → Held) (text : Text) (end : ℕ) (octets : List ℕ) → octets ≡ text.octets → Agree (length text.octets) f g
    → segment f text end octets ≡ segment g text end octets
segment-same f g text end [] e agree = refl
segment-same f g text end (first ∷ octets) e agree =
    let n : suc (length octets) ≡ length text.octets = ap length e in
    let bound : suc (length octets) ≤ length text.octets = omega arith in
    if-same (nat_eq first 0) (f (cut_to text (drop 1 octets))) (g (cut_to text (drop 1 octets))) _ _
    (agree (cut_to text (drop 1 octets)) (omega (arith, n, length-drop 1 octets)))
    (if-same (nat_eq first 4) (primitive_segment f end (first_part text)) (primitive_segment g end (first_part text)) _ _
    (primitive-same (length text.octets) f g end (first_part text) agree (first_part-within text))
    (if-same (nat_eq first 36) (constructed_segment f text end (header_at (first ∷ octets))) (constructed_segment g text end (header_at (first ∷ octets))) _ _
    (constructed-same (length text.octets) f g text end (header_at (first ∷ octets)) agree
    (header-more (suc (length octets)) (length text.octets) (header_at (first ∷ octets)) bound (header-within (first ∷ octets))))
    refl))

turns-same : (t u end : ℕ) (text : Text) → length text.octets < t → length text.octets < u → segments_in t end text ≡ segments_in u end text
unfolding segments_in
turns-same zero u end text a b = absurd (omega arith)
turns-same (suc t) zero end text a b = absurd (omega arith)
turns-same (suc t) (suc u) end text a b =
    segment-same (segments_in t end) (segments_in u end) text end text.octets refl (λ other lt. turns-same t u end other (omega arith) (omega arith))

-- the octets of segments are those of the first and of those after it
pub segments-step : (end : ℕ) (text : Text) → segments end text ≡ segment (segments end) text end text.octets
unfolding segments segments_in
segments-step end text =
    segment-same (segments_in (length text.octets) end) (segments end) text end text.octets refl
    (λ other lt. turns-same (length text.octets) (suc (length other.octets)) end other lt (omega arith))

-- what the first octets and those after them are, or nothing
pub segments-next : (end : ℕ) (text contents after : Text) → ((others : Text → Held) (end : ℕ) → segment others text end text.octets ≡ then_held contents (others after))
    → segments end text ≡ then_held contents (segments end after)
segments-next end text contents after piece = segments-step end text ∙ piece (segments end) end

pub segments-none : (end : ℕ) (text : Text) → ((others : Text → Held) (end : ℕ) → segment others text end text.octets ≡ none_held text end)
    → segments end text ≡ none_held text end
segments-none end text piece = segments-step end text ∙ piece (segments end) end

abbrev pub place_if : Bool → ℕ → Option ℕ
place_if b at = if b then Some at else None

abbrev pub held_if : Bool → Held → Held → Held
held_if b x y = if b then x else y

none-octets : (b : Bool) (at end : ℕ) → (held_if b (nothing_held at true) (nothing_held end false)).octets ≡ []
none-octets true at end = refl
none-octets false at end = refl

-- no octets are held where nothing follows
pub none_held-octets : (text : Text) (end : ℕ) → (none_held text end).octets ≡ []
none_held-octets text end = none-octets (no_segment text.octets) text.at end

none-broken : (b : Bool) (at end : ℕ) → broken_at (held_if b (nothing_held at true) (nothing_held end false)) ≡ (if b then Some at else None)
none-broken true at end = refl
none-broken false at end = refl

pub none_held-broken : (text : Text) (end : ℕ) → broken_at (none_held text end) ≡ (if no_segment text.octets then Some text.at else None)
none_held-broken text end = none-broken (no_segment text.octets) text.at end

-- ---- places

places-at : (at : ℕ) (octets : List ℕ) (o : ℕ) → o < length octets → get_or (places_from at octets) o 0 ≡ at + o
places-at at [] o lt = absurd (omega arith)
places-at at (octet ∷ octets) zero lt = omega arith
places-at at (octet ∷ octets) (suc o) lt = places-at (at + 1) octets o (omega arith) ∙ omega arith

places-length : (at : ℕ) (octets : List ℕ) → length (places_from at octets) ≡ length octets
places-length at [] = refl
places-length at (octet ∷ octets) = ap suc (places-length (at + 1) octets)

abbrev pub if_nat : Bool → ℕ → ℕ → ℕ
if_nat b m n = if b then m else n

lt-true : (m n : ℕ) → m < n → nat_lt m n ≡ true
lt-true m n lt = grind (arith, nat_tests)

lt-false : (m n : ℕ) → n ≤ m → nat_lt m n ≡ false
lt-false m n le = grind (arith, nat_tests)

-- a place among octets that stand in one piece
pub place-inside : (text : Text) (end o : ℕ) → o < length text.octets → place_of (held_in text end) o ≡ text.at + o
place-inside text end o lt =
    ap (λ b. if_nat b (get_or (places_from text.at text.octets) o 0) end) (lt-true o (length text.octets) lt) ∙ places-at text.at text.octets o lt

pub place-after : (text : Text) (end o : ℕ) → length text.octets ≤ o → place_of (held_in text end) o ≡ end
place-after text end o le = ap (λ b. if_nat b (get_or (places_from text.at text.octets) o 0) end) (lt-false o (length text.octets) le)

-- a place in a first segment, and after it
pub place-first : (text : Text) (held : Held) (o : ℕ) → o < length text.octets → place_of (then_held text held) o ≡ text.at + o
place-first text held o lt =
    let inside : o < length (text.octets ++ held.octets) = omega (arith, length-append text.octets held.octets) in
    let within : o < length (places_from text.at text.octets) = omega (arith, places-length text.at text.octets) in
    ap (λ b. if_nat b (get_or (places_from text.at text.octets ++ held.places) o 0) held.end) (lt-true o (length (text.octets ++ held.octets)) inside)
    ∙ get_or_append_left (places_from text.at text.octets) held.places 0 o within ∙ places-at text.at text.octets o lt

same-test : (n o len : ℕ) → n ≤ o → nat_lt o (n + len) ≡ nat_lt (o - n) len
same-test n o len le = grind (arith, nat_tests)

pub place-next : (text : Text) (held : Held) (o : ℕ) → length text.octets ≤ o → place_of (then_held text held) o ≡ place_of held (o - length text.octets)
place-next text held o le =
    let n = length text.octets in
    let len : length (text.octets ++ held.octets) ≡ n + length held.octets = length-append text.octets held.octets in
    let past : length (places_from text.at text.octets) ≤ o = omega (arith, places-length text.at text.octets) in
    ap (λ k. if_nat (nat_lt o k) (get_or (places_from text.at text.octets ++ held.places) o 0) held.end) len
    ∙ ap (λ b. if_nat b (get_or (places_from text.at text.octets ++ held.places) o 0) held.end) (same-test n o (length held.octets) le)
    ∙ ap (λ p. if_nat (nat_lt (o - n) (length held.octets)) p held.end)
    (get_or-append_right (places_from text.at text.octets) held.places n o 0 (places-length text.at text.octets) le)

nothing-place : (end : ℕ) (broken : Bool) (o : ℕ) → place_of (nothing_held end broken) o ≡ end
nothing-place end broken o = ap (λ b. if_nat b 0 end) (lt-false o 0 (omega arith))

none-place : (b : Bool) (at end o : ℕ) → place_of (held_if b (nothing_held at true) (nothing_held end false)) o ≡ (if b then at else end)
none-place true at end o = nothing-place at true o
none-place false at end o = nothing-place end false o

pub none_held-place : (text : Text) (end o : ℕ) → place_of (none_held text end) o ≡ (if no_segment text.octets then text.at else end)
none_held-place text end o = none-place (no_segment text.octets) text.at end o

-- octets of which there are none
pub no_octets : (octets : List ℕ) → length octets ≡ 0 → octets ≡ []
no_octets [] is = refl
no_octets (octet ∷ octets) is = absurd (omega (arith, is))
