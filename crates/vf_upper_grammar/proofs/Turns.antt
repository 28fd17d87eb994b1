-- The parts of a text: as many turns as there are octets are enough.
use Rattle.std.proofs.Common.{◌≡◌, ℕ, zero, suc, ◌+◌, ◌-◌, ◌<◌, ◌≤◌, Bool, true, false, List, [], ◌∷◌, length, drop, take, refl, ap, subst, sym, ◌∙◌, arith, inl, inr}
use Rattle.std.specs.Prelude.{nat_eq, Option, None, Some, if◌then◌else◌}
use Rattle.std.proofs.lemmas.Bool.{cases_lt}
use Rattle.std.proofs.lemmas.List.{length-drop, length-take-le, take_all}
use Rattle.vf_upper_grammar.specs.Parts.{after_end, closing, ended_piece, ends, Header, header_at, next, Parts, parts_by, parts_in, parts_of, piece_of, FirstPart, first_part, first_part_at, first_part_by, Text}
use Rattle.vf_upper_grammar.proofs.Ends.{end-shortens, header-within, HeaderWithin, Within}

piece_by : (octets : List ℕ) (o : Option (List ℕ)) → Within (length octets) o → length (ended_piece octets o).octets + length (ended_piece octets o).rest ≤ length octets
piece_by octets None w = omega arith
piece_by octets (Some rest) w = omega (arith, length-take-le (length octets - length rest - 2) octets (omega arith))

counted_by : (n : ℕ) (octets : List ℕ) → length (take n octets) + length (drop n octets) ≤ length octets
counted_by n octets = elim (cases_lt n (length octets)) [
  | inl lt ↦ omega (arith, length-take-le n octets (omega arith), length-drop n octets)
  | inr le ↦ omega (arith, ap length (take_all n octets le), length-drop n octets)
]

-- contents and the octets after them are apart
pub piece-within : (count : Option ℕ) (octets : List ℕ) → length (piece_of count octets).octets + length (piece_of count octets).rest ≤ length octets
piece-within None octets = piece_by octets (after_end octets) (end-shortens octets)
piece-within (Some n) octets = counted_by n octets

abbrev pub FirstPartWithin : ℕ → Option FirstPart → Type 0
FirstPartWithin n None = Unit {0}
FirstPartWithin n (Some first_part) = length first_part.part.contents.octets + length first_part.rest.octets < n

first_part_within : (n : ℕ) (text : Text) (first : ℕ) (h : Option Header) → 0 < n → HeaderWithin n h
    → length (first_part_by text first h).part.contents.octets + length (first_part_by text first h).rest.octets < n
first_part_within n text first None some w = some
first_part_within n text first (Some header) some w = omega (arith, piece-within header.count header.rest)

first_part-if : (n : ℕ) (b : Bool) (t : FirstPart) → length t.part.contents.octets + length t.rest.octets < n → FirstPartWithin n (if b then None else Some t)
first_part-if n true t w = tt
first_part-if n false t w = w

pub first_part-within : (text : Text) → FirstPartWithin (length text.octets) (first_part text)
unfolding first_part
first_part-within text = by text.octets
  where
    by : (octets : List ℕ) → FirstPartWithin (length octets) (first_part_at text octets)
    by [] = tt
    by (first ∷ octets) =
        first_part-if (suc (length octets)) (nat_eq first 0) (first_part_by text first (header_at (first ∷ octets)))
        (first_part_within (suc (length octets)) text first (header_at (first ∷ octets)) (omega arith) (header-within (first ∷ octets)))

-- equal on shorter texts
abbrev Agree : ℕ → (Text → Parts) → (Text → Parts) → Type 0
Agree n f g = (text : Text) → length text.octets < n → f text ≡ g text

by-same : (n : ℕ) (f g : Text → Parts) (text : Text) (o : Option FirstPart) → Agree n f g → FirstPartWithin n o → parts_by f text o ≡ parts_by g text o
by-same n f g text None agree w = refl
by-same n f g text (Some first_part) agree w = ap (next first_part.part) (agree first_part.rest (omega arith))

none-within : (f : Text → Parts) (text : Text) (o : Option FirstPart) → length text.octets ≤ 0 → FirstPartWithin (length text.octets) o → parts_by f text o ≡ ends (closing text)
none-within f text None le w = refl
none-within f text (Some first_part) le w = absurd (omega arith)

turns-same : (t u : ℕ) (text : Text) → length text.octets ≤ t → length text.octets ≤ u → parts_in t text ≡ parts_in u text
unfolding parts_in
turns-same zero zero text a b = refl
turns-same zero (suc u) text a b = sym (none-within (parts_in u) text (first_part text) a (first_part-within text))
turns-same (suc t) zero text a b = none-within (parts_in t) text (first_part text) b (first_part-within text)
turns-same (suc t) (suc u) text a b =
    by-same (length text.octets) (parts_in t) (parts_in u) text (first_part text) (λ other lt. turns-same t u other (omega arith) (omega arith)) (first_part-within text)

one-more : (text : Text) → parts_in (suc (length text.octets)) text ≡ parts_by parts_of text (first_part text)
unfolding parts_in parts_of
one-more text =
    by-same (length text.octets) (parts_in (length text.octets)) parts_of text (first_part text)
    (λ other lt. turns-same (length text.octets) (length other.octets) other (omega arith) (omega arith)) (first_part-within text)

-- the parts are the first one and those after it
pub parts-step : (text : Text) → parts_of text ≡ parts_by parts_of text (first_part text)
unfolding parts_of
parts-step text = turns-same (length text.octets) (suc (length text.octets)) text (omega arith) (omega arith) ∙ one-more text

some-within : (n : ℕ) (o : Option FirstPart) (t : FirstPart) → Some t ≡ o → FirstPartWithin n o → length t.part.contents.octets + length t.rest.octets < n
some-within n None t e w = absurd cc
some-within n (Some u) t e w = let same : t ≡ u = cc in let P : FirstPart → Type 0 = λ x. length x.part.contents.octets + length x.rest.octets < n in subst P (sym same) w

-- a part takes an octet at least
pub first_part-shorter : (text : Text) (t : FirstPart) → Some t ≡ first_part text → length t.part.contents.octets + length t.rest.octets < length text.octets
first_part-shorter text t e = some-within (length text.octets) (first_part text) t e (first_part-within text)
