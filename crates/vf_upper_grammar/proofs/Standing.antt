-- Octets that stand at a place among all: those of a text, and so those of its parts.
use Rattle.std.proofs.Common.{◌≡◌, ℕ, zero, suc, ◌+◌, ◌-◌, ◌≤◌, Bool, true, false, List, [], ◌∷◌, length, take, drop, refl, ap, subst, sym, ◌∙◌, arith, inl, inr, length-drop, drop-drop, length-take-le, take_all}
use Rattle.std.specs.Prelude.{nat_eq, nat_le, nat_lt, Option, None, Some, if◌then◌else◌}
use Rattle.std.specs.Option.{option_and_then}
use Rattle.std.proofs.lemmas.Bool.{cases_lt}
use Rattle.std.proofs.lemmas.List.{drop_all}
use Rattle.vf_base.proofs.SliceLemmas.{part_of_part}
use Rattle.vf_ber.specs.Reader.{reading}
use Rattle.vf_ber.specs.Reading.{Reading, Read, Short, Bad, Deep, Long}
use Rattle.vf_upper_grammar.specs.HeldViews.{IsIn, Stands}
use Rattle.vf_upper_grammar.specs.Parts.{after_contents, after_end, after_end_in, after_identifier, after_length, after_number, after_one, after_value, cut_piece, ended_piece, FirstPart, first_part, first_part_at, first_part_by, Header, header_at, long_form, number_of, part_with, Piece, piece_of, Text}
use Rattle.vf_upper_grammar.specs.Texts.{cut_to, explicit_in, is_begun_end, without_end}

-- ---- octets

pub stands-part : (all : List ℕ) (place : ℕ) (octets : List ℕ) (at n : ℕ) → Stands all place octets → at + n ≤ length octets → Stands all (place + at) (take n (drop at octets))
stands-part all place octets at n (is, within) le =
    let long : length (take n (drop at octets)) ≡ n = length-take-le n (drop at octets) (omega (arith, le, length-drop at octets)) in (
      ap (λ k. take k (drop (place + at) all)) long ∙ part_of_part place (length octets) at n all le ∙ ap (λ o. take n (drop at o)) is,
      omega (arith, long, le, within),
    )

pub stands-later : (all : List ℕ) (place : ℕ) (octets : List ℕ) (at : ℕ) → Stands all place octets → at ≤ length octets → Stands all (place + at) (drop at octets)
stands-later all place octets at s le =
    let n : ℕ = length octets - at in
    let P : List ℕ → Type 0 = λ o. Stands all (place + at) o in
    subst P (take_all n (drop at octets) (omega (arith, length-drop at octets))) (stands-part all place octets at n s (omega (arith, le)))

pub stands-front : (all : List ℕ) (place : ℕ) (octets : List ℕ) (n : ℕ) → Stands all place octets → Stands all place (take n octets)
stands-front all place octets n s = elim (cases_lt n (length octets)) [
  | inl lt ↦
      let on : place + 0 ≡ place = omega arith in
      subst (λ (p : ℕ). Stands all p (take n octets)) on (stands-part all place octets 0 n s (omega (arith, lt)))
  | inr le ↦ subst (λ (o : List ℕ). Stands all place o) (sym (take_all n octets le)) s
]

pub stands-all : (all octets : List ℕ) → all ≡ octets → Stands all 0 octets
stands-all all octets is = (take_all (length octets) all (omega (arith, ap length is)) ∙ is, omega (arith, ap length is))

-- ---- octets with which others end

abbrev EndsWith : List ℕ → List ℕ → Type 0
EndsWith octets rest = (n : ℕ) × (n ≤ length octets) × (drop n octets ≡ rest)

ends_drop : (octets : List ℕ) (n : ℕ) → EndsWith octets (drop n octets)
ends_drop octets n = elim (cases_lt n (length octets)) [
  | inl lt ↦ (n, omega (arith, lt), refl)
  | inr le ↦ (length octets, omega arith, drop_all (length octets) octets (omega arith) ∙ sym (drop_all n octets le))
]

ends_none : (octets : List ℕ) → EndsWith octets []
ends_none octets = (length octets, omega arith, drop_all (length octets) octets (omega arith))

ends_all : (octets : List ℕ) → EndsWith octets octets
ends_all octets = (0, omega arith, refl)

ends_after : (first : ℕ) (octets : List ℕ) → EndsWith (first ∷ octets) octets
ends_after first octets = (1, omega arith, refl)

ends_more : (octets middle rest : List ℕ) → EndsWith octets middle → EndsWith middle rest → EndsWith octets rest
ends_more octets middle rest (n, le, is) (m, few, end) =
    let long : length middle ≡ length octets - n = ap length (sym is) ∙ length-drop n octets in
    (n + m, omega (arith, le, few, long), sym (drop-drop m n octets) ∙ ap (drop m) is ∙ end)

-- where they stand
stands-end : (all : List ℕ) (place : ℕ) (octets rest : List ℕ) → Stands all place octets → EndsWith octets rest → Stands all (place + (length octets - length rest)) rest
stands-end all place octets rest s (n, le, is) =
    let long : length rest ≡ length octets - n = ap length (sym is) ∙ length-drop n octets in
    let same : n ≡ length octets - length rest = omega (arith, le, long) in
    let P : List ℕ → Type 0 = λ o. Stands all (place + n) o in
    subst (λ (k : ℕ). Stands all (place + k) rest) same (subst P is (stands-later all place octets n s le))

-- ---- identifiers and lengths

abbrev Ends : List ℕ → Option (List ℕ) → Type 0
Ends octets None = Unit {0}
Ends octets (Some rest) = EndsWith octets rest

abbrev HeaderEnds : List ℕ → Option Header → Type 0
HeaderEnds octets None = Unit {0}
HeaderEnds octets (Some header) = EndsWith octets header.rest

one-ends : (octets : List ℕ) → Ends octets (after_one octets)
one-ends [] = tt
one-ends (octet ∷ octets) = ends_after octet octets

ends-more : (octets middle : List ℕ) (o : Option (List ℕ)) → EndsWith octets middle → Ends middle o → Ends octets o
ends-more octets middle None e f = tt
ends-more octets middle (Some rest) e f = ends_more octets middle rest e f

ends-if : (octets : List ℕ) (b : Bool) (x y : Option (List ℕ)) → Ends octets x → Ends octets y → Ends octets (if b then x else y)
ends-if octets true x y p q = p
ends-if octets false x y p q = q

number-ends : (octets : List ℕ) → Ends octets (after_number octets)
number-ends [] = tt
number-ends (octet ∷ octets) =
    ends-if (octet ∷ octets) (nat_lt octet 128) (Some octets) (after_one octets) (ends_after octet octets)
    (ends-more (octet ∷ octets) octets (after_one octets) (ends_after octet octets) (one-ends octets))

identifier-ends : (octets : List ℕ) → Ends octets (after_identifier octets)
identifier-ends [] = tt
identifier-ends (first ∷ octets) =
    ends-if (first ∷ octets) (nat_lt (number_of first) 31) (Some octets) (after_number octets) (ends_after first octets)
    (ends-more (first ∷ octets) octets (after_number octets) (ends_after first octets) (number-ends octets))

header-if : (octets : List ℕ) (b : Bool) (x y : Option Header) → HeaderEnds octets x → HeaderEnds octets y → HeaderEnds octets (if b then x else y)
header-if octets true x y p q = p
header-if octets false x y p q = q

header-more : (octets middle : List ℕ) (h : Option Header) → EndsWith octets middle → HeaderEnds middle h → HeaderEnds octets h
header-more octets middle None e f = tt
header-more octets middle (Some header) e f = ends_more octets middle header.rest e f

long-ends : (digits : ℕ) (octets : List ℕ) → HeaderEnds octets (long_form digits octets)
long-ends digits octets = header-if octets (nat_le digits (length octets)) _ None (ends_drop octets digits) tt

length-ends : (octets : List ℕ) → HeaderEnds octets (after_length octets)
length-ends [] = tt
length-ends (first ∷ octets) =
    header-if (first ∷ octets) (nat_lt first 128) _ _ (ends_after first octets)
    (header-if (first ∷ octets) (nat_eq first 128) _ _ (ends_after first octets)
    (header-if (first ∷ octets) (nat_le first 136) (long_form (first - 128) octets) None
    (header-more (first ∷ octets) octets (long_form (first - 128) octets) (ends_after first octets) (long-ends (first - 128) octets)) tt))

header_by : (octets : List ℕ) (o : Option (List ℕ)) → Ends octets o → HeaderEnds octets (option_and_then after_length o)
header_by octets None e = tt
header_by octets (Some rest) e = header-more octets rest (after_length rest) e (length-ends rest)

header-ends : (octets : List ℕ) → HeaderEnds octets (header_at octets)
header-ends octets = header_by octets (after_identifier octets) (identifier-ends octets)

-- ---- values and what is after them

abbrev GoesOn : (List ℕ → Option (List ℕ)) → Type 0
GoesOn f = (octets : List ℕ) → Ends octets (f octets)

then-ends : (f : List ℕ → Option (List ℕ)) (octets : List ℕ) (o : Option (List ℕ)) → GoesOn f → Ends octets o → Ends octets (option_and_then f o)
then-ends f octets None g e = tt
then-ends f octets (Some rest) g e = ends-more octets rest (f rest) e (g rest)

contents-ends : (f : List ℕ → Option (List ℕ)) (octets : List ℕ) (count : Option ℕ) (rest : List ℕ) → GoesOn f → EndsWith octets rest → Ends octets (after_contents f count rest)
contents-ends f octets None rest g e = ends-more octets rest (f rest) e (g rest)
contents-ends f octets (Some m) rest g e = ends-if octets (nat_le m (length rest)) (Some (drop m rest)) None (ends_more octets rest (drop m rest) e (ends_drop rest m)) tt

value_by : (f : List ℕ → Option (List ℕ)) (octets : List ℕ) (h : Option Header) → GoesOn f → HeaderEnds octets h → Ends octets (option_and_then (λ header. after_contents f header.count header.rest) h)
value_by f octets None g e = tt
value_by f octets (Some header) g e = contents-ends f octets header.count header.rest g e

value-ends : (f : List ℕ → Option (List ℕ)) → GoesOn f → GoesOn (after_value f)
value-ends f g octets = value_by f octets (header_at octets) g (header-ends octets)

turns-end : (turns : ℕ) → GoesOn (after_end_in turns)
unfolding after_end_in
turns-end zero octets = tt
turns-end (suc turns) [] = tt
turns-end (suc turns) (first ∷ octets) =
    let inner = turns-end turns in
    ends-if (first ∷ octets) (nat_eq first 0) (after_one octets) _ (ends-more (first ∷ octets) octets (after_one octets) (ends_after first octets) (one-ends octets))
    (then-ends (after_end_in turns) (first ∷ octets) _ inner (value-ends (after_end_in turns) inner (first ∷ octets)))

end-ends : GoesOn after_end
unfolding after_end
end-ends octets = turns-end (length octets) octets

-- ---- parts

-- contents stand first among octets, and others with which these end after them
record Cuts (octets : List ℕ) (piece : Piece) : Type 0 where
  pub contents : (all : List ℕ) (place : ℕ) → Stands all place octets → Stands all place piece.octets
  pub rest : EndsWith octets piece.rest

ended-cuts : (octets : List ℕ) (o : Option (List ℕ)) → Ends octets o → Cuts octets (ended_piece octets o)
ended-cuts octets None e = record { contents = λ all place s. s; rest = ends_none octets }
ended-cuts octets (Some rest) e = record { contents = λ all place s. stands-front all place octets (length octets - length rest - 2) s; rest = e }

piece-cuts : (count : Option ℕ) (octets : List ℕ) → Cuts octets (piece_of count octets)
piece-cuts None octets = ended-cuts octets (after_end octets) (end-ends octets)
piece-cuts (Some n) octets = record { contents = λ all place s. stands-front all place octets n s; rest = ends_drop octets n }

pub record PartIn (all : List ℕ) (t : FirstPart) : Type 0 where
  pub part : IsIn all t.part.contents
  pub rest : IsIn all t.rest

part-in : (all : List ℕ) (text : Text) (first : ℕ) (octets : List ℕ) (piece : Piece) → IsIn all text → EndsWith text.octets octets → Cuts octets piece
    → PartIn all (part_with text first (length octets) piece)
part-in all text first octets piece s e cuts = record {
  part = cuts.contents all (text.at + (length text.octets - length octets)) (stands-end all text.at text.octets octets s e);
  rest = stands-end all text.at text.octets piece.rest s (ends_more text.octets octets piece.rest e cuts.rest);
}

part_by-in : (all : List ℕ) (text : Text) (first : ℕ) (h : Option Header) → IsIn all text → HeaderEnds text.octets h → PartIn all (first_part_by text first h)
part_by-in all text first None s e =
    let none = ends_none text.octets in
    part-in all text first [] (cut_piece []) s none (record { contents = λ all place s. s; rest = ends_all [] })
part_by-in all text first (Some header) s e = part-in all text first header.rest (piece_of header.count header.rest) s e (piece-cuts header.count header.rest)

abbrev FirstIn : List ℕ → Option FirstPart → Type 0
FirstIn all None = Unit {0}
FirstIn all (Some t) = PartIn all t

first-if : (all : List ℕ) (b : Bool) (t : FirstPart) → PartIn all t → FirstIn all (if b then None else Some t)
first-if all true t p = tt
first-if all false t p = p

first-in : (all : List ℕ) (text : Text) → IsIn all text → FirstIn all (first_part text)
unfolding first_part
first-in all text s = by text.octets (header-ends text.octets)
  where
    by : (octets : List ℕ) → HeaderEnds text.octets (header_at octets) → FirstIn all (first_part_at text octets)
    by [] e = tt
    by (first ∷ octets) e = first-if all (nat_eq first 0) (first_part_by text first (header_at (first ∷ octets))) (part_by-in all text first (header_at (first ∷ octets)) s e)

some-in : (all : List ℕ) (o : Option FirstPart) (t : FirstPart) → Some t ≡ o → FirstIn all o → PartIn all t
some-in all None t e p = absurd cc
some-in all (Some u) t e p = let same : t ≡ u = cc in subst (λ (x : FirstPart). PartIn all x) (sym same) p

-- the contents of a first part, and what is after it
pub first_part-in : (all : List ℕ) (text : Text) (t : FirstPart) → IsIn all text → Some t ≡ first_part text → PartIn all t
first_part-in all text t s e = some-in all (first_part text) t e (first-in all text s)

-- ---- contents of an explicit tag

stands-if : (all : List ℕ) (place : ℕ) (b : Bool) (x y : List ℕ) → Stands all place x → Stands all place y → Stands all place (if b then x else y)
stands-if all place true x y p q = p
stands-if all place false x y p q = q

end-in : (all : List ℕ) (place : ℕ) (octets : List ℕ) (v : Reading) → Stands all place octets → Stands all place (without_end octets v)
end-in all place octets (Read tree n) s = stands-if all place (is_begun_end (drop n octets)) (take n octets) octets (stands-front all place octets n s) s
end-in all place octets Short s = s
end-in all place octets (Bad at) s = s
end-in all place octets (Deep at) s = s
end-in all place octets (Long at) s = s

pub explicit-in : (all : List ℕ) (text : Text) → IsIn all text → Stands all text.at (explicit_in text)
explicit-in all text s =
    stands-if all text.at text.whole text.octets (without_end text.octets (reading text.octets)) s (end-in all text.at text.octets (reading text.octets) s)

-- ---- segments

-- a text without its first octets
cut-in : (all : List ℕ) (text : Text) (rest : List ℕ) → IsIn all text → EndsWith text.octets rest → IsIn all (cut_to text rest)
cut-in all text rest s e = stands-end all text.at text.octets rest s e

some-ends : (octets : List ℕ) (h : Option Header) (header : Header) → Some header ≡ h → HeaderEnds octets h → EndsWith octets header.rest
some-ends octets None header is e = absurd cc
some-ends octets (Some other) header is e = let same : header ≡ other = cc in subst (λ (x : Header). EndsWith octets x.rest) (sym same) e

-- after the identifier and the length of a segment that has segments
pub header-in : (all : List ℕ) (text : Text) (header : Header) → IsIn all text → Some header ≡ header_at text.octets → IsIn all (cut_to text header.rest)
header-in all text header s is = cut-in all text header.rest s (some-ends text.octets (header_at text.octets) header is (header-ends text.octets))

-- after the end of contents of one
pub ended-in : (all : List ℕ) (text : Text) (first : ℕ) (after : List ℕ) → IsIn all text → text.octets ≡ first ∷ after → IsIn all (cut_to text (drop 1 after))
ended-in all text first after s is =
    let e : EndsWith (first ∷ after) (drop 1 after) = ends_more (first ∷ after) after (drop 1 after) (ends_after first after) (ends_drop after 1) in
    cut-in all text (drop 1 after) s (subst (λ (o : List ℕ). EndsWith o (drop 1 after)) (sym is) e)

pub none-in : (all : List ℕ) (text : Text) → IsIn all text → Stands all text.at []
none-in all text s = (refl, omega (arith, s.1))
