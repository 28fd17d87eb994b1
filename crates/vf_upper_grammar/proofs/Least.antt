-- What is told of parts is the least place of their faults: what is told and then read on, where parts stand, and the
-- types of which the parts don't decide how they are read.
use Rattle.std.proofs.Common.{◌≡◌, ℕ, zero, suc, ◌+◌, ◌≤◌, Bool, true, false, List, [], ◌∷◌, ◌++◌, length, refl, ap, sym, subst, arith, inl, inr}
use Rattle.std.specs.Prelude.{ℤ, not, ◌&&◌, ◌||◌, ◌⊎◌, nat_eq, Option, None, Some, Ok, Err, if◌then◌else◌}
use Rattle.vf_ber.specs.Primitive.{integer_at, oid_at}
use Rattle.vf_upper_grammar.specs.declared.labels.NameLabel.{NameLabel}
use Rattle.vf_upper_grammar.specs.declared.labels.NumberLabel.{NumberLabel}
use Rattle.vf_upper_grammar.specs.Faults as faults
use Rattle.vf_upper_grammar.specs.Faults.{Faults, is_name, is_number, Places, unless}
use Rattle.vf_upper_grammar.specs.Forms as forms
use Rattle.vf_upper_grammar.specs.Forms.{◌>>=◌, Form, has_tag, Tags}
use Rattle.vf_upper_grammar.specs.Marks.{Found, Mark}
use Rattle.vf_upper_grammar.specs.Parts.{ends, FirstPart, first_part, first_part_at, first_part_by, Header, header_at, is_constructed, is_empty, next, Part, Parts, parts_by, parts_of, Text}
use Rattle.vf_upper_grammar.proofs.Ends.{header-within, HeaderWithin}
use Rattle.vf_upper_grammar.proofs.Turns.{first_part-shorter, parts-step, piece-within}

-- ---- places

abbrev pub In : ℕ → Places → Type 0
In at [] = ⊥
In at (place ∷ places) = (place ≡ at) ⊎ In at places

-- no place is less
abbrev pub From : ℕ → Places → Type 0
From at [] = Unit {0}
From at (place ∷ places) = (at ≤ place) × From at places

abbrev pub Within : ℕ → ℕ → Places → Type 0
Within low high [] = Unit {0}
Within low high (place ∷ places) = (low ≤ place) × (place ≤ high) × Within low high places

pub in-left : (at : ℕ) (xs ys : Places) → In at xs → In at (xs ++ ys)
in-left at [] ys i = absurd i
in-left at (x ∷ xs) ys (inl e) = inl e
in-left at (x ∷ xs) ys (inr i) = inr (in-left at xs ys i)

pub in-right : (at : ℕ) (xs ys : Places) → In at ys → In at (xs ++ ys)
in-right at [] ys i = i
in-right at (x ∷ xs) ys i = inr (in-right at xs ys i)

pub from-both : (at : ℕ) (xs ys : Places) → From at xs → From at ys → From at (xs ++ ys)
from-both at [] ys f g = g
from-both at (x ∷ xs) ys f g = (f.0, from-both at xs ys f.1 g)

pub from-less : (at low : ℕ) (xs : Places) → at ≤ low → From low xs → From at xs
from-less at low [] le f = tt
from-less at low (x ∷ xs) le f = let here = f.0 in (omega arith, from-less at low xs le f.1)

pub within-both : (low high : ℕ) (xs ys : Places) → Within low high xs → Within low high ys → Within low high (xs ++ ys)
within-both low high [] ys v w = w
within-both low high (x ∷ xs) ys v w = (v.0, v.1, within-both low high xs ys v.2 w)

pub within-more : (low high less more : ℕ) (xs : Places) → less ≤ low → high ≤ more → Within low high xs → Within less more xs
within-more low high less more [] a b w = tt
within-more low high less more (x ∷ xs) a b w = let begin = w.0 in let stop = w.1 in (omega arith, omega arith, within-more low high less more xs a b w.2)

pub within-from : (low high : ℕ) (xs : Places) → Within low high xs → From low xs
within-from low high [] w = tt
within-from low high (x ∷ xs) w = (w.0, within-from low high xs w.2)

pub in-within : (at low high : ℕ) (xs : Places) → In at xs → Within low high xs → at ≤ high
in-within at low high [] i w = absurd i
in-within at low high (x ∷ xs) (inl e) w = let le = w.1 in omega arith
in-within at low high (x ∷ xs) (inr i) w = in-within at low high xs i w.2

pub unless-within : (low high at : ℕ) (b : Bool) → low ≤ at → at ≤ high → Within low high (unless b at)
unless-within low high at true a b = tt
unless-within low high at false a b = (a, b, tt)

abbrev pub places_if : Bool → Places → Places → Places
places_if b xs ys = if b then xs else ys

pub within-if : (b : Bool) (low high : ℕ) (xs ys : Places) → Within low high xs → Within low high ys → Within low high (if b then xs else ys)
within-if true low high xs ys v w = v
within-if false low high xs ys v w = w

-- ---- what is told

-- what is found is all, where there is no fault, or the least place of one
abbrev pub Told : Found → Places → Type 0
Told (Ok marks) places = places ≡ []
Told (Err at) places = In at places × From at places

pub told-along : (x y : Found) (places : Places) → x ≡ y → Told y places → Told x places
told-along x y places e told = let P : Found → Type 0 = λ z. Told z places in subst P (sym e) told

pub told-places : (x : Found) (xs ys : Places) → xs ≡ ys → Told x ys → Told x xs
told-places x xs ys e told = subst (Told x) (sym e) told

pub told-fault : (at : ℕ) → Told (Err at) (at ∷ [])
told-fault at = (inl refl, (omega arith, tt))

pub told-if : (b : Bool) (x y : Found) (xs ys : Places) → Told x xs → Told y ys → Told (if b then x else y) (if b then xs else ys)
told-if true x y xs ys t u = t
told-if false x y xs ys t u = u

-- a fault, where no other place is before it
pub told-before : (at : ℕ) (ys : Places) → From at ys → Told (Err at) (at ∷ ys)
told-before at ys from = (inl refl, (omega arith, from))

-- others after a first, which stand after it
pub told-then : (x : Found) (f : List Mark → Found) (xs ys : Places) (low mid : ℕ) → Told x xs → Within low mid xs → ((marks : List Mark) → Told (f marks) ys) → From mid ys
    → Told (x >>= f) (xs ++ ys)
told-then (Ok marks) f xs ys low mid told within go from = told-places (f marks) (xs ++ ys) ys (ap (λ zs. zs ++ ys) told) (go marks)
told-then (Err at) f xs ys low mid told within go from =
    (in-left at xs ys told.0, from-both at xs ys told.1 (from-less at mid ys (in-within at low mid xs told.0 within) from))

-- ---- where parts stand

-- a part holds its contents
abbrev pub IsPlaced : Part → Type 0
IsPlaced part = (part.at ≤ part.contents.at) × (part.contents.at + length part.contents.octets ≤ part.after)

-- parts stand in turn between two places
abbrev pub ArePlaced : ℕ → ℕ → Parts → Type 0
ArePlaced low high (ends None) = low ≤ high
ArePlaced low high (ends (Some place)) = (low ≤ place) × (place ≤ high)
ArePlaced low high (next part parts) = (low ≤ part.at) × IsPlaced part × ArePlaced part.after high parts

pub placed-order : (part : Part) → IsPlaced part → part.at ≤ part.after
placed-order part is = let begin = is.0 in let stop = is.1 in omega arith

pub parts-order : (low high : ℕ) (parts : Parts) → ArePlaced low high parts → low ≤ high
parts-order low high (ends None) are = are
parts-order low high (ends (Some place)) are = let begin = are.0 in let stop = are.1 in omega arith
parts-order low high (next part parts) are = let begin = are.0 in let here = placed-order part are.1 in let others = parts-order part.after high parts are.2 in omega arith

pub parts-more : (low high less more : ℕ) (parts : Parts) → less ≤ low → high ≤ more → ArePlaced low high parts → ArePlaced less more parts
parts-more low high less more (ends None) a b are = omega arith
parts-more low high less more (ends (Some place)) a b are = let begin = are.0 in let stop = are.1 in (omega arith, omega arith)
parts-more low high less more (next part parts) a b are =
    let begin = are.0 in (omega arith, are.1, parts-more part.after high part.after more parts (omega arith) b are.2)

-- a first part stands at its text's place, and what is after it after it
pub record IsFirst (text : Text) (t : FirstPart) : Type 0 where
  pub at : text.at ≡ t.part.at
  pub placed : IsPlaced t.part
  pub after : t.part.after ≡ t.rest.at
  pub within : t.rest.at + length t.rest.octets ≤ text.at + length text.octets

first-by : (text : Text) (first : ℕ) (h : Option Header) → HeaderWithin (length text.octets) h → IsFirst text (first_part_by text first h)
first-by text first None w = record { at = refl; placed = (omega arith, omega arith); after = refl; within = omega arith }
first-by text first (Some header) w =
    let piece = piece-within header.count header.rest in
    record { at = refl; placed = (omega arith, omega arith); after = refl; within = omega arith }

abbrev pub FirstStands : Text → Option FirstPart → Type 0
FirstStands text None = Unit {0}
FirstStands text (Some t) = IsFirst text t

first-if : (text : Text) (b : Bool) (t : FirstPart) → IsFirst text t → FirstStands text (if b then None else Some t)
first-if text true t is = tt
first-if text false t is = is

pub first-stands : (text : Text) → FirstStands text (first_part text)
unfolding first_part
first-stands text = by text.octets refl
  where
    by : (octets : List ℕ) → octets ≡ text.octets → FirstStands text (first_part_at text octets)
    by [] e = tt
    by (first ∷ octets) e =
        first-if text (nat_eq first 0) (first_part_by text first (header_at (first ∷ octets)))
        (first-by text first (header_at (first ∷ octets)) (subst (λ n. HeaderWithin n (header_at (first ∷ octets))) (ap length e) (header-within (first ∷ octets))))

end-placed : (b : Bool) (at n : ℕ) → ArePlaced at (at + n) (ends (if b then Some at else None))
end-placed true at n = (omega arith, omega arith)
end-placed false at n = omega arith

placed-by : (text : Text) (o : Option FirstPart) → FirstStands text o
    → ((t : FirstPart) → Some t ≡ o → ArePlaced t.rest.at (t.rest.at + length t.rest.octets) (parts_of t.rest))
    → ArePlaced text.at (text.at + length text.octets) (parts_by parts_of text o)
placed-by text None stands others = end-placed (text.whole || not (is_empty text.octets)) text.at (length text.octets)
placed-by text (Some t) stands others =
    let at = stands.at in let after = stands.after in let within = stands.within in (
      omega arith,
      stands.placed,
      parts-more t.rest.at (t.rest.at + length t.rest.octets) t.part.after (text.at + length text.octets) (parts_of t.rest) (omega arith) within (others t refl),
    )

placed-in : (turns : ℕ) (text : Text) → length text.octets ≤ turns → ArePlaced text.at (text.at + length text.octets) (parts_of text)
placed-in zero text le =
    subst (ArePlaced text.at (text.at + length text.octets)) (sym (parts-step text))
    (placed-by text (first_part text) (first-stands text) (λ t e. let shorter = first_part-shorter text t e in absurd (omega arith)))
placed-in (suc turns) text le =
    subst (ArePlaced text.at (text.at + length text.octets)) (sym (parts-step text))
    (placed-by text (first_part text) (first-stands text) (λ t e. let shorter = first_part-shorter text t e in placed-in turns t.rest (omega arith)))

pub parts-placed : (text : Text) → ArePlaced text.at (text.at + length text.octets) (parts_of text)
parts-placed text = placed-in (length text.octets) text (omega arith)

-- ---- types

-- of a part the least place of its faults is told, all of which are at the part
pub record Least (read : Form) (of : Faults) : Type 0 where
  pub told : (part : Part) (found : List Mark) → IsPlaced part → Told (read part found) (of part)
  pub within : (part : Part) → IsPlaced part → Within part.at part.after (of part)

-- the same of parts
pub record LeastParts (read : Parts → List Mark → Found) (of : Parts → Places) : Type 0 where
  pub told : (low high : ℕ) (parts : Parts) (found : List Mark) → ArePlaced low high parts → Told (read parts found) (of parts)
  pub within : (low high : ℕ) (parts : Parts) → ArePlaced low high parts → Within low high (of parts)

-- ---- primitive types

abbrev found_if : Bool → Found → Found → Found
found_if b x y = if b then x else y

primitive-told : (c whole right : Bool) (at : ℕ) (x : Found) (found : List Mark) → Told x (unless right at)
    → Told (found_if c (Err at) (found_if whole x (Ok found))) (unless (not c && (not whole || right)) at)
primitive-told true whole right at x found told = told-fault at
primitive-told false true right at x found told = told
primitive-told false false right at x found told = refl

number-told : (only : Option ℕ) (label : NumberLabel) (at : ℕ) (found : List Mark) (o : Option ℤ) → Told (forms.found_number only label at found o) (unless (is_number only o) at)
number-told only label at found None = told-fault at
number-told only label at found (Some n) = told-if (forms.is_allowed only n) _ (Err at) [] (at ∷ []) refl (told-fault at)

name-told : (only : Option (List ℕ)) (label : NameLabel) (at : ℕ) (found : List Mark) (o : Option (List ℕ)) → Told (forms.found_name only label at found o) (unless (is_name only o) at)
name-told only label at found None = told-fault at
name-told only label at found (Some arcs) = told-if (forms.is_allowed_name only arcs) _ (Err at) [] (at ∷ []) refl (told-fault at)

pub integer-least : (only : Option ℕ) (label : NumberLabel) → Least (forms.integer only label) (faults.integer only)
integer-least only label = record {
  told = λ part found is.
      primitive-told (is_constructed part.first) part.contents.whole (is_number only (integer_at part.contents.octets)) part.at _ found
      (number-told only label part.at found (integer_at part.contents.octets));
  within = λ part is. unless-within part.at part.after part.at _ (omega arith) (placed-order part is);
}

pub oid-least : (only : Option (List ℕ)) (label : NameLabel) → Least (forms.object_identifier only label) (faults.object_identifier only)
oid-least only label = record {
  told = λ part found is.
      primitive-told (is_constructed part.first) part.contents.whole (is_name only (oid_at part.contents.octets)) part.at _ found
      (name-told only label part.at found (oid_at part.contents.octets));
  within = λ part is. unless-within part.at part.after part.at _ (omega arith) (placed-order part is);
}

-- ---- constructed types

pub constructed-least : (read : Parts → List Mark → Found) (of : Parts → Places) → LeastParts read of → Least (forms.constructed read) (faults.constructed of)
constructed-least read of least = record {
  told = λ part found is.
      told-if (is_constructed part.first) (read (parts_of part.contents) found) (Err part.at) (of (parts_of part.contents)) (part.at ∷ [])
      (least.told part.contents.at (part.contents.at + length part.contents.octets) (parts_of part.contents) found (parts-placed part.contents)) (told-fault part.at);
  within = λ part is.
      within-if (is_constructed part.first) part.at part.after (of (parts_of part.contents)) (part.at ∷ [])
      (within-more part.contents.at (part.contents.at + length part.contents.octets) part.at part.after (of (parts_of part.contents)) is.0 is.1
      (least.within part.contents.at (part.contents.at + length part.contents.octets) (parts_of part.contents) (parts-placed part.contents)))
      (omega arith, placed-order part is, tt);
}

pub skipped-least : Least forms.skipped faults.skipped
skipped-least = constructed-least (λ parts found. Ok found) (λ parts. []) (record { told = λ low high parts found are. refl; within = λ low high parts are. tt })

-- ---- SEQUENCE OF

tagged-within : (tags : Tags) (read : Form) (of : Faults) (part : Part) → Least read of → IsPlaced part → Within part.at part.after (faults.tagged tags of part)
tagged-within tags read of part least is =
    within-if (has_tag tags part.first) part.at part.after (of part) (part.at ∷ []) (least.within part is) (omega arith, placed-order part is, tt)

each-within : (tags : Tags) (read : Form) (of : Faults) → Least read of → (low high : ℕ) (parts : Parts) → ArePlaced low high parts → Within low high (faults.each tags of parts)
each-within tags read of least low high (ends place) are = tt
each-within tags read of least low high (next part parts) are =
    let here = placed-order part are.1 in let begin = are.0 in let later = parts-order part.after high parts are.2 in
    within-both low high (faults.tagged tags of part) (faults.each tags of parts)
    (within-more part.at part.after low high (faults.tagged tags of part) begin later (tagged-within tags read of part least are.1))
    (within-more part.after high low high (faults.each tags of parts) (omega arith) (omega arith) (each-within tags read of least part.after high parts are.2))

each-told : (tags : Tags) (read : Form) (of : Faults) → Least read of → (low high : ℕ) (parts : Parts) (found : List Mark) → ArePlaced low high parts
    → Told (forms.each parts tags read found) (faults.each tags of parts)
each-told tags read of least low high (ends place) found are = refl
each-told tags read of least low high (next part parts) found are =
    by (has_tag tags part.first) (λ marks. each-told tags read of least part.after high parts marks are.2)
  where
    later : From part.after (faults.each tags of parts)
    later = within-from part.after high (faults.each tags of parts) (each-within tags read of least part.after high parts are.2)

    by : (b : Bool) → ((marks : List Mark) → Told (forms.each parts tags read marks) (faults.each tags of parts))
        → Told (found_if b (read part found >>= forms.each parts tags read) (Err part.at)) (places_if b (of part) (part.at ∷ []) ++ faults.each tags of parts)
    by true others =
        told-then (read part found) (forms.each parts tags read) (of part) (faults.each tags of parts) part.at part.after (least.told part found are.1) (least.within part are.1) others later
    by false others = told-before part.at (faults.each tags of parts) (from-less part.at part.after (faults.each tags of parts) (placed-order part are.1) later)

pub sequence_of-least : (tags : Tags) (read : Form) (of : Faults) → Least read of → Least (forms.sequence_of tags read) (faults.sequence_of tags of)
sequence_of-least tags read of least =
    constructed-least _ _ (record { told = each-told tags read of least; within = each-within tags read of least })
