-- Of what stands within [0] or [1], and of octets that are values, the least place of their faults is told.
use Rattle.std.proofs.Common.{◌≡◌, ℕ, zero, suc, ◌+◌, ◌<◌, ◌≤◌, Bool, true, false, true≢false, List, [], ◌∷◌, ◌++◌, length, drop, get_or, map, refl, ap, sym, subst, ◌∙◌, arith, inl, inr, length-append}
use Rattle.std.specs.Prelude.{not, nat_eq, take, Option, None, Some, Ok, Err, if◌then◌else◌}
use Rattle.std.proofs.lemmas.Bool.{cases_lt, le-ltb, lt-ltb}
use Rattle.std.proofs.lemmas.List.{length-drop, length-take}
use Rattle.vf_ber.specs.Reader.{reading}
use Rattle.vf_ber.specs.Reading.{Reading, Read, Short, Bad, Deep, Long}
use Rattle.vf_upper_grammar.specs.Faults as faults
use Rattle.vf_upper_grammar.specs.Faults.{Faults, OctetFaults, option_places, Places, unless}
use Rattle.vf_upper_grammar.specs.Forms.{Form, in_order, Tags}
use Rattle.vf_upper_grammar.specs.Marks.{Found, Mark, value}
use Rattle.vf_upper_grammar.specs.Parts.{FirstPart, first_part, Header, header_at, is_constructed, number_of, Part, parts_of, Text}
use Rattle.vf_upper_grammar.specs.Texts as texts
use Rattle.vf_upper_grammar.specs.Texts.{after, carried, carried_data, constructed_segment, cut_at, cut_to, explicit_held, explicit_in, fault_in, go_on, Held, held, held_in, located, nothing_held, OctetForm, one, place_of, places_from, Prefix, prefix, primitive_segment, segment, segments, segments_in, some, some_in, then_held, then_read, typed, typed_by}
use Rattle.vf_upper_grammar.specs.Types.{required}
use Rattle.vf_upper_grammar.specs.FaultPlaces as fault_places
use Rattle.vf_upper_grammar.proofs.Ends.{header-within, HeaderWithin}
use Rattle.vf_upper_grammar.proofs.Least.{FirstStands, first-stands, From, from-both, from-less, In, in-left, IsPlaced, Least, parts-placed, placed-order, Told, told-fault, told-if, told-then, unless-within, Within, within-both, within-if}
use Rattle.vf_upper_grammar.proofs.LeastOrdered.{alone-told, among-within, AreApart, LeastFields}
use Rattle.vf_upper_grammar.proofs.Locations.{explicit-within}

-- ---- places that rise

abbrev Rises : ℕ → List ℕ → ℕ → Type 0
Rises low [] end = low ≤ end
Rises low (place ∷ places) end = (low ≤ place) × Rises place places end

rises-less : (less low end : ℕ) (places : List ℕ) → less ≤ low → Rises low places end → Rises less places end
rises-less less low end [] le r = omega arith
rises-less less low end (place ∷ places) le r = let here = r.0 in (omega arith, r.1)

-- octets in one piece, and those after it
rises-then : (at mid end : ℕ) (octets places : List ℕ) → at + length octets ≤ mid → Rises mid places end → Rises at (places_from at octets ++ places) end
rises-then at mid end [] places le r = rises-less at mid end places (omega arith) r
rises-then at mid end (octet ∷ octets) places le r =
    (omega arith, rises-less at (at + 1) end (places_from (at + 1) octets ++ places) (omega arith) (rises-then (at + 1) mid end octets places (omega arith) r))

rises-alone : (at end : ℕ) (octets : List ℕ) → at + length octets ≤ end → Rises at (places_from at octets) end
rises-alone at end [] le = omega arith
rises-alone at end (octet ∷ octets) le = (omega arith, rises-less at (at + 1) end (places_from (at + 1) octets) (omega arith) (rises-alone (at + 1) end octets (omega arith)))

places-length : (at : ℕ) (octets : List ℕ) → length (places_from at octets) ≡ length octets
places-length at [] = refl
places-length at (octet ∷ octets) = ap suc (places-length (at + 1) octets)

abbrev place_among : List ℕ → ℕ → ℕ → ℕ
place_among [] end o = end
place_among (place ∷ places) end zero = place
place_among (place ∷ places) end (suc o) = place_among places end o

among-read : (places : List ℕ) (end o : ℕ) → o < length places → place_among places end o ≡ get_or places o 0
among-read [] end o lt = absurd (omega arith)
among-read (place ∷ places) end zero lt = refl
among-read (place ∷ places) end (suc o) lt = among-read places end o (omega arith)

among-past : (places : List ℕ) (end o : ℕ) → length places ≤ o → place_among places end o ≡ end
among-past [] end o le = refl
among-past (place ∷ places) end zero le = absurd (omega arith)
among-past (place ∷ places) end (suc o) le = among-past places end o (omega arith)

among-low : (low : ℕ) (places : List ℕ) (end : ℕ) → Rises low places end → (o : ℕ) → low ≤ place_among places end o
among-low low [] end r o = r
among-low low (place ∷ places) end r zero = r.0
among-low low (place ∷ places) end r (suc o) = let here = r.0 in let later = among-low place places end r.1 o in omega arith

among-high : (low : ℕ) (places : List ℕ) (end : ℕ) → Rises low places end → (o : ℕ) → place_among places end o ≤ end
among-high low [] end r o = omega arith
among-high low (place ∷ places) end r zero = up place places r.1
  where
    up : (low : ℕ) (places : List ℕ) → Rises low places end → low ≤ end
    up low [] r = r
    up low (place ∷ places) r = let here = r.0 in let later = up place places r.1 in omega arith
among-high low (place ∷ places) end r (suc o) = among-high place places end r.1 o

among-rises : (low : ℕ) (places : List ℕ) (end : ℕ) → Rises low places end → (o p : ℕ) → o ≤ p → place_among places end o ≤ place_among places end p
among-rises low [] end r o p le = omega arith
among-rises low (place ∷ places) end r zero zero le = omega arith
among-rises low (place ∷ places) end r zero (suc p) le = among-low place places end r.1 p
among-rises low (place ∷ places) end r (suc o) zero le = absurd (omega arith)
among-rises low (place ∷ places) end r (suc o) (suc p) le = among-rises place places end r.1 o p (omega arith)

-- ---- octets that are held

-- the places of octets rise from one place to another
record IsOrderly (low high : ℕ) (h : Held) : Type 0 where
  long : length h.places ≡ length h.octets
  rises : Rises low h.places h.end
  stops : h.end ≤ high

orderly-more : (low high less more : ℕ) (h : Held) → less ≤ low → high ≤ more → IsOrderly low high h → IsOrderly less more h
orderly-more low high less more h a b is = let stop = is.stops in record { long = is.long; rises = rises-less less low h.end h.places a is.rises; stops = omega arith }

orderly-if : (low high : ℕ) (b : Bool) (x y : Held) → IsOrderly low high x → IsOrderly low high y → IsOrderly low high (if b then x else y)
orderly-if low high true x y p q = p
orderly-if low high false x y p q = q

abbrev nat_if : Bool → ℕ → ℕ → ℕ
nat_if b m n = if b then m else n

place-is : (h : Held) (o : ℕ) → length h.places ≡ length h.octets → place_of h o ≡ place_among h.places h.end o
place-is h o long = elim (cases_lt o (length h.octets)) [
  | inl lt ↦ ap (λ b. nat_if b (get_or h.places o 0) h.end) (lt-ltb o (length h.octets) lt) ∙ sym (among-read h.places h.end o (omega arith))
  | inr le ↦ ap (λ b. nat_if b (get_or h.places o 0) h.end) (le-ltb o (length h.octets) le) ∙ sym (among-past h.places h.end o (omega arith))
]

place-low : (low high : ℕ) (h : Held) (o : ℕ) → IsOrderly low high h → low ≤ place_of h o
place-low low high h o is = let same = place-is h o is.long in let le = among-low low h.places h.end is.rises o in omega arith

place-high : (low high : ℕ) (h : Held) (o : ℕ) → IsOrderly low high h → place_of h o ≤ h.end
place-high low high h o is = let same = place-is h o is.long in let le = among-high low h.places h.end is.rises o in omega arith

place-rises : (low high : ℕ) (h : Held) (o p : ℕ) → IsOrderly low high h → o ≤ p → place_of h o ≤ place_of h p
place-rises low high h o p is le =
    let same = place-is h o is.long in let also = place-is h p is.long in let rise = among-rises low h.places h.end is.rises o p le in omega arith

-- ---- segments

nothing-orderly : (at end high : ℕ) (broken : Bool) → at ≤ end → end ≤ high → IsOrderly at high (nothing_held end broken)
nothing-orderly at end high broken a b = record { long = refl; rises = a; stops = b }

abbrev Orders : ℕ → (Text → Held) → Type 0
Orders end others = (text : Text) → text.at + length text.octets ≤ end → IsOrderly text.at end (others text)

cut-orderly : (others : Text → Held) (end : ℕ) (text : Text) (rest : List ℕ) → Orders end others → text.at + length text.octets ≤ end → length rest ≤ length text.octets
    → IsOrderly text.at end (others (cut_to text rest))
cut-orderly others end text rest orders le few =
    orderly-more (cut_to text rest).at end text.at end (others (cut_to text rest)) (omega arith) (omega arith) (orders (cut_to text rest) (omega arith))

primitive-orderly : (others : Text → Held) (end : ℕ) (text : Text) (o : Option FirstPart) → Orders end others → text.at + length text.octets ≤ end → FirstStands text o
    → IsOrderly text.at end (primitive_segment others end o)
primitive-orderly others end text None orders le stands = nothing-orderly text.at end end false (omega arith) (omega arith)
primitive-orderly others end text (Some t) orders le stands =
    let at = stands.at in let placed = stands.placed in let begin = placed.0 in let stop = placed.1 in let after = stands.after in let within = stands.within in
    let contents = t.part.contents in
    let rest = orders t.rest (omega arith) in
    record {
      long = length-append (places_from contents.at contents.octets) (others t.rest).places
          ∙ ap (λ n. n + length (others t.rest).places) (places-length contents.at contents.octets) ∙ ap (λ n. length contents.octets + n) rest.long
          ∙ sym (length-append contents.octets (others t.rest).octets);
      rises = rises-less text.at contents.at (others t.rest).end (places_from contents.at contents.octets ++ (others t.rest).places) (omega arith)
          (rises-then contents.at t.rest.at (others t.rest).end contents.octets (others t.rest).places (omega arith) rest.rises);
      stops = rest.stops;
    }

constructed-orderly : (others : Text → Held) (end : ℕ) (text : Text) (h : Option Header) → Orders end others → text.at + length text.octets ≤ end → HeaderWithin (length text.octets) h
    → IsOrderly text.at end (constructed_segment others text end h)
constructed-orderly others end text None orders le w = nothing-orderly text.at end end false (omega arith) (omega arith)
constructed-orderly others end text (Some header) orders le w = cut-orderly others end text header.rest orders le (omega arith)

segment-orderly : (others : Text → Held) (end : ℕ) (text : Text) (octets : List ℕ) → octets ≡ text.octets → Orders end others → text.at + length text.octets ≤ end
    → IsOrderly text.at end (segment others text end octets)
segment-orderly others end text [] e orders le = nothing-orderly text.at end end false (omega arith) (omega arith)
segment-orderly others end text (first ∷ octets) e orders le =
    let long : suc (length octets) ≡ length text.octets = ap length e in
    orderly-if text.at end (nat_eq first 0) _ _ (cut-orderly others end text (drop 1 octets) orders le (omega (arith, length-drop 1 octets)))
    (orderly-if text.at end (nat_eq first 4) _ _ (primitive-orderly others end text (first_part text) orders le (first-stands text))
    (orderly-if text.at end (nat_eq first 36) _ _
    (constructed-orderly others end text (header_at (first ∷ octets)) orders le (subst (λ n. HeaderWithin n (header_at (first ∷ octets))) long (header-within (first ∷ octets))))
    (nothing-orderly text.at text.at end true (omega arith) (omega arith))))

segments_in-orderly : (turns end : ℕ) → Orders end (segments_in turns end)
unfolding segments_in
segments_in-orderly zero end text le = nothing-orderly text.at end end false (omega arith) (omega arith)
segments_in-orderly (suc turns) end text le = segment-orderly (segments_in turns end) end text text.octets refl (segments_in-orderly turns end) le

segments-orderly : (end : ℕ) → Orders end (segments end)
unfolding segments
segments-orderly end text le = segments_in-orderly (suc (length text.octets)) end text le

-- ---- what a part holds

piece-orderly : (text : Text) (end : ℕ) → text.at + length text.octets ≤ end → IsOrderly text.at end (held_in text end)
piece-orderly text end le = record { long = places-length text.at text.octets; rises = rises-alone text.at end text.octets le; stops = omega arith }

explicit-orderly : (text : Text) → IsOrderly text.at (text.at + length text.octets) (explicit_held text)
explicit-orderly text =
    let seen : Text = record { octets = explicit_in text; at = text.at; whole = text.whole } in
    let few = explicit-within text in
    orderly-more text.at (text.at + length (explicit_in text)) text.at (text.at + length text.octets) (explicit_held text) (omega arith) (omega arith)
    (piece-orderly seen (text.at + length (explicit_in text)) (omega arith))

abbrev HoldsOrderly : Part → Option Held → Type 0
HoldsOrderly part None = Unit {0}
HoldsOrderly part (Some h) = IsOrderly part.at part.after h

holds-if : (part : Part) (b : Bool) (x y : Option Held) → HoldsOrderly part x → HoldsOrderly part y → HoldsOrderly part (if b then x else y)
holds-if part true x y p q = p
holds-if part false x y p q = q

held-orderly : (part : Part) → IsPlaced part → HoldsOrderly part (held part)
held-orderly part is =
    let begin = is.0 in let stop = is.1 in
    let contents = part.contents in
    holds-if part (nat_eq (number_of part.first) 0) _ _
    (holds-if part (is_constructed part.first) (Some (explicit_held contents)) None
    (orderly-more contents.at (contents.at + length contents.octets) part.at part.after (explicit_held contents) begin stop (explicit-orderly contents)) tt)
    (holds-if part (is_constructed part.first) (Some (segments part.after contents)) (Some (held_in contents part.after))
    (orderly-more contents.at part.after part.at part.after (segments part.after contents) begin (omega arith) (segments-orderly part.after contents stop))
    (orderly-more contents.at part.after part.at part.after (held_in contents part.after) begin (omega arith) (piece-orderly contents part.after stop)))

-- ---- places brought back

in-map : (f : ℕ → ℕ) (at : ℕ) (places : Places) → In at places → In (f at) (map f places)
in-map f at [] i = absurd i
in-map f at (place ∷ places) (inl e) = inl (ap f e)
in-map f at (place ∷ places) (inr i) = inr (in-map f at places i)

from-map : (low high : ℕ) (h : Held) (at : ℕ) (places : Places) → IsOrderly low high h → From at places → From (place_of h at) (map (place_of h) places)
from-map low high h at [] is from = tt
from-map low high h at (place ∷ places) is from = (place-rises low high h at place is from.0, from-map low high h at places is from.1)

unless-from : (at end : ℕ) (b : Bool) → at ≤ end → From at (unless b end)
unless-from at end true le = tt
unless-from at end false le = (le, tt)

located-told : (low high : ℕ) (h : Held) (x : Found) (places : Places) → IsOrderly low high h → Told x places → Told (located h x) (map (place_of h) places ++ unless (not h.broken) h.end)
located-told low high h (Ok marks) places is told = subst (λ (ps : Places). Told (located h (Ok marks)) (map (place_of h) ps ++ unless (not h.broken) h.end)) (sym told) (by h.broken)
  where
    by : (b : Bool) → Told (if b then Err h.end else Ok marks) (unless (not b) h.end)
    by true = told-fault h.end
    by false = refl
located-told low high h (Err at) places is told = (
  in-left (place_of h at) (map (place_of h) places) (unless (not h.broken) h.end) (in-map (place_of h) at places told.0),
  from-both (place_of h at) (map (place_of h) places) (unless (not h.broken) h.end) (from-map low high h at places is told.1)
      (unless-from (place_of h at) h.end (not h.broken) (place-high low high h at is)),
)

map-within : (low high : ℕ) (h : Held) (places : Places) → IsOrderly low high h → Within low high (map (place_of h) places)
map-within low high h [] is = tt
map-within low high h (place ∷ places) is =
    let stop = is.stops in let le = place-high low high h place is in (place-low low high h place is, omega arith, map-within low high h places is)

end-low : (low high : ℕ) (h : Held) → IsOrderly low high h → low ≤ h.end
end-low low high h is = let a = place-low low high h 0 is in let b = place-high low high h 0 is in omega arith

-- ---- forms of octets

-- of octets the least place of their faults is told
pub record LeastOctets (form : OctetForm) (of : OctetFaults) : Type 0 where
  pub told : (octets : List ℕ) (found : List Mark) → Told (form octets found) (of octets)

carried-told : (form : OctetForm) (of : OctetFaults) (part : Part) (found : List Mark) (o : Option Held) → LeastOctets form of → HoldsOrderly part o
    → Told (texts.carried_by form part.at found o) (faults.within of part.at o)
carried-told form of part found None least is = told-fault part.at
carried-told form of part found (Some h) least is = located-told part.at part.after h (form h.octets found) (of h.octets) is (least.told h.octets found)

carried-within : (of : OctetFaults) (part : Part) (o : Option Held) → IsPlaced part → HoldsOrderly part o → Within part.at part.after (faults.within of part.at o)
carried-within of part None placed is = (omega arith, placed-order part placed, tt)
carried-within of part (Some h) placed is =
    within-both part.at part.after (map (place_of h) (of h.octets)) (unless (not h.broken) h.end) (map-within part.at part.after h (of h.octets) is)
    (unless-within part.at part.after h.end (not h.broken) (end-low part.at part.after h is) is.stops)

pub carried-least : (form : OctetForm) (of : OctetFaults) → LeastOctets form of → Least (carried form) (faults.carried of)
carried-least form of least = record {
  told = λ part found is. carried-told form of part found (held part) least (held-orderly part is);
  within = λ part is. carried-within of part (held part) is (held-orderly part is);
}

-- ---- values

value-told : (at : ℕ) (octets : List ℕ) (f : ℕ → List ℕ → List Mark → Found) (g : ℕ → List ℕ → Places) (found : List Mark) (v : Reading)
    → ((place : ℕ) (rest : List ℕ) (marks : List Mark) → Told (f place rest marks) (g place rest)) → Told (then_read at octets f found v) (faults.value_at at octets g v)
value-told at octets f g found (Read tree n) told = told (at + n) (drop n octets) (found ++ value tree ∷ [])
value-told at octets f g found Short told = told-fault (at + length octets)
value-told at octets f g found (Bad place) told = told-fault (at + place)
value-told at octets f g found (Deep place) told = told-fault (at + place)
value-told at octets f g found (Long place) told = told-fault (at + place)

nothing-told : (at : ℕ) (rest : List ℕ) (marks : List Mark) → Told (texts.nothing at rest marks) (faults.nothing at rest)
nothing-told at [] marks = refl
nothing-told at (octet ∷ octets) marks = told-fault at

pub one-least : LeastOctets one faults.one
unfolding one
one-least = record { told = λ octets found. value-told 0 octets texts.nothing faults.nothing found (reading octets) nothing-told }

go_on-told : (f : ℕ → List ℕ → List Mark → Found) (g : ℕ → List ℕ → Places) → ((place : ℕ) (rest : List ℕ) (marks : List Mark) → Told (f place rest marks) (g place rest))
    → (place : ℕ) (rest : List ℕ) (marks : List Mark) → Told (go_on f place rest marks) (faults.none_or g place rest)
go_on-told f g told place [] marks = refl
go_on-told f g told place (octet ∷ octets) marks = told place (octet ∷ octets) marks

some_in-told : (turns place : ℕ) (rest : List ℕ) (marks : List Mark) → Told (some_in turns place rest marks) (faults.some_in turns place rest)
unfolding some_in faults.some_in
some_in-told zero place rest marks = told-fault place
some_in-told (suc turns) place rest marks =
    value-told place rest (go_on (some_in turns)) (faults.none_or (faults.some_in turns)) marks (reading rest) (go_on-told (some_in turns) (faults.some_in turns) (some_in-told turns))

pub some-least : LeastOctets some faults.some
unfolding some
some-least = record { told = λ octets found. some_in-told (suc (length octets)) 0 octets found }

pub carried_data-least : Least carried_data faults.carried_data
carried_data-least = record {
  told = λ part found is.
      told-if (nat_eq (number_of part.first) 0) _ _ _ _ (ones.told part found is) (others.told part found is);
  within = λ part is.
      within-if (nat_eq (number_of part.first) 0) part.at part.after _ _ (ones.within part is) (others.within part is);
}
  where
    ones : Least (carried one) (faults.carried faults.one)
    ones = carried-least one faults.one one-least

    others : Least (carried some) (faults.carried faults.some)
    others = carried-least some faults.some some-least

-- ---- a value with a tag

unless-told : (o : Option ℕ) (marks : List Mark) → Told (texts.unless o marks) (option_places o)
unless-told None marks = refl
unless-told (Some place) marks = told-fault place

-- the fault of octets stands after those before it
fault-after : (octets : List ℕ) (v : Reading) → From (length (prefix octets v).octets) (option_places (prefix octets v).fault)
fault-after octets (Read tree n) = by (nat_eq n (length octets))
  where
    by : (b : Bool) → From (length (take n octets)) (option_places (if b then None else Some n))
    by true = tt
    by false = (omega (arith, length-take n octets), tt)
fault-after octets Short = (omega (arith, length-take (length octets) octets), tt)
fault-after octets (Bad place) = (omega (arith, length-take place octets), tt)
fault-after octets (Deep place) = (omega (arith, length-take place octets), tt)
fault-after octets (Long place) = (omega (arith, length-take place octets), tt)

pub typed-least : (tags : Tags) (read : Form) (of : Faults) → Least read of → LeastOctets (typed tags read) (faults.typed tags of)
unfolding typed
typed-least tags read of least = record { told = λ octets found. by octets (prefix octets (reading octets)) found (fault-after octets (reading octets)) }
  where
    field : LeastFields (required tags read ∷ []) (fault_places.required tags of ∷ [])
    field = (record { tags = refl; required = refl; least = least }, tt)

    alone : AreApart (fault_places.required tags of ∷ [])
    alone = ((λ part e. absurd (true≢false (sym e))), tt)

    by : (octets : List ℕ) (seen : Prefix) (found : List Mark) → From (length seen.octets) (option_places seen.fault) → Told (typed_by tags read seen found) (faults.typed_by tags of seen)
    by octets seen found from =
        let text : Text = record { octets = seen.octets; at = 0; whole = seen.whole } in
        let here : Told (in_order (parts_of text) false (required tags read ∷ []) (required tags read ∷ []) found) (faults.fields_alone (fault_places.required tags of ∷ []) (parts_of text)) =
        alone-told (required tags read ∷ []) (fault_places.required tags of ∷ []) field alone 0 (0 + length seen.octets) (parts_of text) found (parts-placed text) in
        let within : Within 0 (0 + length seen.octets) (faults.fields_alone (fault_places.required tags of ∷ []) (parts_of text)) =
        among-within (faults.following (fault_places.required tags of ∷ [])) (required tags read ∷ []) (fault_places.required tags of ∷ []) field 0 (0 + length seen.octets) [] (parts_of text) (parts-placed text) in
        told-then _ (texts.unless seen.fault) _ (option_places seen.fault) 0 (0 + length seen.octets) here within (unless-told seen.fault)
        (from-less (0 + length seen.octets) (length seen.octets) (option_places seen.fault) (omega arith) from)
