-- Links that have arrived, and notes on them.
use Rattle.std.proofs.Common.{◌≡◌, ℕ, ◌+◌, ◌<◌, ◌≤◌, Bool, true, false, ◌||◌, nat_eq, List, [], ◌∷◌, ◌++◌, take, drop, Some, nat_lt, get_or, drop-cons, add-one, if◌then◌else◌, length, length-append, map, cond, inl, inr, refl, sym, ap, ◌∙◌, arith}
use Rattle.std.specs.List.{list_any, count_by, AllByRecursion, IsDistinct}
use Rattle.std.specs.Cmp.{nat_eq_equiv}
use Rattle.std.proofs.lemmas.Bool.{or_cases, eqb-true, ltb-true}
use Rattle.std.proofs.lemmas.List.{length-map, map-append, append-nil}
use Rattle.std.proofs.lemmas.List.Folds.{list_any-append}
use Rattle.std.proofs.lemmas.List.Sums.{sum_by-cons}
use Rattle.std.proofs.lemmas.Map.Made.{length-le_from_is_member}
use Rattle.vf_base.specs.Links.{Traffic, HandsOut, after_octets, has_arrived, has_note}
use Rattle.vf_base.specs.Script.{Script, octets_of, traffic_of, is_arrival, link_of, OnceEach}
use Rattle.std.proofs.lemmas.Grind.{flat_map-append, take_at_read}
use mathlib.Core.Path.{fun_ext}
use Rattle.vf_base.specs.declared.events.ScriptEvent.{ScriptEvent}
use Rattle.vf_base.specs.declared.events.ScriptEvent.TheVariants as script

-- the links that have arrived, in order
abbrev arrived : List ScriptEvent → List ℕ
arrived [] = []
arrived (script.Arrived link ∷ events) = link ∷ arrived events
arrived (script.Octets link moment octets ∷ events) = arrived events
arrived (script.Ended link ∷ events) = arrived events

count_arrivals : (events : List ScriptEvent) → count_by is_arrival events ≡ length (arrived events)
count_arrivals [] = refl
count_arrivals (script.Arrived link ∷ events) = sum_by-cons (λ event. cond (is_arrival event) 1 0) (script.Arrived link) events ∙ let rest = count_arrivals events in omega arith
count_arrivals (script.Octets link moment octets ∷ events) = count_arrivals events
count_arrivals (script.Ended link ∷ events) = count_arrivals events

any_arrival : (link : ℕ) (events : List ScriptEvent) → has_arrived link events ≡ list_any (nat_eq link) (arrived events)
any_arrival link [] = refl
any_arrival link (script.Arrived number ∷ events) = ap (λ b. nat_eq link number || b) (any_arrival link events)
any_arrival link (script.Octets number moment octets ∷ events) = any_arrival link events
any_arrival link (script.Ended number ∷ events) = any_arrival link events

any_note : (link : ℕ) (notes : List (ℕ × ℕ)) → has_note link notes ≡ list_any (nat_eq link) (map link_of notes)
any_note link [] = refl
any_note link (note ∷ notes) = ap (λ b. nat_eq link note.0 || b) (any_note link notes)

both_false : (a b : Bool) → (a || b) ≡ false → (a ≡ false) × (b ≡ false)
both_false true b h = absurd (cc)
both_false false b h = (refl, h)

apart_more : (x y : ℕ) (xs : List ℕ) → nat_eq x y ≡ false → AllByRecursion (λ z. nat_eq x z ≡ false) xs → AllByRecursion (λ z. nat_eq x z ≡ false) (xs ++ y ∷ [])
apart_more x y [] other all = (other, tt)
apart_more x y (z ∷ xs) other all = (all.0, apart_more x y xs other all.1)

distinct_more : (xs : List ℕ) (y : ℕ) → IsDistinct nat_eq xs → list_any (nat_eq y) xs ≡ false → IsDistinct nat_eq (xs ++ y ∷ [])
unfolding IsDistinct
distinct_more [] y distinct absent = (tt, tt)
distinct_more (x ∷ xs) y distinct absent =
    let others = both_false (nat_eq y x) (list_any (nat_eq y) xs) absent in
    (apart_more x y xs (nat_eq_equiv.symm x y ∙ others.0) distinct.0, distinct_more xs y distinct.1 others.1)

only : (a b : ℕ) → (nat_eq a b || false) ≡ true → a ≡ b
only a b h = elim (or_cases (nat_eq a b) false h) [ inl same ↦ eqb-true a b same | inr none ↦ absurd (cc) ]

-- a link that has arrived and isn't noted may be
pub once_noted : (events : List ScriptEvent) (notes : List (ℕ × ℕ)) (link number : ℕ) → OnceEach events notes → has_arrived link events ≡ true → has_note link notes ≡ false → OnceEach events (notes ++ (link, number) ∷ [])
once_noted events notes link number once here new = (
  rw (map-append link_of notes ((link, number) ∷ [])) (distinct_more (map link_of notes) link once.0 (sym (any_note link notes) ∙ new)),
  λ other noted. elim (or_cases (has_note other notes) _ (sym (list_any-append (λ (note : ℕ × ℕ). nat_eq other note.0) notes ((link, number) ∷ [])) ∙ noted)) [
    | inl before ↦ once.1 other before
    | inr now ↦ rw (only other link now) here
  ],
)

-- as many links as arrive can be noted
pub room_for : (events : List ScriptEvent) (notes : List (ℕ × ℕ)) (link number : ℕ) → OnceEach events notes → has_arrived link events ≡ true → has_note link notes ≡ false → length notes < count_by is_arrival events
room_for events notes link number once here new =
    let more = once_noted events notes link number once here new in
    let all = notes ++ (link, number) ∷ [] in
    let fits : length (map link_of all) ≤ length (arrived events) =
    length-le_from_is_member nat_eq_equiv (map link_of all) (arrived events) more.0 (λ other member. sym (any_arrival other events) ∙ more.1 other (any_note other all ∙ member)) in
    let long : length (map link_of all) ≡ length notes + 1 = length-map all link_of ∙ length-append notes ((link, number) ∷ []) in
    omega (arith, count_arrivals events)

-- no notes at first
pub once_none : (events : List ScriptEvent) (notes : List (ℕ × ℕ)) → notes ≡ [] → OnceEach events notes
unfolding IsDistinct
once_none events notes none = rw none (tt, λ link noted. absurd (cc))

one_more : (same : Bool) (before octets : List ℕ) → before ++ ((if same then octets else []) ++ []) ≡ (if same then before ++ octets else before)
one_more true before octets = ap (λ more. before ++ more) (append-nil octets)
one_more false before octets = append-nil before

none_more : (same : Bool) (before : List ℕ) → (if same then before ++ [] else before) ≡ before
none_more true before = append-nil before
none_more false before = refl

-- one more piece is more octets of its link
pub traffic_more : (links : Script) (link : ℕ) (octets : List ℕ) → traffic_of (record links { pieces = links.pieces ++ record { link = link; octets = octets } ∷ [] }) ≡ after_octets link octets (traffic_of links)
traffic_more links link octets = ap (λ taken. record (traffic_of links) { taken = taken }) (fun_ext (λ number. flat_map-append (λ piece. if nat_eq number piece.link then piece.octets else []) links.pieces (record { link = link; octets = octets } ∷ []) ∙ one_more (nat_eq number link) (octets_of number links.pieces) octets))

pub traffic_none : (traffic : Traffic) (link : ℕ) → after_octets link [] traffic ≡ traffic
traffic_none traffic link = ap (λ taken. record traffic { taken = taken }) (fun_ext (λ number. none_more (nat_eq number link) (traffic.taken number)))

-- the event at a place of a script is handed out
pub hands_out : (events all : List ScriptEvent) (place : ℕ) (found event : ScriptEvent) (taken : ℕ → List ℕ) (shut failed : List (ℕ × ℕ)) → all ≡ events → true ≡ nat_lt place (length all) → found ≡ get_or all place found → found ≡ event → HandsOut (record { events = take place events; left = drop place events; taken = taken; shut = shut; failed = failed }) (Some (record { events = take (place + 1) events; left = drop (place + 1) events; taken = taken; shut = shut; failed = failed })) (Some event)
hands_out events all place found event taken shut failed whole inside is shape =
    let within : place < length events = ltb-true place (length events) (rw whole at (sym inside)) in
    let here : get_or events place event ≡ event = rw (whole, shape) at (sym is) in
    let next = drop-cons events place event within in
    let rest : drop place events ≡ event ∷ drop (place + 1) events = rw (here, ← add-one place) at next in
    let prefix : take (place + 1) events ≡ take place events ++ event ∷ [] = rw here at (take_at_read events place event within).1 in
    (drop (place + 1) events, rest, rw prefix refl)
