-- One value that leaves some room can be written.
use Rattle.std.proofs.Common.{◌≡◌, ℕ, suc, ◌+◌, ◌*◌, ◌≤◌, Bool, true, false, List, [], ◌∷◌, All, flat_map, length, map, refl, ap, sym, subst, arith, length-append}
use Rattle.std.specs.Prelude.{ℤ, ◌&&◌, nat_le, Option, None, Some, if◌then◌else◌}
use Rattle.std.proofs.lemmas.Bool.{and_parts, leb-true}
use Rattle.std.proofs.lemmas.Bool.Decides.{nat_tests}
use Rattle.std.proofs.lemmas.List.Elements.{All-head, All-tail}
use Rattle.std.specs.Int.{w64, to_be_bytes, cast_unsigned}
use Rattle.std.specs.List.{list_all}
use Rattle.vf_base.specs.Oid.{is_arc, is_root, IsOid}
use Rattle.vf_ber.specs.Contents.{arc_octets, integer_octets, is_redundant, oid_octets, shortened}
use Rattle.vf_ber.specs.Limits.{measured}
use Rattle.vf_ber.specs.Spelling.{length_octets, spell}
use Rattle.vf_ber.specs.Tree.{depth}
use Rattle.vf_upper.specs.declared.contexts.ContextEntry.{ContextEntry}
use Rattle.vf_upper.specs.declared.contexts.Offer.{Offer}
use Rattle.vf_upper.specs.declared.primitive.Primitive.{Primitive}
use Rattle.vf_upper.specs.declared.primitive.Primitive.TheVariants.{Associate, Accepted, Refused, Release, Released, Data, Abort}
use Rattle.vf_upper.specs.CarriedCode.{Carried}
use Rattle.vf_upper.specs.Laws.{AreProposed, carried_in, contexts_in, EmptyHasRoom, HasRoom, IsOffer, IsRoomy}
use Rattle.vf_upper.specs.Sizes.{acse_size, all, apdu_size, both, carried_size, fitting, information_size, in_mode_size, integer_size, listed_size, outcome_size, placed_size, proposal_size, size_of, wrapped}
use Rattle.vf_upper.specs.Written.{acse_id, is_placed}
use Rattle.vf_upper.proofs.Measured.{length-sized, small-sized}

-- ---- sizes up to a number

abbrev AtMost : Option ℕ → ℕ → Type 0
AtMost None n = ⊥
AtMost (Some size) n = size ≤ n

at-most-along : (a b : Option ℕ) (n : ℕ) → a ≡ b → AtMost b n → AtMost a n
at-most-along a b n e most = let P : Option ℕ → Type 0 = λ o. AtMost o n in subst P (sym e) most

fitting-most : (k n : ℕ) → k ≤ n → n ≤ 1048576 → AtMost (fitting k) n
fitting-most k n le small = by (nat_le k 1048576) (grind (arith, nat_tests))
  where
    by : (b : Bool) → b ≡ true → AtMost (if b then Some k else None) n
    by true e = le
    by false e = absurd (cc)

length-short : (n : ℕ) → length (length_octets n) ≤ 4
length-short n = grind (arith, nat_tests)

wrapped-most : (o : Option ℕ) (n : ℕ) → AtMost o n → n + 5 ≤ 1048576 → AtMost (wrapped o) (n + 5)
wrapped-most None n most small = absurd most
wrapped-most (Some size) n most small = let short = length-short size in fitting-most (1 + length (length_octets size) + size) (n + 5) (omega arith) small

both-most : (a b : Option ℕ) (m n : ℕ) → AtMost a m → AtMost b n → m + n ≤ 1048576 → AtMost (both a b) (m + n)
both-most None b m n p q small = absurd p
both-most (Some a) None m n p q small = absurd q
both-most (Some a) (Some b) m n p q small = fitting-most (a + b) (m + n) (omega arith) small

more-most : (o : Option ℕ) (m n : ℕ) → AtMost o m → m ≤ n → AtMost o n
more-most None m n p le = absurd p
more-most (Some size) m n p le = omega arith

-- ---- identifiers and names

if-short : (b : Bool) (xs ys : List ℕ) (n : ℕ) → length xs ≤ n → length ys ≤ n → length (if b then xs else ys) ≤ n
if-short true xs ys n p q = p
if-short false xs ys n p q = q

shortened-short : (octets : List ℕ) → length (shortened octets) ≤ length octets
shortened-short [] = omega arith
shortened-short (octet ∷ octets) =
    let shorter = shortened-short octets in
    if-short (is_redundant (octet ∷ octets)) (shortened octets) (octet ∷ octets) (suc (length octets)) (omega arith) (omega arith)

eight : (n : ℕ) → length (to_be_bytes w64 n) ≡ 8
eight n = refl

integer-most : (n : ℤ) → AtMost (integer_size n) 13
integer-most n =
    let octets = to_be_bytes w64 (cast_unsigned w64 n) in
    let few : length (integer_octets n) ≤ 8 = omega (arith, shortened-short octets, eight (cast_unsigned w64 n)) in
    wrapped-most (Some (length (integer_octets n))) 8 few (omega arith)

arc-short : (n : ℕ) → length (arc_octets n) ≤ 5
arc-short n = grind (arith, nat_tests)

arcs-short : (arcs : List ℕ) → length (flat_map arc_octets arcs) ≤ 5 * length arcs
arcs-short [] = omega arith
arcs-short (arc ∷ arcs) = omega (arith, length-append (arc_octets arc) (flat_map arc_octets arcs), arc-short arc, arcs-short arcs)

oid-short : (arcs : List ℕ) → length arcs ≤ 16 → length (oid_octets arcs) ≤ 80
oid-short [] le = omega arith
oid-short (first ∷ []) le = omega arith
oid-short (first ∷ second ∷ arcs) le =
    omega (arith, length-append (arc_octets (40 * first + second)) (flat_map arc_octets arcs), arc-short (40 * first + second), arcs-short arcs)

few-arcs : (arcs : List ℕ) → IsOid arcs → length arcs ≤ 16
few-arcs arcs is =
    let first = and_parts (nat_le (length arcs) 16 && is_root arcs) (list_all is_arc arcs) is in
    leb-true (length arcs) 16 (and_parts (nat_le (length arcs) 16) (is_root arcs) first.0).0

proposal-most : (offer : Offer) → IsOffer offer → AtMost (proposal_size offer) 114
proposal-most offer is =
    let few : length (oid_octets offer.syntax) ≤ 80 = oid-short offer.syntax (few-arcs offer.syntax is.1) in
    let name = wrapped-most (Some (length (oid_octets offer.syntax))) 80 few (omega arith) in
    let rest = both-most (wrapped (Some (length (oid_octets offer.syntax)))) (Some 6) 85 6 name (omega arith) (omega arith) in
    more-most (proposal_size offer) 109 114 (wrapped-most _ 104 (both-most (integer_size offer.id) _ 13 91 (integer-most offer.id) rest (omega arith)) (omega arith)) (omega arith)

outcome-most : (accepted : Bool) → AtMost (outcome_size accepted) 9
outcome-most true = omega arith
outcome-most false = omega arith

-- ---- lists

all-most : {X : Type 0} (P : X → Type 0) (f : X → Option ℕ) (each : ℕ) → ((x : X) → P x → AtMost (f x) each) → (xs : List X) → All P xs → (total : Option ℕ) (n : ℕ) → AtMost total n
    → n + each * length xs ≤ 1048576 → AtMost (all total (map f xs)) (n + each * length xs)
all-most P f each most [] are total n p small = more-most total n (n + each * 0) p (omega arith)
all-most P f each most (x ∷ xs) are total n p small =
    let grown : n + each * suc (length xs) ≡ (n + each) + each * length xs = grind arith in
    let here = both-most total (f x) n each p (most x (All-head P x xs are)) (grind arith) in
    let rest = all-most P f each most xs (All-tail P x xs are) (both total (f x)) (n + each) here (omega (arith, grown)) in
    more-most (all (both total (f x)) (map f xs)) ((n + each) + each * length xs) (n + each * suc (length xs)) rest (omega (arith, grown))

-- ---- values

measured-most : (d : ℕ) (v : Carried) → depth v.tree ≤ d → length (spell v.tree) ≤ 1048576 → AtMost (measured d 1048576 v.tree) (length (spell v.tree))
measured-most d v shallow small = by (nat_le (depth v.tree) d && nat_le (length (spell v.tree)) 1048576) (tests (depth v.tree) d (length (spell v.tree)) shallow small)
  where
    tests : (k d n : ℕ) → k ≤ d → n ≤ 1048576 → (nat_le k d && nat_le n 1048576) ≡ true
    tests k d n p q = grind (arith, nat_tests)

    by : (b : Bool) → b ≡ true → AtMost (if b then Some (length (spell v.tree)) else None) (length (spell v.tree))
    by true e = omega arith
    by false e = absurd (cc)

placed-most : (id : ℤ) (size : Option ℕ) (n : ℕ) → AtMost size n → n + 23 ≤ 1048576 → AtMost (placed_size id size) (n + 23)
placed-most id size n most small =
    more-most (placed_size id size) ((13 + (n + 5)) + 5) (n + 23)
    (wrapped-most _ (13 + (n + 5)) (both-most (integer_size id) (wrapped size) 13 (n + 5) (integer-most id) (wrapped-most size n most (omega arith)) (omega arith)) (omega arith)) (omega arith)

one-most : (d : ℕ) (v : Carried) → depth v.tree ≤ d → length (spell v.tree) + 23 ≤ 1048576 → AtMost (all (Some 0) (map (carried_size d) (v ∷ []))) (length (spell v.tree) + 23)
one-most d v shallow small =
    let n = length (spell v.tree) in
    let here = placed-most v.context (measured d 1048576 v.tree) n (measured-most d v shallow (omega arith)) small in
    more-most (both (Some 0) (carried_size d v)) (0 + (n + 23)) (n + 23) (both-most (Some 0) (carried_size d v) 0 (n + 23) (omega arith) here (omega arith)) (omega arith)

-- an ACSE value with this value in its user information, within user data
acse-most : (id : ℤ) (fields d : ℕ) (v : Carried) → depth v.tree ≤ d → fields ≤ 21 → length (spell v.tree) + 82 ≤ 1048576
    → AtMost (acse_size id (apdu_size fields d (v ∷ []))) (length (spell v.tree) + 82)
acse-most id fields d v shallow few small =
    let n = length (spell v.tree) in
    let information = wrapped-most (all (Some 0) (map (carried_size d) (v ∷ []))) (n + 23) (one-most d v shallow (omega arith)) (omega arith) in
    let parts = both-most (Some fields) (information_size d (v ∷ [])) 21 ((n + 23) + 5) (omega arith) information (omega arith) in
    let apdu = wrapped-most _ (21 + ((n + 23) + 5)) parts (omega arith) in
    let list = placed-most id (apdu_size fields d (v ∷ [])) ((21 + ((n + 23) + 5)) + 5) apdu (omega arith) in
    more-most _ (((21 + ((n + 23) + 5)) + 5) + 23 + 5) (n + 82) (wrapped-most _ (((21 + ((n + 23) + 5)) + 5) + 23) list (omega arith)) (omega arith)

listed-most : (o : Option ℕ) (n : ℕ) → AtMost o n → n + 5 ≤ 1048576 → AtMost (wrapped o) (n + 5)
listed-most o n most small = wrapped-most o n most small

mode-most : (list user : Option ℕ) (m n : ℕ) → AtMost list m → AtMost user n → m + n + 15 ≤ 1048576 → AtMost (in_mode_size list user) (m + n + 15)
mode-most list user m n p q small =
    let inner = wrapped-most (both list user) (m + n) (both-most list user m n p q (omega arith)) (omega arith) in
    more-most _ ((5 + ((m + n) + 5)) + 5) (m + n + 15)
    (wrapped-most _ (5 + ((m + n) + 5)) (both-most (Some 5) (wrapped (both list user)) 5 ((m + n) + 5) (omega arith) inner (omega arith)) (omega arith)) (omega arith)

-- ---- primitives

some-size : (o : Option ℕ) (n : ℕ) → AtMost o n → (size : ℕ) × (o ≡ Some size) × (size ≤ n)
some-size None n most = absurd most
some-size (Some size) n most = (size, refl, most)

fits : (p : Primitive) (contexts : List ContextEntry) (n : ℕ) → is_placed p contexts ≡ true → AtMost (size_of p contexts) n → IsRoomy p contexts n
fits p contexts n placed most =
    let s = some-size (size_of p contexts) n most in
    let long = length-sized p contexts s.0 s.1 in
    (record { placed = placed; small = small-sized p contexts s.0 s.1 }, omega (arith, long, s.2))

-- the sizes of a primitive with one value
room : (p : Primitive) (contexts : List ContextEntry) (v : Carried) → AreProposed p → carried_in p ≡ v ∷ [] → depth v.tree ≤ 23 → 128 * (contexts_in p + 1) + length (spell v.tree) ≤ 1048576
    → AtMost (size_of p contexts) (128 * (contexts_in p + 1) + length (spell v.tree))
room (Associate offers values) contexts v is one shallow small =
    let n = length (spell v.tree) in
    let list = all-most IsOffer proposal_size 114 proposal-most offers is (Some 0) 0 (omega arith) (omega arith) in
    let request = acse-most (acse_id contexts) 9 23 v shallow (omega arith) (omega arith) in
    at-most-along _ _ _ (ap (λ vs. in_mode_size (listed_size (map proposal_size offers)) (acse_size (acse_id contexts) (apdu_size 9 23 vs))) one)
    (more-most _ (((0 + 114 * length offers) + 5) + (n + 82) + 15) _
    (mode-most _ _ ((0 + 114 * length offers) + 5) (n + 82) (wrapped-most _ (0 + 114 * length offers) list (omega arith)) request (omega arith)) (omega arith))
room (Accepted results values) contexts v is one shallow small =
    let n = length (spell v.tree) in
    let list = all-most (λ b. Unit {0}) outcome_size 9 (λ b u. outcome-most b) results (λ k d lt. tt) (Some 0) 0 (omega arith) (omega arith) in
    let response = acse-most (acse_id contexts) 21 23 v shallow (omega arith) (omega arith) in
    at-most-along _ _ _ (ap (λ vs. in_mode_size (listed_size (map outcome_size results)) (acse_size (acse_id contexts) (apdu_size 21 23 vs))) one)
    (more-most _ (((0 + 9 * length results) + 5) + (n + 82) + 15) _
    (mode-most _ _ ((0 + 9 * length results) + 5) (n + 82) (wrapped-most _ (0 + 9 * length results) list (omega arith)) response (omega arith)) (omega arith))
room (Refused results values) contexts v is one shallow small =
    let n = length (spell v.tree) in
    let list = all-most (λ b. Unit {0}) outcome_size 9 (λ b u. outcome-most b) results (λ k d lt. tt) (Some 0) 0 (omega arith) (omega arith) in
    let response = acse-most (acse_id contexts) 21 24 v (omega arith) (omega arith) (omega arith) in
    at-most-along _ _ _ (ap (λ vs. wrapped (both (listed_size (map outcome_size results)) (acse_size (acse_id contexts) (apdu_size 21 24 vs)))) one)
    (more-most _ ((((0 + 9 * length results) + 5) + (n + 82)) + 5) _
    (wrapped-most _ (((0 + 9 * length results) + 5) + (n + 82)) (both-most _ _ ((0 + 9 * length results) + 5) (n + 82) (wrapped-most _ (0 + 9 * length results) list (omega arith)) response (omega arith)) (omega arith))
    (omega arith))
room (Release values) contexts v is one shallow small =
    at-most-along _ _ _ (ap (λ vs. acse_size (acse_id contexts) (apdu_size 0 25 vs)) one)
    (more-most _ (length (spell v.tree) + 82) _ (acse-most (acse_id contexts) 0 25 v (omega arith) (omega arith) (omega arith)) (omega arith))
room (Released values) contexts v is one shallow small =
    at-most-along _ _ _ (ap (λ vs. acse_size (acse_id contexts) (apdu_size 0 25 vs)) one)
    (more-most _ (length (spell v.tree) + 82) _ (acse-most (acse_id contexts) 0 25 v (omega arith) (omega arith) (omega arith)) (omega arith))
room (Data values) contexts v is one shallow small =
    at-most-along _ _ _ (ap (λ vs. wrapped (all (Some 0) (map (carried_size 29) vs))) one)
    (more-most _ ((length (spell v.tree) + 23) + 5) _ (wrapped-most _ (length (spell v.tree) + 23) (one-most 29 v (omega arith) (omega arith)) (omega arith)) (omega arith))
room (Abort values) contexts v is one shallow small =
    at-most-along _ _ _ (ap (λ vs. wrapped (acse_size (acse_id contexts) (apdu_size 3 24 vs))) one)
    (more-most _ ((length (spell v.tree) + 82) + 5) _
    (wrapped-most _ (length (spell v.tree) + 82) (acse-most (acse_id contexts) 3 24 v (omega arith) (omega arith) (omega arith)) (omega arith)) (omega arith))

pub has_room : HasRoom
has_room p contexts v is one placed shallow small = fits p contexts _ placed (room p contexts v is one shallow small)

-- ---- without values

pub empty_has_room : EmptyHasRoom
empty_has_room (Associate offers values) contexts e = cc
empty_has_room (Accepted results values) contexts e = cc
empty_has_room (Refused [] []) contexts e =
    let user = wrapped-most (placed_size (acse_id contexts) (Some 25)) 48 (placed-most (acse_id contexts) (Some 25) 25 (omega arith) (omega arith)) (omega arith) in
    (fits (Refused [] []) contexts 60 refl (wrapped-most (both (Some 2) (acse_size (acse_id contexts) (Some 25))) 55 (both-most (Some 2) (acse_size (acse_id contexts) (Some 25)) 2 53 (omega arith) user (omega arith)) (omega arith))).0
empty_has_room (Refused [] (value ∷ values)) contexts e = cc
empty_has_room (Refused (result ∷ results) values) contexts e = cc
empty_has_room (Release values) contexts e = cc
empty_has_room (Released values) contexts e = cc
empty_has_room (Data values) contexts e = cc
empty_has_room (Abort []) contexts e =
    let user = wrapped-most (placed_size (acse_id contexts) (Some 7)) 30 (placed-most (acse_id contexts) (Some 7) 7 (omega arith) (omega arith)) (omega arith) in
    (fits (Abort []) contexts 40 refl (wrapped-most (acse_size (acse_id contexts) (Some 7)) 35 user (omega arith))).0
empty_has_room (Abort (value ∷ values)) contexts e = cc
