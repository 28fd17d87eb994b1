-- An image that holds records isn't refused, and is read as them.
use Rattle.std.proofs.Common.{◌≡◌, ◌==◌, ℕ, ◌+◌, ◌<◌, ◌≤◌, true, false, nat_le, nat_lt, List, [], ◌∷◌, ◌++◌, length, drop, Option, None, refl, sym, ◌∙◌, ap, arith, take-append-drop}
use Rattle.std.proofs.lemmas.Bool.Decides.{nat_tests}
use Rattle.vf_journal.specs.Layout.{first_start, header, selected_start}
use Rattle.vf_journal.specs.Image.{Holds, Refusal, difference, misplaced, or_else, records_of, refusal}
use Rattle.vf_journal.proofs.Images.{gate_within}
use Rattle.vf_journal.proofs.Gates.{area_read}

-- octets that begin with those wanted don't differ from them
pub same_prefix : (wanted rest : List ℕ) (place : ℕ) → difference place wanted (wanted ++ rest) ≡ None
same_prefix [] rest place = refl
same_prefix (octet ∷ wanted) rest place =
    let test : (octet == octet) ≡ true = grind (arith, nat_tests) in
    rw test (same_prefix wanted rest (place + 1))

-- what an area wants of the length and the selected start
pub placed_right : (image : List ℕ) → first_start < length image → first_start ≤ selected_start image → selected_start image < length image → misplaced image ≡ None
placed_right image long high within =
    let enough : nat_le (length image) first_start ≡ false = grind (arith, nat_tests) in
    let after : nat_lt (selected_start image) first_start ≡ false = grind (arith, nat_tests) in
    let inside : nat_le (length image) (selected_start image) ≡ false = grind (arith, nat_tests) in
    rw (enough, after, inside) refl

pub not_refused : (image : List ℕ) (records : List (List ℕ)) → Holds image records → refusal image ≡ None
unfolding refusal
not_refused image records holds =
    let whole : image ≡ header ++ drop 16 image = sym (take-append-drop 16 image) ∙ ap (λ (l : List ℕ). l ++ drop 16 image) holds.head in
    let head : difference 0 header image ≡ None = ap (difference 0 header) whole ∙ same_prefix header (drop 16 image) 0 in
    let within = gate_within image records holds in
    ap (λ (r : Option Refusal). or_else r (misplaced image)) head ∙ placed_right image (omega (arith, holds.start)) holds.start (omega arith)

pub read_as_held : (image : List ℕ) (records : List (List ℕ)) → Holds image records → records_of image ≡ records
read_as_held image records holds = area_read records (drop (selected_start image) image) holds.area
