-- What stands at the start of octets that begin with a gate, told by a block of them.
use Rattle.std.proofs.Common.{◌≡◌, ◌≢◌, ℕ, suc, ◌+◌, ◌-◌, ◌<◌, ◌≤◌, List, [], ◌∷◌, ◌++◌, length, get_or, take, drop, None, Some, refl, sym, ◌∙◌, ap, arith, length-drop, take-append-drop}
use Rattle.std.proofs.lemmas.List.{drop-drop}
use Rattle.std.specs.Prelude.{option_map}
use Rattle.vf_journal.specs.Layout.{length_named, part}
use Rattle.vf_journal.specs.Records.{first_record}
use Rattle.vf_journal.specs.Reading.{BeginsWith}
use Rattle.vf_journal.proofs.Gates.{first_closed, first_short, first_whole}
use Rattle.vf_journal.proofs.Numbers.{length_named-append}

pub begins_split : (octets : List ℕ) (left : ℕ) (all : List ℕ) → BeginsWith octets left all → all ≡ octets ++ drop (length octets) all
begins_split octets left all begins = sym (take-append-drop (length octets) all) ∙ ap (λ (l : List ℕ). l ++ drop (length octets) all) (sym begins.0)

-- no octets, or fewer than six
pub record_few : (all : List ℕ) → length all < 6 → first_record all ≡ None
record_few [] few = refl
record_few (gate ∷ after) few = first_short gate after (omega arith)

-- the gate and the length, told by the first octets
alike : (octets : List ℕ) (left : ℕ) (all : List ℕ) → BeginsWith octets left all → 5 ≤ length octets → (get_or all 0 0 ≡ get_or octets 0 0) × (length_named (drop 1 all) ≡ length_named (drop 1 octets))
alike [] left all begins long = absurd (omega arith)
alike (gate ∷ back) left all begins long =
    let rest = drop (length (gate ∷ back)) all in
    let whole = begins_split (gate ∷ back) left all begins in
    (ap (λ (l : List ℕ). get_or l 0 0) whole, ap (λ (l : List ℕ). length_named (drop 1 l)) whole ∙ length_named-append back rest (omega arith))

closed : (all : List ℕ) → get_or all 0 0 ≡ 0 → first_record all ≡ None
closed [] is = refl
closed (gate ∷ after) is = first_closed gate after is

short : (all : List ℕ) → length all < length_named (drop 1 all) + 6 → first_record all ≡ None
short [] less = refl
short (gate ∷ after) less = first_short gate after (omega arith)

whole : (all : List ℕ) (count : ℕ) → 0 < length all → length_named (drop 1 all) ≡ count → get_or all 0 0 ≢ 0 → count + 6 ≤ length all → first_record all ≡ Some (take count (drop 5 all), drop (count + 5) all)
whole [] count some is opened long = absurd (omega arith)
whole (gate ∷ after) count some is opened long =
    let next : suc (count + 4) ≡ count + 5 = omega arith in
    first_whole gate after opened (omega (arith, is))
    ∙ ap (λ (n : ℕ). Some (take n (drop 4 after), drop (n + 4) after)) is
    ∙ ap (λ (n : ℕ). Some (take count (drop 4 after), drop n (gate ∷ after))) next

pub record_short : (octets : List ℕ) (left : ℕ) (all : List ℕ) → BeginsWith octets left all → 5 ≤ length octets → left < length_named (drop 1 octets) + 6 → first_record all ≡ None
record_short octets left all begins long less = short all (omega (arith, (alike octets left all begins long).1, begins.1))

pub record_whole : (octets : List ℕ) (left : ℕ) (all : List ℕ) (count : ℕ) → BeginsWith octets left all → 5 ≤ length octets → length octets ≤ left → length_named (drop 1 octets) ≡ count → get_or octets 0 0 ≢ 0 → count + 6 ≤ left
    → first_record all ≡ Some (take count (drop 5 all), drop (count + 5) all)
record_whole octets left all count begins long within is opened enough =
    let same = alike octets left all begins long in
    whole all count (omega (arith, begins.1)) (same.1 ∙ is) (λ zero. opened (sym same.0 ∙ zero)) (omega (arith, begins.1))

-- a record that is read by itself
pub record_read : (image item : List ℕ) (gate count : ℕ) (rest : List ℕ) → first_record (drop gate image) ≡ Some (take count (drop 5 (drop gate image)), rest) → item ≡ part image (gate + 5) count
    → Some item ≡ option_map (λ (found : List ℕ × List ℕ). found.0) (first_record (drop gate image))
record_read image item gate count rest is read =
    let same : take count (drop 5 (drop gate image)) ≡ item = ap (λ (l : List ℕ). take count l) (drop-drop 5 gate image) ∙ sym read in
    rw is (ap Some (sym same))

-- octets from a later one of a block on, of which the first stand at a place
pub begins_there : (image octets block : List ℕ) (gate from size : ℕ) → length image ≡ size → octets ≡ drop from block → drop from block ≡ part image gate (length block - from) → BeginsWith octets (size - gate) (drop gate image)
begins_there image octets block gate from size size_is is begins =
    let count : length octets ≡ length block - from = ap length is ∙ length-drop from block in
    (is ∙ begins ∙ ap (λ (n : ℕ). take n (drop gate image)) (sym count), length-drop gate image ∙ ap (λ (n : ℕ). n - gate) size_is)
