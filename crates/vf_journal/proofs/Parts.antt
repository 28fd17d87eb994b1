-- Which octets a write leaves as they were.
use Rattle.std.proofs.Common.{◌≡◌, ℕ, ◌+◌, ◌-◌, ◌≤◌, max, List, ◌++◌, length, take, drop, refl, sym, ◌∙◌, ap, arith, append_assoc, length-append, length-drop}
use Rattle.std.proofs.lemmas.List.{take-append-drop, take-take, take_at, drop_at, drop-drop, drop-take, length-take-le}
use Rattle.vf_disk.specs.Disk.{Torn, overwritten}
use Rattle.vf_journal.specs.Layout.{part}

-- a part is the end of a prefix
pub part_of_prefix : (image : List ℕ) (place count : ℕ) → part image place count ≡ drop place (take (place + count) image)
part_of_prefix image place count = sym (drop-take place count image)

-- parts of images that agree up to a place, or from one on
pub part_before : (at place count : ℕ) (old new : List ℕ) → take at new ≡ take at old → place + count ≤ at → part new place count ≡ part old place count
part_before at place count old new same le =
    let prefix : (image : List ℕ) → take (place + count) image ≡ take (place + count) (take at image) = λ image. sym (take-take (place + count) at image le) in
    part_of_prefix new place count
    ∙ ap (λ (octets : List ℕ). drop place octets) (prefix new ∙ ap (λ (octets : List ℕ). take (place + count) octets) same ∙ sym (prefix old))
    ∙ sym (part_of_prefix old place count)

pub drop_after : (from place : ℕ) (old new : List ℕ) → drop from new ≡ drop from old → from ≤ place → drop place new ≡ drop place old
drop_after from place old new same le =
    let to : from + (place - from) ≡ place = omega arith in
    let back : (image : List ℕ) → drop place image ≡ drop (place - from) (drop from image) = λ image. ap (λ (n : ℕ). drop n image) (sym to) ∙ sym (drop-drop (place - from) from image) in
    back new ∙ ap (λ (octets : List ℕ). drop (place - from) octets) same ∙ sym (back old)

pub part_after : (from place count : ℕ) (old new : List ℕ) → drop from new ≡ drop from old → from ≤ place → part new place count ≡ part old place count
part_after from place count old new same le = ap (λ (octets : List ℕ). take count octets) (drop_after from place old new same le)

-- a part from some octet on
pub part_from : (image : List ℕ) (place count from : ℕ) → from ≤ count → drop from (part image place count) ≡ part image (place + from) (count - from)
part_from image place count from le =
    let back : from + (count - from) ≡ count = omega arith in
    ap (λ (n : ℕ). drop from (take n (drop place image))) (sym back) ∙ drop-take from (count - from) (drop place image) ∙ ap (λ (l : List ℕ). take (count - from) l) (drop-drop from place image)

-- the octets of a block that stand from a later place on
pub begins_on : (image block : List ℕ) (place from next : ℕ) → block ≡ part image place (length block) → from ≤ length block → next ≡ place + from → drop from block ≡ part image next (length block - from)
begins_on image block place from next is le there =
    ap (λ (l : List ℕ). drop from l) is ∙ part_from image place (length block) from le ∙ ap (λ (n : ℕ). part image n (length block - from)) (sym there)

-- some of the octets that begin a list begin it too
prefix : (list : List ℕ) (many count : ℕ) → take count (take many list) ≡ take (length (take count (take many list))) list
prefix list many count =
    let first = take count (take many list) in
    let rest = drop count (take many list) ++ drop many list in
    let whole : list ≡ first ++ rest = sym (take-append-drop many list) ∙ ap (λ (l : List ℕ). l ++ drop many list) (sym (take-append-drop count (take many list))) ∙ append_assoc first (drop count (take many list)) (drop many list) in
    sym (ap (λ (l : List ℕ). take (length first) l) whole ∙ take_at first rest (length first) refl)

-- the octets of a record that stand in a block from its gate on
pub begun_part : (image octets : List ℕ) (gate count : ℕ) → octets ≡ part image gate (length octets) → 5 ≤ length octets → take count (drop 5 octets) ≡ part image (gate + 5) (length (take count (drop 5 octets)))
begun_part image octets gate count is long =
    let there : drop 5 octets ≡ part image (gate + 5) (length octets - 5) = ap (λ (l : List ℕ). drop 5 l) is ∙ part_from image gate (length octets) 5 long in
    ap (λ (l : List ℕ). take count l) there ∙ prefix (drop (gate + 5) image) (length octets - 5) count ∙ ap (λ (l : List ℕ). part image (gate + 5) (length (take count l))) (sym there)

-- parts that follow one another
pub parts_joined : (image : List ℕ) (place count more : ℕ) → part image place count ++ part image (place + count) more ≡ part image place (count + more)
parts_joined image place count more =
    let rest = drop place image in
    let front : take count (take (count + more) rest) ≡ take count rest = take-take count (count + more) rest (omega arith) in
    let back : drop count (take (count + more) rest) ≡ part image (place + count) more =
    drop-take count more rest ∙ ap (λ (l : List ℕ). take more l) (drop-drop count place image) in
    ap (λ (l : List ℕ). l ++ part image (place + count) more) (sym front)
    ∙ ap (λ (l : List ℕ). take count (take (count + more) rest) ++ l) (sym back)
    ∙ take-append-drop count (take (count + more) rest)

-- what is there of a part, with the next octets of it
pub part_goes_on : (image : List ℕ) (place : ℕ) (old new : List ℕ) → old ≡ part image place (length old) → new ≡ old ++ part image (place + length old) (length new - length old)
    → new ≡ part image place (length new)
part_goes_on image place old new there is =
    let more : ℕ = length new - length old in
    let next = part image (place + length old) more in
    let long : length old + more ≡ length new = omega (arith, ap length is, length-append old next) in
    is ∙ ap (λ (l : List ℕ). l ++ next) there ∙ parts_joined image place (length old) more ∙ ap (λ (n : ℕ). part image place n) long

-- what a write that succeeds gives
module _ (old : List ℕ) (at : ℕ) (octets : List ℕ) (low : at ≤ length old) where
  prefix_length : length (take at old) ≡ at
  prefix_length = length-take-le at old low

  grouped : overwritten old at octets ≡ take at old ++ (octets ++ drop (at + length octets) old)
  grouped = append_assoc (take at old) octets (drop (at + length octets) old)

  pub overwritten_prefix : take at (overwritten old at octets) ≡ take at old
  overwritten_prefix = ap (λ (image : List ℕ). take at image) grouped ∙ take_at (take at old) (octets ++ drop (at + length octets) old) at prefix_length

  pub overwritten_from : drop at (overwritten old at octets) ≡ octets ++ drop (at + length octets) old
  overwritten_from = ap (λ (image : List ℕ). drop at image) grouped ∙ drop_at (take at old) (octets ++ drop (at + length octets) old) at prefix_length

  pub overwritten_back : drop (at + length octets) (overwritten old at octets) ≡ drop (at + length octets) old
  overwritten_back =
      sym (drop-drop (length octets) at (overwritten old at octets))
      ∙ ap (λ (image : List ℕ). drop (length octets) image) overwritten_from
      ∙ drop_at octets (drop (at + length octets) old) (length octets) refl

  pub length-overwritten : length (overwritten old at octets) ≡ max (length old) (at + length octets)
  length-overwritten = omega (arith, ap length grouped, length-append (take at old) (octets ++ drop (at + length octets) old), length-append octets (drop (at + length octets) old), length-drop (at + length octets) old, prefix_length)

  -- it is one that a crash may have cut short
  pub torn_whole : Torn at (length octets) old (overwritten old at octets)
  torn_whole = record {
    before = overwritten_prefix;
    past = overwritten_back;
    no_shorter = omega (arith, length-overwritten);
    no_longer = omega (arith, length-overwritten);
  }
