-- Octets that are some in turn of others.
use Rattle.std.proofs.Common.{◌≡◌, ℕ, ◌+◌, ◌-◌, ◌≤◌, List, length, take, drop, ap, sym, ◌∙◌, arith, drop-drop, length-drop, length-take-le, take-take}
use Rattle.std.proofs.lemmas.List.{drop-take, take_all}

pub whole : (len : ℕ) (kept : List ℕ) → len ≡ length kept → take len kept ≡ kept
whole len kept is = take_all len kept (omega (arith, is))

pub length_part : (start len : ℕ) (kept : List ℕ) → start + len ≤ length kept → length (take len (drop start kept)) ≡ len
length_part start len kept within = length-take-le len (drop start kept) (omega (arith, within, length-drop start kept))

-- a part of a part
pub part_of_part : (start len at n : ℕ) (kept : List ℕ) → at + n ≤ len → take n (drop (start + at) kept) ≡ take n (drop at (take len (drop start kept)))
part_of_part start len at n kept within =
    let left : ℕ = len - at in
    let on : at + left ≡ len = omega (arith, within) in
    ap (take n) (sym (drop-drop at start kept))
    ∙ sym (take-take n left (drop at (drop start kept)) (omega (arith, within)))
    ∙ ap (take n) (sym (drop-take at left (drop start kept)))
    ∙ ap (λ k. take n (drop at (take k (drop start kept)))) on

pub ruleset slices = (whole, length_part, part_of_part)
