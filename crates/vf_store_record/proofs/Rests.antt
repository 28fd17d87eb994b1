-- The last octets of a record.
use Rattle.std.proofs.Common.{◌≡◌, ℕ, ◌+◌, ◌-◌, ◌≤◌, List, length, drop, refl, ap, ◌∙◌, arith, drop-drop, length-drop}

-- the whole is the last of its octets
pub all_left : (all : List ℕ) → all ≡ drop (length all - length all) all
all_left all = let none : length all - length all ≡ 0 = omega arith in rw none refl

pub no_more_left : (all left : List ℕ) → left ≡ drop (length all - length left) all → length left ≤ length all
no_more_left all left is = omega (arith, ap length is, length-drop (length all - length left) all)

-- what is left after some of the last octets
pub left_after : (count : ℕ) (all left : List ℕ) → count ≤ length left → left ≡ drop (length all - length left) all
    → drop count left ≡ drop (length all - length (drop count left)) all
left_after count all left within is =
    let least : length left ≤ length all = no_more_left all left is in
    let on : length all - length left + count ≡ length all - length (drop count left) = omega (arith, length-drop count left) in
    ap (drop count) is ∙ drop-drop count (length all - length left) all ∙ ap (λ n. drop n all) on

pub ruleset rests = (all_left, no_more_left, left_after)
