-- Lists of values that are cut at a check.
use Rattle.std.proofs.Common.{◌≡◌, ℕ, zero, suc, ◌+◌, ◌≤◌, List, [], ◌∷◌, ◌++◌, length, take, min, refl, sym, ap, ◌∙◌, arith, length-append}
use Rattle.std.specs.List.{slice_index}
use Rattle.std.proofs.lemmas.List.{append_assoc}
use Rattle.std.proofs.Math.Seq.{take-append-add}
use Rattle.vf_base.specs.declared.element.Element.{Element}
use Rattle.vf_transfer.specs.Transfer.{joined, counts_from}
use Rattle.vf_transfer.specs.Checks.{mark}

pub joined_append : (closed others : List (List Element)) → joined (closed ++ others) ≡ joined closed ++ joined others
joined_append [] others = refl
joined_append (values ∷ closed) others = ap (λ rest. values ++ rest) (joined_append closed others) ∙ sym (append_assoc values (joined closed) (joined others))

pub length_counts : (before : ℕ) (closed : List (List Element)) → length (counts_from before closed) ≡ length closed
length_counts before [] = refl
length_counts before (values ∷ closed) = ap (λ n. suc n) (length_counts (before + length values) closed)

pub counts_append : (before : ℕ) (closed : List (List Element)) (values : List Element) → counts_from before (closed ++ values ∷ []) ≡ counts_from before closed ++ (before + length (joined closed ++ values)) ∷ []
counts_append before [] values = refl
counts_append before (first ∷ closed) values =
    let more : before + length first + length (joined closed ++ values) ≡ before + length ((first ++ joined closed) ++ values) = omega (arith, length-append (joined closed) values, length-append (first ++ joined closed) values, length-append first (joined closed)) in
    ap (λ counts. (before + length first) ∷ counts) (counts_append (before + length first) closed values ∙ ap (λ n. counts_from (before + length first) closed ++ n ∷ []) more)

pub take_counts : (number before : ℕ) (closed : List (List Element)) → take number (counts_from before closed) ≡ counts_from before (take number closed)
take_counts zero before closed = refl
take_counts (suc number) before [] = refl
take_counts (suc number) before (values ∷ closed) = ap (λ counts. (before + length values) ∷ counts) (take_counts number (before + length values) closed)

-- the count of a check is that of the values up to it
count_there : (number before : ℕ) (closed : List (List Element)) → suc number ≤ length closed → slice_index (counts_from before closed) number ≡ before + length (joined (take (suc number) closed))
count_there number before [] within = absurd (omega (arith, within))
count_there zero before (values ∷ closed) within = omega (arith, length-append values [])
count_there (suc number) before (values ∷ closed) within =
    let rest = count_there number (before + length values) closed (omega (arith, within)) in
    omega (arith, rest, length-append values (joined (take (suc number) closed)))

pub mark_there : (number : ℕ) (closed : List (List Element)) → number ≤ length closed → mark number (counts_from 0 closed) ≡ length (joined (take number closed))
mark_there zero closed within = refl
mark_there (suc number) closed within = let there = count_there number 0 closed within in omega (arith, there)

-- cutting so many values leaves those before the check
pub cut_there : (number : ℕ) (closed : List (List Element)) (after : List Element) → take (length (joined (take number closed))) (joined closed ++ after) ≡ joined (take number closed)
cut_there zero closed after = refl
cut_there (suc number) [] after = refl
cut_there (suc number) (values ∷ closed) after =
    rw (length-append values (joined (take number closed)), append_assoc values (joined closed) after, take-append-add values (joined closed ++ after) (length (joined (take number closed))))
    (ap (λ rest. values ++ rest) (cut_there number closed after))

-- a cut after another cut is the shorter one
pub take_least : {X : Type 0} (n m : ℕ) (xs : List X) → take (min n m) xs ≡ take n (take m xs)
take_least zero m xs = let none : min 0 m ≡ 0 = omega arith in rw none refl
take_least (suc n) zero xs = let none : min (suc n) 0 ≡ 0 = omega arith in rw none refl
take_least (suc n) (suc m) [] = let more : min (suc n) (suc m) ≡ suc (min n m) = omega arith in rw more refl
take_least (suc n) (suc m) (x ∷ xs) =
    let more : min (suc n) (suc m) ≡ suc (min n m) = omega arith in
    rw more (ap (λ rest. x ∷ rest) (take_least n m xs))
