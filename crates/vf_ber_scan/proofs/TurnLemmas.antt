-- How many octets the reader's parts take, and that their turns don't matter where they are enough.
use Rattle.std.proofs.Common.{◌≡◌, ℕ, zero, suc, ◌+◌, ◌-◌, ◌*◌, ◌≤◌, Bool, cond, List, [], ◌∷◌, length, refl, ap, ◌∙◌, arith, length-append, nat_eq, nat_lt}
use Rattle.std.specs.Prelude.{Option, Some, None, Ok, Err, ◌&&◌}
use Rattle.vf_ber.specs.declared.room.Room.{Room}
use Rattle.vf_ber.specs.declared.room.Room.TheVariants.{Exact}
use Rattle.vf_ber.specs.Reader.{Reads, Reader, then_read, digits_at, size_at, parts_at, end_at, ended_at}
use Rattle.vf_ber.specs.Steps.{Values, length_fits, less, reaches}
use Rattle.vf_ber.specs.Tree.{Tree, Trees, more}
use Rattle.vf_ber.specs.Reading.{bounded}
use Rattle.vf_ber.proofs.Fits.{exact_rest}
use Rattle.vf_ber.proofs.OneTree.{spelling_long}
use Rattle.vf_ber.proofs.Plain.{Answers, IsReader}
use Rattle.vf_ber_scan.proofs.ReadLemmas.{Leaves, read_leaves, read_same, leaves_cond, leaves_checked}

-- ---- a length

pub digits_leave : (most : ℕ) (room : Room) (prefix : ℕ) (constructed : Bool) (others high : ℕ) (octets : List ℕ)
    → Leaves (λ n. n + others ≡ length octets) (digits_at most room prefix constructed others high octets)
unfolding digits_at
digits_leave most room prefix constructed zero high octets = omega arith
digits_leave most room prefix constructed (suc others) high [] = tt
digits_leave most room prefix constructed (suc others) high (digit ∷ octets) =
    leaves_checked (λ n. n + suc others ≡ suc (length octets)) (λ l. nat_lt digit 256 && reaches l most room prefix constructed others (256 * high + digit)) (digit ∷ octets) (digits_at most room prefix constructed others (256 * high + digit) octets)
    (by (digits_at most room prefix constructed others (256 * high + digit) octets) (digits_leave most room prefix constructed others (256 * high + digit) octets))
  where
    by : (r : Reads ℕ) → Leaves (λ n. n + others ≡ length octets) r → Leaves (λ n. n + suc others ≡ suc (length octets)) r
    by (Ok x) leaves = omega arith
    by (Err fault) leaves = tt

pub size_leaves : (most : ℕ) (room : Room) (prefix : ℕ) (constructed : Bool) (octets : List ℕ) → Leaves (λ n. n ≤ length octets) (size_at most room prefix constructed octets)
size_leaves most room prefix constructed [] = tt
size_leaves most room prefix constructed (first ∷ octets) =
    leaves_checked P (λ l. length_fits l most room prefix constructed first) (first ∷ octets) (cond (nat_lt first 128) short (cond (nat_eq first 128) none_said long))
    (leaves_cond P (nat_lt first 128) short (cond (nat_eq first 128) none_said long) (omega arith) (leaves_cond P (nat_eq first 128) none_said long (omega arith)
    (read_leaves (λ n. n + (first - 128) ≡ length octets) P digits (λ n rest. Ok (Some n, rest)) (digits_leave most room (prefix + 1 + (first - 128)) constructed (first - 128) 0 octets) (λ n rest is. omega arith))))
  where
    P : ℕ → Type 0
    P n = n ≤ suc (length octets)

    digits : Reads ℕ
    digits = digits_at most room (prefix + 1 + (first - 128)) constructed (first - 128) 0 octets

    short : Reads (Option ℕ)
    short = Ok (Some first, octets)

    none_said : Reads (Option ℕ)
    none_said = Ok (None, octets)

    long : Reads (Option ℕ)
    long = then_read digits (λ n rest. Ok (Some n, rest))

-- ---- values

pub value_leaves : (most : ℕ) (value : Reader) → IsReader most value → (room : Room) (first : ℕ) (octets : List ℕ)
    → Leaves (λ n. n + 2 ≤ suc (length octets)) (value room (first ∷ octets))
value_leaves most value reads room first octets = by (value room (first ∷ octets)) (reads room first octets)
  where
    by : (r : Reads Tree) → Answers (Values most room) (first ∷ octets) r → Leaves (λ n. n + 2 ≤ suc (length octets)) r
    by (Ok x) (word, is, spelled) = let long : 2 ≤ length word = spelling_long word x.0 spelled.0 in omega (arith, ap length is, length-append word x.1)
    by (Err fault) answers = tt

-- and no more than its room
pub value_within : (most : ℕ) (value : Reader) → IsReader most value → (len first : ℕ) (octets : List ℕ)
    → Leaves (λ n. (n + 2 ≤ suc (length octets)) × (suc (length octets) ≤ n + len)) (value (Exact len) (first ∷ octets))
value_within most value reads len first octets = by (value (Exact len) (first ∷ octets)) (reads (Exact len) first octets)
  where
    by : (r : Reads Tree) → Answers (Values most (Exact len)) (first ∷ octets) r → Leaves (λ n. (n + 2 ≤ suc (length octets)) × (suc (length octets) ≤ n + len)) r
    by (Ok x) (word, is, (spelled, is_shallow, fits)) =
        let long : 2 ≤ length word = spelling_long word x.0 spelled in
        let few : length word ≤ len = (exact_rest bounded (length word) len fits).0 in
        let total : suc (length octets) ≡ length word + length x.1 = ap length is ∙ length-append word x.1 in
        (omega arith, omega arith)
    by (Err fault) answers = tt

pub parts_leave : (most : ℕ) (value : Reader) → IsReader most value → (turns len : ℕ) (octets : List ℕ) → Leaves (λ n. n + len ≡ length octets) (parts_at value turns len octets)
unfolding parts_at
parts_leave most value reads turns zero octets = omega arith
parts_leave most value reads zero (suc len) octets = tt
parts_leave most value reads (suc turns) (suc len) [] = tt
parts_leave most value reads (suc turns) (suc len) (first ∷ octets) =
    read_leaves (λ n. (n + 2 ≤ suc (length octets)) × (suc (length octets) ≤ n + suc len)) (λ n. n + suc len ≡ suc (length octets)) _ _ (value_within most value reads (suc len) first octets)
    (λ part rest taken.
    read_leaves (λ n. n + (suc len - (suc (length octets) - length rest)) ≡ length rest) (λ n. n + suc len ≡ suc (length octets)) _ _
    (parts_leave most value reads turns (suc len - (suc (length octets) - length rest)) rest)
    (λ parts after is. omega (arith, taken.0, taken.1, is)))

pub parts_turns : (most : ℕ) (value : Reader) → IsReader most value → (turns others len : ℕ) (octets : List ℕ) → len ≤ turns → len ≤ others
    → parts_at value turns len octets ≡ parts_at value others len octets
unfolding parts_at
parts_turns most value reads turns others zero octets enough more_enough = refl
parts_turns most value reads zero others (suc len) octets enough more_enough = absurd (omega arith)
parts_turns most value reads (suc turns) zero (suc len) octets enough more_enough = absurd (omega arith)
parts_turns most value reads (suc turns) (suc others) (suc len) [] enough more_enough = refl
parts_turns most value reads (suc turns) (suc others) (suc len) (first ∷ octets) enough more_enough =
    read_same (λ n. n + 2 ≤ suc (length octets)) (value (Exact (suc len)) (first ∷ octets)) _ _ (value_leaves most value reads (Exact (suc len)) first octets)
    (λ part rest taken.
    ap (λ (r : Reads Trees). then_read r (λ parts after. Ok (more part parts, after)))
    (parts_turns most value reads turns others (suc len - (suc (length octets) - length rest)) rest (omega arith) (omega arith)))

end_leaves : (octets : List ℕ) → Leaves (λ n. n + 2 ≤ suc (length octets)) (end_at octets)
end_leaves [] = tt
end_leaves (second ∷ octets) = leaves_cond (λ n. n + 2 ≤ suc (suc (length octets))) (nat_eq second 0) _ _ (omega arith) tt

pub ended_leave : (most : ℕ) (value : Reader) → IsReader most value → (turns : ℕ) (room : Room) (octets : List ℕ) → Leaves (λ n. n + 2 ≤ length octets) (ended_at value turns room octets)
unfolding ended_at
ended_leave most value reads turns room [] = tt
ended_leave most value reads zero room (first ∷ octets) = tt
ended_leave most value reads (suc turns) room (first ∷ octets) =
    leaves_cond (λ n. n + 2 ≤ suc (length octets)) (nat_eq first 0) _ _ (end_leaves octets)
    (read_leaves (λ n. n + 2 ≤ suc (length octets)) (λ n. n + 2 ≤ suc (length octets)) _ _ (value_leaves most value reads (less room 2) first octets)
    (λ part rest taken.
    read_leaves (λ n. n + 2 ≤ length rest) (λ n. n + 2 ≤ suc (length octets)) _ _
    (ended_leave most value reads turns (less room (suc (length octets) - length rest)) rest)
    (λ parts after few. omega arith)))

pub ended_turns : (most : ℕ) (value : Reader) → IsReader most value → (turns others : ℕ) (room : Room) (octets : List ℕ) → length octets ≤ turns → length octets ≤ others
    → ended_at value turns room octets ≡ ended_at value others room octets
unfolding ended_at
ended_turns most value reads turns others room [] enough more_enough = refl
ended_turns most value reads zero others room (first ∷ octets) enough more_enough = absurd (omega arith)
ended_turns most value reads (suc turns) zero room (first ∷ octets) enough more_enough = absurd (omega arith)
ended_turns most value reads (suc turns) (suc others) room (first ∷ octets) enough more_enough =
    ap (cond (nat_eq first 0) (end_at octets))
    (read_same (λ n. n + 2 ≤ suc (length octets)) (value (less room 2) (first ∷ octets)) _ _ (value_leaves most value reads (less room 2) first octets)
    (λ part rest taken.
    ap (λ (r : Reads Trees). then_read r (λ parts after. Ok (more part parts, after)))
    (ended_turns most value reads turns others (less room (suc (length octets) - length rest)) rest (omega arith) (omega arith))))
