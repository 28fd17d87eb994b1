-- What the lines of an input say, one line after another.
use Rattle.std.specs.Prelude.{if◌then◌else◌}
use Rattle.std.proofs.Common.{◌≡◌, ◌∙◌, ◌<◌, ◌≤◌, ℕ, zero, suc, ◌+◌, ◌-◌, min, Bool, true, false, not, ◌&&◌, nat_eq, nat_lt, List, [], ◌∷◌, ◌++◌, length, take, drop, Option, Some, None, refl, sym, ap, arith, append_assoc, append-nil, length-append, length-drop}
use Rattle.std.specs.List.{position, slice_split}
use Rattle.std.proofs.lemmas.Bool.Decides.{nat_tests}
use Rattle.std.proofs.lemmas.List.{drop-drop, take-append-le}
use Rattle.vf_cli_script.specs.Scripts.{is_feed, said_by, statements_within, unended}
use Rattle.vf_cli_script.specs.Statements.{statement_of}
use Rattle.vf_cli_script.specs.declared.line.Statement.{Statement}
use Rattle.vf_cli_script.proofs.Split.{some_parts, split_last, split_more}

first_line : (is_cut : Bool) (line : List ℕ) (parts : List (List ℕ)) → 0 < length parts → said_by is_cut (line ∷ parts) ≡ statement_of line ∷ said_by is_cut parts
first_line is_cut line [] some = absurd (omega (arith, some))
first_line is_cut line (other ∷ others) some = refl

-- what is left of an input says
abbrev pub said_in : Bool → List ℕ → List (Option Statement)
said_in is_cut rest = said_by is_cut (slice_split is_feed rest)

said_more : (is_cut : Bool) (rest : List ℕ) (place : ℕ) → position is_feed rest ≡ Some place → said_in is_cut rest ≡ statement_of (take place rest) ∷ said_in is_cut (drop (place + 1) rest)
said_more is_cut rest place is =
    ap (said_by is_cut) (split_more is_feed rest place is)
    ∙ first_line is_cut (take place rest) (slice_split is_feed (drop (place + 1) rest)) (some_parts is_feed (drop (place + 1) rest))

-- one line more
pub lines_more : (is_cut : Bool) (all before pushed : List (Option Statement)) (rest between later line : List ℕ) (place : ℕ) (statement : Option Statement)
    → all ≡ before ++ said_in is_cut rest → Some place ≡ position is_feed rest → line ≡ take place rest → between ≡ drop place rest → later ≡ drop 1 between
    → statement ≡ statement_of line → pushed ≡ before ++ statement ∷ [] → all ≡ pushed ++ said_in is_cut later
lines_more is_cut all before pushed rest between later line place statement so_far found front back skip says push =
    let after : later ≡ drop (place + 1) rest = skip ∙ ap (drop 1) back ∙ drop-drop 1 place rest in
    let one : statement ≡ statement_of (take place rest) = says ∙ ap statement_of front in
    so_far ∙ ap (λ (l : List (Option Statement)). before ++ l) (said_more is_cut rest place (sym found))
    ∙ (λ i. before ++ sym one i ∷ said_in is_cut (sym after i))
    ∙ sym (append_assoc before (statement ∷ []) (said_in is_cut later)) ∙ ap (λ (l : List (Option Statement)). l ++ said_in is_cut later) (sym push)

-- ---- the front of an input

take_all : (limit : ℕ) (octets : List ℕ) → take (min (length octets) limit) octets ≡ take limit octets
take_all zero octets = let none : min (length octets) zero ≡ zero = omega arith in ap (λ (n : ℕ). take n octets) none
take_all (suc limit) [] = let none : min (length {A = ℕ} []) (suc limit) ≡ zero = omega arith in ap (λ (n : ℕ). take {A = ℕ} n []) none
take_all (suc limit) (octet ∷ octets) =
    let next : min (suc (length octets)) (suc limit) ≡ suc (min (length octets) limit) = omega arith in
    ap (λ (n : ℕ). take n (octet ∷ octets)) next ∙ ap (λ (l : List ℕ). octet ∷ l) (take_all limit octets)

pub lines_begin : (limit : ℕ) (octets within : List ℕ) → within ≡ take (min (length octets) limit) octets → statements_within limit octets ≡ [] ++ said_in (nat_lt limit (length octets)) within
unfolding statements_within
lines_begin limit octets within is = ap (said_in (nat_lt limit (length octets))) (sym (is ∙ take_all limit octets))

-- whether octets come behind those that count
not_cut : (limit : ℕ) (octets beyond : List ℕ) → beyond ≡ drop (min (length octets) limit) octets → not (nat_lt limit (length octets)) ≡ nat_eq (length beyond) 0
not_cut limit octets beyond is =
    let count : length beyond ≡ length octets - min (length octets) limit = ap length is ∙ length-drop (min (length octets) limit) octets in
    grind (arith, nat_tests, count)

-- where no line is left: what stands behind the last one
pub lines_end : (limit : ℕ) (octets beyond : List ℕ) (statements : List (Option Statement)) (rest : List ℕ)
    → statements_within limit octets ≡ statements ++ said_in (nat_lt limit (length octets)) rest → position is_feed rest ≡ None → beyond ≡ drop (min (length octets) limit) octets
    → statements_within limit octets ≡ statements ++ (if nat_eq (length rest) 0 && nat_eq (length beyond) 0 then [] else None ∷ [])
lines_end limit octets beyond statements rest so_far none is =
    so_far ∙ ap (λ (l : List (Option Statement)). statements ++ l) (ap (said_by (nat_lt limit (length octets))) (split_last is_feed rest none)
    ∙ ap (λ (whole : Bool). if nat_eq (length rest) 0 && whole then [] else None ∷ []) (not_cut limit octets beyond is))

pub lines_all : (limit : ℕ) (octets beyond : List ℕ) (statements : List (Option Statement)) (rest : List ℕ)
    → statements_within limit octets ≡ statements ++ said_in (nat_lt limit (length octets)) rest → position is_feed rest ≡ None → beyond ≡ drop (min (length octets) limit) octets
    → (nat_eq (length rest) 0 && nat_eq (length beyond) 0) ≡ true → statements ≡ statements_within limit octets
lines_all limit octets beyond statements rest so_far none is empty =
    sym (lines_end limit octets beyond statements rest so_far none is ∙ ap (λ (b : Bool). statements ++ (if b then [] else None ∷ [])) empty ∙ append-nil statements)

pub lines_bad : (limit : ℕ) (octets beyond : List ℕ) (statements pushed : List (Option Statement)) (rest : List ℕ)
    → statements_within limit octets ≡ statements ++ said_in (nat_lt limit (length octets)) rest → position is_feed rest ≡ None → beyond ≡ drop (min (length octets) limit) octets
    → (nat_eq (length rest) 0 && nat_eq (length beyond) 0) ≡ false → pushed ≡ statements ++ None ∷ [] → pushed ≡ statements_within limit octets
lines_bad limit octets beyond statements pushed rest so_far none is more push =
    push ∙ sym (lines_end limit octets beyond statements rest so_far none is ∙ ap (λ (b : Bool). statements ++ (if b then [] else None ∷ [])) more)

-- ---- an input of which more octets come than count

pub front_same : (limit : ℕ) (octets rest all : List ℕ) → octets ++ rest ≡ all → limit < length octets → statements_within limit octets ≡ statements_within limit all
unfolding statements_within
front_same limit octets rest all is long =
    let within : limit ≤ length octets = omega (arith, long) in
    let same : take limit all ≡ take limit octets = ap (take limit) (sym is) ∙ take-append-le limit octets rest within in
    let count : length all ≡ length octets + length rest = ap length (sym is) ∙ length-append octets rest in
    let cut : nat_lt limit (length octets) ≡ nat_lt limit (length all) = grind (arith, nat_tests, count, long) in
    λ i. said_in (cut i) (sym same i)

bad_rest : (line : List ℕ) → unended true line ≡ None ∷ []
bad_rest line = by (nat_eq (length line) 0)
  where
    by : (b : Bool) → (let rest : List (Option Statement) = if b && false then [] else None ∷ [] in rest) ≡ None ∷ []
    by true = refl
    by false = refl

pub record EndsBadly (statements : List (Option Statement)) : Type 0 where
  pub front : List (Option Statement)
  pub is : statements ≡ front ++ None ∷ []

cut_end : (line : List ℕ) (lines : List (List ℕ)) → EndsBadly (said_by true (line ∷ lines))
cut_end line [] = record { front = []; is = bad_rest line }
cut_end line (other ∷ others) =
    let later = cut_end other others in
    record { front = statement_of line ∷ later.front; is = ap (λ (l : List (Option Statement)). statement_of line ∷ l) later.is }

some_end : (parts : List (List ℕ)) → 0 < length parts → EndsBadly (said_by true parts)
some_end [] some = absurd (omega (arith, some))
some_end (line ∷ lines) some = cut_end line lines

-- its last line is bad
pub bad_last : (limit : ℕ) (octets : List ℕ) → limit < length octets → EndsBadly (statements_within limit octets)
unfolding statements_within
bad_last limit octets long =
    let parts = slice_split is_feed (take limit octets) in
    let cut : nat_lt limit (length octets) ≡ true = grind (arith, nat_tests, long) in
    let end = some_end parts (some_parts is_feed (take limit octets)) in
    record { front = end.front; is = ap (λ (b : Bool). said_by b parts) cut ∙ end.is }
