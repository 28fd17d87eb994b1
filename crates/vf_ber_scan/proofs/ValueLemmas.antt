-- The progress after the octets of a value, as the reading of the value goes on.
use Rattle.std.proofs.Common.{◌≡◌, ◌≢◌, ℕ, zero, suc, ◌+◌, ◌-◌, ◌*◌, ◌/◌, ◌%◌, ◌<◌, ◌≤◌, Bool, true, false, cond, List, [], ◌∷◌, length, take, drop, refl, ap, sym, ◌∙◌, arith, length-drop, nat_eq, nat_lt}
use Rattle.std.specs.Prelude.{Option, Some, None, Ok, Err, ◌&&◌}
use Rattle.std.proofs.lemmas.Bool.{and_from, cond-true, cond-false, lt-ltb, ltb-true, ltb-false, ne_eqb}
use Rattle.vf_ber.specs.declared.fault.Fault.TheVariants as faults
use Rattle.vf_ber.specs.declared.room.Room.{Room}
use Rattle.vf_ber.specs.declared.room.Room.TheVariants.{Exact}
use Rattle.vf_ber.specs.Reader.{Reads, Reader, then_read, name_from, third_at, second_at, name_at, digits_at, size_at, parts_at, end_at, ended_at, contents_at, value_with, value_at}
use Rattle.vf_ber.specs.Steps.{Name, first_fits, second_fits, length_fits, reaches, less}
use Rattle.vf_ber.specs.Tree.{Tag, Tree, Trees, plain, built, none, more}
use Rattle.vf_ber.specs.Reading.{bounded}
use Rattle.vf_ber.proofs.NameSteps.{first_parts}
use Rattle.vf_ber.proofs.Plain.{IsReader, value_answers}
use Rattle.vf_ber_scan.specs.declared.frames.Frame.{Frame}
use Rattle.vf_ber_scan.specs.declared.frames.Frame.TheVariants.{Definite, Indefinite}
use Rattle.vf_ber_scan.specs.Frames.{depth_in, ended_in, less_in, room_in}
use Rattle.vf_ber_scan.specs.Continuation.{then_progress, left_progress, after, value_progress, contents_progress, length_progress, third_progress, second_progress}
use Rattle.vf_ber_scan.specs.Progress.{Progress, Wanting, Faulty}
use Rattle.vf_ber_scan.proofs.FrameLemmas.{length-less_in, length-ended_in, less-less, less-zero, ended_is_less}
use Rattle.vf_ber_scan.proofs.ReadLemmas.{Leaves, progress_same, progress_then, progress_checked}
use Rattle.vf_ber_scan.proofs.TurnLemmas.{digits_leave, size_leaves, value_leaves, parts_leave, parts_turns, ended_leave, ended_turns}

abbrev Any : ℕ → Type 0
Any n = Unit {0}

any_left : {X : Type 0} (r : Reads X) → Leaves Any r
any_left (Ok x) = tt
any_left (Err fault) = tt

-- what is after the same values, however they are written
after_at : (n : ℕ) (frames : List Frame) (octets : List ℕ) → n ≡ length frames → left_progress n frames octets ≡ after frames octets
after_at n frames octets is = ap (λ k. left_progress k frames octets) is

-- ---- values in turn

-- a value of a definite length goes on with another in it
pub definite_goes_on : (left first : ℕ) (frames : List Frame) (octets : List ℕ) → 0 < left
    → after (Definite left ∷ frames) (first ∷ octets) ≡ value_progress (Definite left ∷ frames) (first ∷ octets)
unfolding left_progress parts_at
definite_goes_on zero first frames octets some = absurd (omega arith)
definite_goes_on (suc left) first frames octets some =
    progress_then (value (Exact (suc left)) (first ∷ octets)) _ _
    ∙ progress_same (λ n. n + 2 ≤ suc (length octets)) (value (Exact (suc left)) (first ∷ octets)) _ _ (value_leaves most value reads (Exact (suc left)) first octets)
    (λ part rest taken.
    progress_then (parts_at value left (suc left - (suc (length octets) - length rest)) rest) _ _
    ∙ ap (λ (r : Reads Trees). then_progress r (λ parts tail. left_progress (length frames) frames tail))
    (parts_turns most value reads left (suc left - (suc (length octets) - length rest)) (suc left - (suc (length octets) - length rest)) rest (omega arith) (omega arith)))
  where
    most : ℕ
    most = 32 - suc (length frames)

    value : Reader
    value = value_at (32 - suc (length frames))

    reads : IsReader most value
    reads = value_answers most

-- a value of an indefinite length goes on with another in it
pub indefinite_goes_on : (room : Room) (first : ℕ) (frames : List Frame) (octets : List ℕ) → first ≢ 0
    → after (Indefinite room ∷ frames) (first ∷ octets) ≡ value_progress (Indefinite room ∷ frames) (first ∷ octets)
unfolding left_progress ended_at
indefinite_goes_on room first frames octets other =
    ap (λ (b : Bool). then_progress (cond b (end_at octets) going) (λ parts rest. ending (less room (suc (length octets) - length rest - 2)) rest)) (ne_eqb first 0 other)
    ∙ progress_then (value (less room 2) (first ∷ octets)) _ _
    ∙ progress_same (λ n. n + 2 ≤ suc (length octets)) (value (less room 2) (first ∷ octets)) _ _ (value_leaves most value reads (less room 2) first octets)
    (λ part rest taken.
    let k = suc (length octets) - length rest in
    progress_then (ended_at value (length octets) (less room k) rest) _ _
    ∙ ap (λ (r : Reads Trees). then_progress r (λ parts tail. ending (less room (suc (length octets) - length tail - 2)) tail))
    (ended_turns most value reads (length octets) (length rest) (less room k) rest (omega arith) (omega arith))
    ∙ progress_same (λ n. n + 2 ≤ length rest) (ended_at value (length rest) (less room k) rest) _ _ (ended_leave most value reads (length rest) (less room k) rest)
    (λ parts tail few.
    ap (λ (r : Room). ending r tail) (sym (less-less room k (length rest - length tail - 2) ∙ ap (less room) (omega arith)))))
  where
    most : ℕ
    most = 32 - suc (length frames)

    value : Reader
    value = value_at (32 - suc (length frames))

    reads : IsReader most value
    reads = value_answers most

    ending : Room → List ℕ → Progress
    ending r tail = left_progress (length frames) (ended_in frames r) tail

    going : Reads Trees
    going =
        then_read (value (less room 2) (first ∷ octets))
        (λ part rest. then_read (ended_at value (length octets) (less room (suc (length octets) - length rest)) rest) (λ parts tail. Ok (more part parts, tail)))

-- its end of contents begins
pub indefinite_ends : (room : Room) (frames : List Frame) (octets : List ℕ)
    → after (Indefinite room ∷ frames) (0 ∷ octets) ≡ then_progress (end_at octets) (λ parts rest. after (ended_in frames room) rest)
unfolding left_progress ended_at
indefinite_ends room frames [] = refl
indefinite_ends room frames (second ∷ octets) = by (nat_eq second 0)
  where
    none_left : suc (suc (length octets)) - length octets - 2 ≡ 0
    none_left = omega arith

    by : (b : Bool)
        → then_progress (cond b (Ok (none, octets)) (Err (faults.Bad (suc (length octets))))) (λ parts rest. left_progress (length frames) (ended_in frames (less room (suc (suc (length octets)) - length rest - 2))) rest)
        ≡ then_progress (cond b (Ok (none, octets)) (Err (faults.Bad (suc (length octets))))) (λ parts rest. after (ended_in frames room) rest)
    by true =
        ap (λ n. left_progress (length frames) (ended_in frames (less room n)) octets) none_left
        ∙ ap (λ r. left_progress (length frames) (ended_in frames r) octets) (less-zero room)
        ∙ after_at (length frames) (ended_in frames room) octets (sym (length-ended_in frames room))
    by false = refl

-- a value of a definite length ends where nothing of it is left
pub definite_ends : (frames : List Frame) (octets : List ℕ) → after (Definite 0 ∷ frames) octets ≡ after frames octets
unfolding left_progress parts_at
definite_ends frames octets = refl

-- ---- contents

-- after identifier and length, as the reading goes on in them
contents_by : Reader → List Frame → ℕ → Name → Option ℕ → List ℕ → Progress
contents_by inner frames all name size octets =
    then_progress (contents_at inner (room_in frames) (all - length octets) name size octets) (λ tree rest. after (less_in frames (all - length rest)) rest)

indefinite_by : (frames : List Frame) (all : ℕ) (octets : List ℕ) → length octets ≤ all
    → then_progress (ended_at (value_at (32 - suc (length frames))) (length octets) (less (room_in frames) (all - length octets)) octets) (λ parts rest. after (less_in frames (all - length rest)) rest)
    ≡ after (Indefinite (less (room_in frames) (all - length octets)) ∷ frames) octets
unfolding left_progress
indefinite_by frames all octets within =
    progress_same (λ n. n + 2 ≤ length octets) (ended_at value (length octets) (less (room_in frames) prefix) octets) _ _ (ended_leave most value (value_answers most) (length octets) (less (room_in frames) prefix) octets)
    (λ parts rest few.
    sym (
    ap (λ r. left_progress (length frames) r rest) (ended_is_less frames prefix (length octets - length rest) (omega arith))
    ∙ ap (λ n. left_progress (length frames) (less_in frames n) rest) (omega arith)
    ∙ after_at (length frames) (less_in frames (all - length rest)) rest (sym (length-less_in frames (all - length rest)))
    ))
  where
    prefix : ℕ
    prefix = all - length octets

    most : ℕ
    most = 32 - suc (length frames)

    value : Reader
    value = value_at (32 - suc (length frames))

definite_by : (frames : List Frame) (all n : ℕ) (octets : List ℕ) → length octets ≤ all
    → then_progress (parts_at (value_at (32 - suc (length frames))) n n octets) (λ parts rest. after (less_in frames (all - length rest)) rest)
    ≡ after (Definite n ∷ less_in frames (all - length octets + n)) octets
unfolding left_progress
definite_by frames all n octets within =
    progress_same (λ k. k + n ≡ length octets) (parts_at value n n octets) _ _ (parts_leave most value (value_answers most) n n octets)
    (λ parts rest few. ap (λ k. after (less_in frames k) rest) (omega arith))
    ∙ ap (λ k. then_progress (parts_at (value_at (32 - suc k)) n n octets) (λ parts rest. after (less_in frames (all - length octets + n)) rest)) (sym (length-less_in frames (all - length octets + n)))
  where
    most : ℕ
    most = 32 - suc (length frames)

    value : Reader
    value = value_at (32 - suc (length frames))

plain_by : (frames : List Frame) (all n : ℕ) (tag : Tag) (octets : List ℕ) (b : Bool) → nat_lt (length octets) n ≡ b → length octets ≤ all
    → then_progress (cond b (Err faults.Short) (Ok (plain tag (take n octets), drop n octets))) (λ tree rest. after (less_in frames (all - length rest)) rest)
    ≡ cond b Wanting (after (less_in frames (all - length octets + n)) (drop n octets))
plain_by frames all n tag octets true is within = refl
plain_by frames all n tag octets false is within =
    let enough : n ≤ length octets = ltb-false (length octets) n is in
    let left : length (drop n octets) ≡ length octets - n = length-drop n octets in
    ap (λ k. after (less_in frames k) (drop n octets)) (omega arith)

contents_are : (frames : List Frame) (all : ℕ) (name : Name) (size : Option ℕ) (octets : List ℕ) → length octets ≤ all
    → contents_by (value_at (32 - suc (length frames))) frames all name size octets ≡ contents_progress frames (all - length octets) name.constructed size octets
unfolding contents_by
contents_are frames all name None octets within =
    progress_then (ended_at (value_at (32 - suc (length frames))) (length octets) (less (room_in frames) (all - length octets)) octets) _ _ ∙ indefinite_by frames all octets within
contents_are frames all name (Some n) octets within = by name.constructed
  where
    by : (c : Bool)
        → then_progress
        (cond c (then_read (parts_at (value_at (32 - suc (length frames))) n n octets) (λ parts rest. Ok (built name.tag parts, rest)))
        (cond (nat_lt (length octets) n) (Err faults.Short) (Ok (plain name.tag (take n octets), drop n octets))))
        (λ tree rest. after (less_in frames (all - length rest)) rest)
        ≡ contents_progress frames (all - length octets) c (Some n) octets
    by true = progress_then (parts_at (value_at (32 - suc (length frames))) n n octets) _ _ ∙ definite_by frames all n octets within
    by false = plain_by frames all n name.tag octets (nat_lt (length octets) n) refl within

-- ---- identifiers

-- after an identifier, as the reading goes on in the value
name_by : Reader → List Frame → ℕ → Name → List ℕ → Progress
name_by inner frames all name octets =
    then_progress (size_at (depth_in frames) (room_in frames) (all - length octets) name.constructed octets) (contents_by inner frames all name)

name_is : (frames : List Frame) (all prefix : ℕ) (name : Name) (octets : List ℕ) → prefix + length octets ≡ all
    → name_by (value_at (32 - suc (length frames))) frames all name octets ≡ length_progress frames name.constructed prefix octets
unfolding name_by
name_is frames all prefix name octets is =
    progress_same (λ n. n ≤ length octets) (size_at (depth_in frames) (room_in frames) (all - length octets) name.constructed octets) _ _
    (size_leaves (depth_in frames) (room_in frames) (all - length octets) name.constructed octets)
    (λ size rest few.
    contents_are frames all name size rest (omega arith) ∙ ap (λ k. contents_progress frames (k - length rest) name.constructed size rest) (sym is))
    ∙ ap (λ k. then_progress (size_at (depth_in frames) (room_in frames) k name.constructed octets) (λ size rest. contents_progress frames (prefix + length octets - length rest) name.constructed size rest)) (omega arith)

third_is : (frames : List Frame) (first second : ℕ) (octets : List ℕ)
    → then_progress (third_at first second octets) (name_by (value_at (32 - suc (length frames))) frames (2 + length octets)) ≡ third_progress frames (nat_eq (first / 32 % 2) 1) octets
third_is frames first second [] = refl
third_is frames first second (third ∷ octets) = by (nat_lt third 128)
  where
    by : (b : Bool)
        → then_progress (cond b (Ok (name_from first (128 * (second - 128) + third), octets)) (Err (faults.Bad (suc (length octets))))) (name_by (value_at (32 - suc (length frames))) frames (2 + suc (length octets)))
        ≡ cond b (length_progress frames (nat_eq (first / 32 % 2) 1) 3 octets) Faulty
    by true = name_is frames (2 + suc (length octets)) 3 (name_from first (128 * (second - 128) + third)) octets (omega arith)
    by false = refl

second_is : (frames : List Frame) (first : ℕ) (octets : List ℕ)
    → then_progress (second_at (room_in frames) first octets) (name_by (value_at (32 - suc (length frames))) frames (1 + length octets)) ≡ second_progress frames (nat_eq (first / 32 % 2) 1) octets
second_is frames first [] = refl
second_is frames first (second ∷ octets) =
    progress_checked (λ limits. nat_lt second 256 && second_fits limits (room_in frames) second) (second ∷ octets) (cond (nat_lt second 128) (Ok (name_from first second, octets)) (third_at first second octets)) _
    ∙ ap (λ w. cond (nat_lt second 256 && second_fits bounded (room_in frames) second) w Faulty) (by (nat_lt second 128))
  where
    by : (b : Bool)
        → then_progress (cond b (Ok (name_from first second, octets)) (third_at first second octets)) (name_by (value_at (32 - suc (length frames))) frames (1 + suc (length octets)))
        ≡ cond b (length_progress frames (nat_eq (first / 32 % 2) 1) 2 octets) (third_progress frames (nat_eq (first / 32 % 2) 1) octets)
    by true = name_is frames (1 + suc (length octets)) 2 (name_from first second) octets (omega arith)
    by false = ap (λ k. then_progress (third_at first second octets) (name_by (value_at (32 - suc (length frames))) frames k)) (omega arith) ∙ third_is frames first second octets

-- the reading of a value, whatever reads its parts
read_by : (most : ℕ) → (inner : Reader) × ((room : Room) (octets : List ℕ) → value_at most room octets ≡ value_with inner most room octets) × (0 < most → inner ≡ value_at (most - 1))
unfolding value_at
read_by zero = (λ room octets. Err faults.Short, λ room octets. refl, λ some. absurd (omega arith))
read_by (suc most) = (value_at most, λ room octets. refl, λ some. ap value_at (omega arith))

first_by : (inner : Reader) (frames : List Frame) (first : ℕ) (octets : List ℕ)
    → then_progress (value_with inner (depth_in frames) (room_in frames) (first ∷ octets)) (λ tree rest. after (less_in frames (suc (length octets) - length rest)) rest)
    ≡ cond (nat_lt first 256 && first_fits bounded (depth_in frames) (room_in frames) first)
    (then_progress (cond (nat_lt (first % 32) 31) (Ok (name_from first (first % 32), octets)) (second_at (room_in frames) first octets)) (name_by inner frames (suc (length octets)))) Faulty
unfolding name_by contents_by
first_by inner frames first octets =
    progress_then (name_at (depth_in frames) (room_in frames) (first ∷ octets)) _ _
    ∙ progress_checked (λ limits. nat_lt first 256 && first_fits limits (depth_in frames) (room_in frames) first) (first ∷ octets) said _
    ∙ ap (λ w. cond (nat_lt first 256 && first_fits bounded (depth_in frames) (room_in frames) first) w Faulty)
    (progress_same Any said _ _ (any_left said) (λ name rest left.
    progress_then (size_at (depth_in frames) (room_in frames) (suc (length octets) - length rest) name.constructed rest) _ _))
  where
    said : Reads Name
    said = cond (nat_lt (first % 32) 31) (Ok (name_from first (first % 32), octets)) (second_at (room_in frames) first octets)

pub value_none : (frames : List Frame) (first : ℕ) (octets : List ℕ) → first_fits bounded (depth_in frames) (room_in frames) first ≡ false → value_progress frames (first ∷ octets) ≡ Faulty
value_none frames first octets fails =
    let r = read_by (depth_in frames) in
    ap (λ (v : Reads Tree). then_progress v (λ tree rest. after (less_in frames (suc (length octets) - length rest)) rest)) (r.1 (room_in frames) (first ∷ octets))
    ∙ first_by r.0 frames first octets
    ∙ cond-false _ _ Faulty (and_right_false (nat_lt first 256) (first_fits bounded (depth_in frames) (room_in frames) first) fails)
  where
    and_right_false : (a b : Bool) → b ≡ false → (a && b) ≡ false
    and_right_false true b e = e
    and_right_false false b e = refl

pub value_some : (frames : List Frame) (first : ℕ) (octets : List ℕ) → first < 256 → first_fits bounded (depth_in frames) (room_in frames) first ≡ true
    → value_progress frames (first ∷ octets) ≡ cond (nat_lt (first % 32) 31) (length_progress frames (nat_eq (first / 32 % 2) 1) 1 octets) (second_progress frames (nat_eq (first / 32 % 2) 1) octets)
value_some frames first octets small fits =
    let r = read_by (depth_in frames) in
    let deep : 0 < depth_in frames = ltb-true 0 (depth_in frames) (first_parts bounded (depth_in frames) (room_in frames) first fits).deep in
    let inner : r.0 ≡ value_at (32 - suc (length frames)) = r.2 deep ∙ ap value_at (omega arith) in
    ap (λ (v : Reads Tree). then_progress v (λ tree rest. after (less_in frames (suc (length octets) - length rest)) rest)) (r.1 (room_in frames) (first ∷ octets))
    ∙ first_by r.0 frames first octets
    ∙ cond-true _ _ Faulty (and_from (nat_lt first 256) (first_fits bounded (depth_in frames) (room_in frames) first) (lt-ltb first 256 small) fits)
    ∙ ap (λ (v : Reader). then_progress (cond (nat_lt (first % 32) 31) (Ok (name_from first (first % 32), octets)) (second_at (room_in frames) first octets)) (name_by v frames (suc (length octets)))) inner
    ∙ by (nat_lt (first % 32) 31)
  where
    by : (b : Bool)
        → then_progress (cond b (Ok (name_from first (first % 32), octets)) (second_at (room_in frames) first octets)) (name_by (value_at (32 - suc (length frames))) frames (suc (length octets)))
        ≡ cond b (length_progress frames (nat_eq (first / 32 % 2) 1) 1 octets) (second_progress frames (nat_eq (first / 32 % 2) 1) octets)
    by true = name_is frames (suc (length octets)) 1 (name_from first (first % 32)) octets (omega arith)
    by false =
        ap (λ k. then_progress (second_at (room_in frames) first octets) (name_by (value_at (32 - suc (length frames))) frames k)) (omega arith) ∙ second_is frames first octets

-- ---- lengths

pub length_first : (frames : List Frame) (constructed : Bool) (prefix first : ℕ) (octets : List ℕ)
    → length_progress frames constructed prefix (first ∷ octets)
    ≡ cond (length_fits bounded (depth_in frames) (room_in frames) prefix constructed first)
    (cond (nat_lt first 128) (contents_progress frames (prefix + 1) constructed (Some first) octets)
    (cond (nat_eq first 128) (contents_progress frames (prefix + 1) constructed None octets)
    (then_progress (digits_at (depth_in frames) (room_in frames) (prefix + 1 + (first - 128)) constructed (first - 128) 0 octets) (λ n rest. contents_progress frames (prefix + 1 + (first - 128)) constructed (Some n) rest)))) Faulty
length_first frames constructed prefix first octets =
    progress_checked (λ limits. length_fits limits (depth_in frames) (room_in frames) prefix constructed first) (first ∷ octets)
    (cond (nat_lt first 128) (Ok (Some first, octets)) (cond (nat_eq first 128) (Ok (None, octets)) (then_read digits (λ n rest. Ok (Some n, rest))))) going
    ∙ ap (λ w. cond (length_fits bounded (depth_in frames) (room_in frames) prefix constructed first) w Faulty) (by (nat_lt first 128) (nat_eq first 128))
  where
    digits : Reads ℕ
    digits = digits_at (depth_in frames) (room_in frames) (prefix + 1 + (first - 128)) constructed (first - 128) 0 octets

    going : Option ℕ → List ℕ → Progress
    going size rest = contents_progress frames (prefix + suc (length octets) - length rest) constructed size rest

    by : (b c : Bool)
        → then_progress (cond b (Ok (Some first, octets)) (cond c (Ok (None, octets)) (then_read digits (λ n rest. Ok (Some n, rest))))) going
        ≡ cond b (contents_progress frames (prefix + 1) constructed (Some first) octets)
        (cond c (contents_progress frames (prefix + 1) constructed None octets) (then_progress digits (λ n rest. contents_progress frames (prefix + 1 + (first - 128)) constructed (Some n) rest)))
    by true c = ap (λ k. contents_progress frames k constructed (Some first) octets) (omega arith)
    by false true = ap (λ k. contents_progress frames k constructed None octets) (omega arith)
    by false false =
        progress_then digits _ going
        ∙ progress_same (λ n. n + (first - 128) ≡ length octets) digits _ _ (digits_leave (depth_in frames) (room_in frames) (prefix + 1 + (first - 128)) constructed (first - 128) 0 octets)
        (λ n rest few. ap (λ k. contents_progress frames k constructed (Some n) rest) (omega arith))

pub digit_first : (frames : List Frame) (constructed : Bool) (prefix others high digit : ℕ) (octets : List ℕ) (next : ℕ → List ℕ → Progress) → 0 < others
    → then_progress (digits_at (depth_in frames) (room_in frames) prefix constructed others high (digit ∷ octets)) next
    ≡ cond (nat_lt digit 256 && reaches bounded (depth_in frames) (room_in frames) prefix constructed (others - 1) (256 * high + digit))
    (then_progress (digits_at (depth_in frames) (room_in frames) prefix constructed (others - 1) (256 * high + digit) octets) next) Faulty
unfolding digits_at
digit_first frames constructed prefix zero high digit octets next some = absurd (omega arith)
digit_first frames constructed prefix (suc others) high digit octets next some =
    progress_checked (λ limits. nat_lt digit 256 && reaches limits (depth_in frames) (room_in frames) prefix constructed others (256 * high + digit)) (digit ∷ octets)
    (digits_at (depth_in frames) (room_in frames) prefix constructed others (256 * high + digit) octets) next
    ∙ (let same : others ≡ suc others - 1 = omega arith in
    ap
    (λ k.
    cond (nat_lt digit 256 && reaches bounded (depth_in frames) (room_in frames) prefix constructed k (256 * high + digit))
    (then_progress (digits_at (depth_in frames) (room_in frames) prefix constructed k (256 * high + digit) octets) next) Faulty)
    same)
