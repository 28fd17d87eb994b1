-- Users whom lines tell may stand in a store, and their record is short.
use Rattle.std.specs.Prelude.{if◌then◌else◌, nat_le, nat_lt}
use Rattle.std.proofs.Common.{◌≡◌, ℕ, ◌+◌, ◌*◌, ◌<◌, ◌≤◌, Bool, true, false, ◌&&◌, not, List, [], ◌∷◌, ◌++◌, length, length-append, map, Option, Some, None, Result, Ok, Err, ap, subst, ◌∙◌, refl, arith}
use Rattle.std.proofs.lemmas.Bool.Decides.{nat_tests}
use Rattle.std.proofs.lemmas.List.{append-nil}
use Rattle.std.specs.Cmp.{partial_equiv_from_equiv}
use Rattle.std.specs.Cmp.Lexicographic.{nat_list_eq_equiv}
use Rattle.std.specs.Int.{w16, w32, to_be_bytes}
use Rattle.std.specs.List.{flat_map, list_all, list_any}
use Rattle.vf_base.specs.Name.{is_name}
use Rattle.vf_store_record.specs.Entries.{user}
use Rattle.vf_store_record.specs.Fields.{name, optional_text, text}
use Rattle.vf_store_record.specs.Records.{change, changes, record_of}
use Rattle.vf_tables.specs.Entries.{is_user}
use Rattle.vf_tables.specs.Fitting.{is_in_range, is_short}
use Rattle.vf_tables.specs.Snapshot.{is_kept, snapshot}
use Rattle.vf_tables.specs.Validity.{all_differ}
use Rattle.vf_tables.specs.declared.change.Change.{Change}
use Rattle.vf_tables.specs.declared.change.Change.TheVariants.{PutUser}
use Rattle.vf_tables.specs.declared.limits.TheConstants.{MOST_USERS}
use Rattle.vf_tables.specs.declared.user.User.{User}
use Rattle.vf_store_commands.specs.Making.{AreUsers, users_alone}
use Rattle.vf_store_commands.specs.UserLines.{Parted, and_then, is_password, joined, lines_of, may_join, parted, told_after, user_told, users_told}
use Rattle.vf_store_commands.proofs.BadLines.{name_short, password_short}
use Rattle.vf_store_commands.proofs.Bools.{all_push, both_true, first_of, neither_first, neither_second, not_true, second_of}

-- each user is as a line tells it
good : User → Bool
good one = is_name one.identity && is_password one.password

same : User → User → Bool
same one = is_user one.identity

record Good (users : List User) : Type 0 where
  pub each : list_all good users ≡ true
  pub differ : all_differ same users ≡ true
  pub few : length users ≤ 256

other_way : (one other : User) → is_user one.identity other ≡ false → is_user other.identity one ≡ false
other_way one other is = (partial_equiv_from_equiv nat_list_eq_equiv).symm other.identity one.identity ∙ is

differ_push : (users : List User) (one : User) → all_differ same users ≡ true → list_any (is_user one.identity) users ≡ false → all_differ same (users ++ one ∷ []) ≡ true
unfolding same
differ_push [] one differ none = refl
differ_push (first ∷ users) one differ none =
    let apart = other_way one first (neither_first (is_user one.identity first) (list_any (is_user one.identity) users) none) in
    both_true (list_all (λ other. not (is_user first.identity other)) (users ++ one ∷ [])) (all_differ same (users ++ one ∷ []))
    (all_push (λ (other : User). not (is_user first.identity other)) users one (first_of (list_all (λ other. not (is_user first.identity other)) users) (all_differ same users) differ) (ap not apart))
    (differ_push users one (second_of (list_all (λ other. not (is_user first.identity other)) users) (all_differ same users) differ)
    (neither_second (is_user one.identity first) (list_any (is_user one.identity) users) none))

good_push : (users : List User) (one : User) → Good users → good one ≡ true → may_join users one ≡ true → Good (users ++ one ∷ [])
good_push users one so_far is may =
    let room = first_of (nat_lt (length users) MOST_USERS) (not (list_any (is_user one.identity) users)) may in
    let apart = not_true (list_any (is_user one.identity) users) (second_of (nat_lt (length users) MOST_USERS) (not (list_any (is_user one.identity) users)) may) in
    let below : length users < 256 = grind (arith, nat_tests) in
    let count = length-append users (one ∷ []) in
    record { each = all_push good users one so_far.each is; differ = differ_push users one so_far.differ apart; few = omega arith }

told_if : (told : Bool) (parts : Parted) (one : User) → (is_name parts.before && is_password parts.after) ≡ told
    → (let user : Option User = if told then Some (record { identity = parts.before; password = parts.after }) else None in user) ≡ Some one → good one ≡ true
unfolding good
told_if true parts one is some = let it : record { identity = parts.before; password = parts.after } ≡ one = cc in subst (λ (u : User). (is_name u.identity && is_password u.password) ≡ true) it is
told_if false parts one is some = absurd cc

told_good : (line : List ℕ) (one : User) → user_told line ≡ Some one → good one ≡ true
told_good line one some = told_if (is_name (parted line).before && is_password (parted line).after) (parted line) one refl some

-- what was told is good
step_if : (users : List User) (one : User) (may : Bool) (next : List User → Result (List User) ℕ) (all : List User) → Good users → good one ≡ true → may_join users one ≡ may
    → ((more : List User) → Good more → next more ≡ Ok all → Good all)
    → and_then (let answer : Result (List User) ℕ = if may then Ok (users ++ one ∷ []) else Err (length users + 1) in answer) next ≡ Ok all → Good all
step_if users one true next all so_far is may on told = on (users ++ one ∷ []) (good_push users one so_far is may) told
step_if users one false next all so_far is may on told = absurd cc

step : (users : List User) (user : Option User) (next : List User → Result (List User) ℕ) (all : List User) → Good users → ((one : User) → user ≡ Some one → good one ≡ true)
    → ((more : List User) → Good more → next more ≡ Ok all → Good all) → and_then (joined users user) next ≡ Ok all → Good all
step users None next all so_far is on told = absurd cc
step users (Some one) next all so_far is on told = step_if users one (may_join users one) next all so_far (is one refl) refl on told

told_are_good : (lines : List (List ℕ)) (users all : List User) → Good users → told_after users lines ≡ Ok all → Good all
told_are_good [] users all so_far told = let it : users ≡ all = cc in subst Good it so_far
told_are_good (line ∷ lines) users all so_far told =
    step users (user_told line) (λ more. told_after more lines) all so_far (told_good line) (λ more good told. told_are_good lines more all good told) told

none_good : Good []
none_good = record { each = refl; differ = refl; few = omega arith }

-- RANGES. The snapshot of users alone puts them one after another.
puts : List User → List Change
puts users = map (λ (one : User). PutUser one) users

puts_all : (users : List User) → snapshot (users_alone users) ≡ puts users
unfolding puts
puts_all users = append-nil (map (λ (one : User). PutUser one) users)

short_enough : (password : Option (List ℕ)) → is_password password ≡ true → is_short password ≡ true
short_enough None is = refl
short_enough (Some octets) is = second_of (nat_le 1 (length octets)) (nat_le (length octets) 255) is

in_range : (users : List User) → list_all good users ≡ true → list_all is_in_range (puts users) ≡ true
unfolding puts good
in_range [] each = refl
in_range (one ∷ users) each =
    both_true (is_short one.password) (list_all is_in_range (puts users))
    (short_enough one.password (second_of (is_name one.identity) (is_password one.password) (first_of (good one) (list_all good users) each)))
    (in_range users (second_of (good one) (list_all good users) each))

kept : (users : List User) → Good users → is_kept (users_alone users) ≡ true
unfolding same
kept users so_far =
    let count : nat_le (length users) MOST_USERS ≡ true = grind (arith, nat_tests, so_far.few) in
    let range : list_all is_in_range (snapshot (users_alone users)) ≡ true = rw (puts_all users) (in_range users so_far.each) in
    rw (range, so_far.differ, count) refl

-- LENGTHS
two : (n : ℕ) → length (to_be_bytes w16 n) ≡ 2
two n = refl

four : (n : ℕ) → length (to_be_bytes w32 n) ≡ 4
four n = refl

put_short : (identity : List ℕ) (password : Option (List ℕ)) → is_name identity ≡ true → is_password password ≡ true
    → length (change.spell (PutUser (record { identity = identity; password = password }))) ≤ 516
unfolding change user name optional_text text
put_short identity None named given =
    let few = name_short identity named in
    let first = length-append (to_be_bytes w16 (length identity)) identity in
    let all = length-append (to_be_bytes w16 (length identity) ++ identity) (0 ∷ []) in
    omega (arith, two (length identity))
put_short identity (Some octets) named given =
    let few = name_short identity named in
    let short = password_short octets given in
    let first = length-append (to_be_bytes w16 (length identity)) identity in
    let second = length-append (to_be_bytes w16 (length octets)) octets in
    let all = length-append (to_be_bytes w16 (length identity) ++ identity) (1 ∷ (to_be_bytes w16 (length octets) ++ octets)) in
    omega (arith, two (length identity), two (length octets))

puts_short : (users : List User) → list_all good users ≡ true → length (flat_map change.spell (puts users)) ≤ 516 * length users
unfolding puts good
puts_short [] each = omega arith
puts_short (one ∷ users) each =
    let is = first_of (good one) (list_all good users) each in
    let first = put_short one.identity one.password (first_of (is_name one.identity) (is_password one.password) is) (second_of (is_name one.identity) (is_password one.password) is) in
    let rest = puts_short users (second_of (good one) (list_all good users) each) in
    let all = length-append (change.spell (PutUser one)) (flat_map change.spell (puts users)) in
    omega arith

record_short : (users : List User) → list_all good users ≡ true → length (record_of (snapshot (users_alone users))) ≤ 4 + 516 * length users
unfolding changes
record_short users each =
    let puts_length = puts_short users each in
    let all = length-append (to_be_bytes w32 (length (puts users))) (flat_map change.spell (puts users)) in
    rw (puts_all users) (omega (arith, four (length (puts users))))

pub are_users : (octets : List ℕ) (users : List User) → users_told octets ≡ Ok users → AreUsers users
are_users octets users told =
    let so_far = told_are_good (lines_of octets) [] users none_good told in
    record { kept = kept users so_far; short = record_short users so_far.each; few = so_far.few }
