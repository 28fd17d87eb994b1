-- The users of a script are such as a filestore may begin with.
use Rattle.std.proofs.Common.{◌≡◌, ◌∙◌, ℕ, ◌+◌, ◌<◌, ◌≤◌, Bool, true, false, ◌&&◌, not, List, [], ◌∷◌, ◌++◌, length, length-append, map, Option, Some, None, Result, Ok, ap, subst, refl, arith}
use Rattle.std.proofs.lemmas.Bool.Decides.{nat_tests}
use Rattle.std.proofs.lemmas.List.{append-nil}
use Rattle.std.specs.Prelude.{codes, if◌then◌else◌, is_none, find, nat_eq, nat_le, nat_lt, option_and_then, take}
use Rattle.std.specs.Option.{option_map}
use Rattle.std.specs.Cmp.{partial_equiv_from_equiv}
use Rattle.std.specs.Cmp.Lexicographic.{nat_list_eq_equiv}
use Rattle.std.specs.List.{AllByRecursion, list_all, slice_split}
use Rattle.vf_base.specs.Name.{is_name}
use Rattle.vf_cli_script.specs.Scripts.{Progress, begun, go_on, is_apt, is_feed, is_welcome, last_of, said_by, script_from, script_of, statements_in, statements_within, told_by, with_last, with_life, with_statement}
use Rattle.vf_cli_script.specs.Statements.{act_of_four, act_of_three, filled_form, form_of, life_of, octets_act, of_four, of_one, of_three, of_two, of_words, on_link, said_act, stopping, user_of, with_act, with_password}
use Rattle.vf_cli_script.specs.Statements.{is as is_word}
use Rattle.vf_cli_script.specs.Words.{count_in, number_in, octets_in, words_of}
use Rattle.vf_cli_script.specs.declared.line.Act.{Act}
use Rattle.vf_cli_script.specs.declared.line.Act.TheVariants as acts
use Rattle.vf_cli_script.specs.declared.line.Statement.{Statement}
use Rattle.vf_cli_script.specs.declared.line.Statement.TheVariants as says
use Rattle.vf_cli_script.specs.declared.script.Script.{Script}
use Rattle.vf_disk.specs.declared.crash_form.CrashForm.{CrashForm}
use Rattle.vf_filestore.specs.Keeping.{AreOthersValid}
use Rattle.vf_filestore.specs.Ranges.{AreOthersRanged}
use Rattle.vf_cli_replay.proofs.Bools.{all_push, both_true, first_of, second_of}
use Rattle.vf_store_commands.specs.Making.{users_alone}
use Rattle.vf_tables.specs.Entries.{is_user}
use Rattle.vf_tables.specs.Fitting.{is_in_range, is_short}
use Rattle.vf_tables.specs.Snapshot.{is_kept, snapshot}
use Rattle.vf_tables.specs.Validity.{all_differ}
use Rattle.vf_tables.specs.declared.change.Change.{Change}
use Rattle.vf_tables.specs.declared.change.Change.TheVariants.{PutUser}
use Rattle.vf_tables.specs.declared.limits.TheConstants.{MOST_PASSWORD_OCTETS, MOST_USERS}
use Rattle.vf_tables.specs.declared.user.User.{User}
use Rattle.vf_cli_replay.specs.Users.{AreGood}

-- ---- USERS that are put one behind another
short : User → Bool
short one = is_short one.password

same : User → User → Bool
same one = is_user one.identity

record Good (users : List User) : Type 0 where
  pub each : list_all short users ≡ true
  pub differ : all_differ same users ≡ true
  pub few : length users ≤ 256

other_way : (one other : User) → is_user one.identity other ≡ false → is_user other.identity one ≡ false
other_way one other is = (partial_equiv_from_equiv nat_list_eq_equiv).symm other.identity one.identity ∙ is

missed : (here : Bool) (first : User) (found : Option User) → is_none (let one : Option User = if here then Some first else found in one) ≡ true → (here ≡ false) × (is_none found ≡ true)
missed true first found none = absurd cc
missed false first found none = (refl, none)

differ_push : (users : List User) (one : User) → all_differ same users ≡ true → is_none (find (is_user one.identity) users) ≡ true → all_differ same (users ++ one ∷ []) ≡ true
unfolding same
differ_push [] one differ none = refl
differ_push (first ∷ users) one differ none =
    let off = missed (is_user one.identity first) first (find (is_user one.identity) users) none in
    let apart = other_way one first off.0 in
    both_true (list_all (λ other. not (is_user first.identity other)) (users ++ one ∷ [])) (all_differ same (users ++ one ∷ []))
    (all_push (λ (other : User). not (is_user first.identity other)) users one (first_of (list_all (λ other. not (is_user first.identity other)) users) (all_differ same users) differ) (ap not apart))
    (differ_push users one (second_of (list_all (λ other. not (is_user first.identity other)) users) (all_differ same users) differ) off.1)

good_push : (so_far : Progress) (one : User) → Good so_far.users → short one ≡ true → is_welcome so_far one ≡ true → Good (so_far.users ++ one ∷ [])
good_push so_far one good is may =
    let users = so_far.users in
    let none = second_of (is_none so_far.life && nat_lt (length users) MOST_USERS) (is_none (find (is_user one.identity) users)) may in
    let room = second_of (is_none so_far.life) (nat_lt (length users) MOST_USERS) (first_of (is_none so_far.life && nat_lt (length users) MOST_USERS) (is_none (find (is_user one.identity) users)) may) in
    let below : length users < 256 = grind (arith, nat_tests) in
    let count = length-append users (one ∷ []) in
    record { each = all_push short users one good.each is; differ = differ_push users one good.differ none; few = omega arith }

none_good : Good []
none_good = record { each = refl; differ = refl; few = omega arith }

-- ---- WHAT A LINE SAYS of a user
abbrev Sound : Option Statement → Type 0
Sound None = Unit {0}
Sound (Some (says.Limit limit)) = Unit {0}
Sound (Some (says.User user)) = short user ≡ true
Sound (Some (says.Life stop)) = Unit {0}
Sound (Some (says.Link line)) = Unit {0}

if_sound : (b : Bool) (one other : Option Statement) → Sound one → Sound other → Sound (if b then one else other)
if_sound true one other first second = first
if_sound false one other first second = second

then_sound : {A : Type 0} (by : A → Option Statement) (o : Option A) → ((x : A) → Sound (by x)) → Sound (option_and_then by o)
then_sound by None each = tt
then_sound by (Some x) each = each x

limit_sound : (o : Option ℕ) → Sound (option_map (λ (limit : ℕ). says.Limit limit) o)
limit_sound None = tt
limit_sound (Some limit) = tt

act_sound : (act : Option Act) (link : ℕ) → Sound (with_act act link)
act_sound None link = tt
act_sound (Some act) link = tt

link_sound : (link : List ℕ) (act : Option Act) → Sound (on_link link act)
link_sound link act = then_sound (with_act act) _ (act_sound act)

stop_sound : (form : Option CrashForm) (call : ℕ) → Sound (stopping form call)
stop_sound None call = tt
stop_sound (Some form) call = tt

password_if : (identity password : List ℕ) (few : Bool) → nat_le (length password) MOST_PASSWORD_OCTETS ≡ few
    → Sound (if few then Some (says.User (record { identity = identity; password = Some password })) else None)
unfolding short
password_if identity password true is = is
password_if identity password false is = tt

password_sound : (identity : List ℕ) (password : Option (List ℕ)) → Sound (with_password identity password)
password_sound identity None = tt
password_sound identity (Some password) = password_if identity password (nat_le (length password) MOST_PASSWORD_OCTETS) refl

user_sound : (identity digits : List ℕ) → Sound (user_of identity digits)
user_sound identity digits = if_sound (is_name identity) (with_password identity (octets_in digits)) None (password_sound identity (octets_in digits)) tt

life_sound : (call : List ℕ) (form : Option CrashForm) → Sound (life_of call form)
life_sound call form = then_sound (stopping form) (count_in call) (stop_sound form)

one_sound : (name : List ℕ) → Sound (of_one name)
one_sound name = if_sound (is_word name (codes "life")) (Some (says.Life None)) None tt tt

two_sound : (name first : List ℕ) → Sound (of_two name first)
two_sound name first =
    if_sound (is_word name (codes "limit")) (option_map (λ (limit : ℕ). says.Limit limit) (number_in first 18446744073709551615)) (if is_word name (codes "end") then on_link first (Some acts.End) else None)
    (limit_sound (number_in first 18446744073709551615)) (if_sound (is_word name (codes "end")) (on_link first (Some acts.End)) None (link_sound first (Some acts.End)) tt)

three_sound : (name first second : List ℕ) → Sound (of_three name first second)
three_sound name first second =
    if_sound (is_word name (codes "user")) (user_of first second) (if is_word name (codes "life") then life_of first (form_of second) else on_link first (act_of_three name second))
    (user_sound first second)
    (if_sound (is_word name (codes "life")) (life_of first (form_of second)) (on_link first (act_of_three name second)) (life_sound first (form_of second)) (link_sound first (act_of_three name second)))

four_sound : (name first second third : List ℕ) → Sound (of_four name first second third)
four_sound name first second third =
    let last = on_link first (act_of_four name second third) in
    let said = on_link first (said_act second third) in
    if_sound (is_word name (codes "life")) (life_of first (filled_form second third))
    (if is_word name (codes "octets") then on_link first (octets_act second third) else if is_word name (codes "said") then said else last)
    (life_sound first (filled_form second third))
    (if_sound (is_word name (codes "octets")) (on_link first (octets_act second third)) (if is_word name (codes "said") then said else last) (link_sound first (octets_act second third))
    (if_sound (is_word name (codes "said")) said last (link_sound first (said_act second third)) (link_sound first (act_of_four name second third))))

words_sound : (words : List (List ℕ)) → Sound (of_words words)
words_sound [] = tt
words_sound (name ∷ []) = one_sound name
words_sound (name ∷ first ∷ []) = two_sound name first
words_sound (name ∷ first ∷ second ∷ []) = three_sound name first second
words_sound (name ∷ first ∷ second ∷ third ∷ []) = four_sound name first second third
words_sound (name ∷ first ∷ second ∷ third ∷ fourth ∷ others) = tt

rest_sound : (whole : Bool) → AllByRecursion Sound (let all : List (Option Statement) = if whole then [] else None ∷ [] in all)
rest_sound true = tt
rest_sound false = (tt, tt)

said_sound : (is_cut : Bool) (lines : List (List ℕ)) → AllByRecursion Sound (said_by is_cut lines)
said_sound is_cut [] = tt
said_sound is_cut (rest ∷ []) = rest_sound (nat_eq (length rest) 0 && not is_cut)
said_sound is_cut (line ∷ other ∷ others) = (words_sound (words_of line), said_sound is_cut (other ∷ others))

within_sound : (limit : ℕ) (octets : List ℕ) → AllByRecursion Sound (statements_within limit octets)
unfolding statements_within
within_sound limit octets = said_sound (nat_lt limit (length octets)) (slice_split is_feed (take limit octets))

statements_sound : (octets : List ℕ) → AllByRecursion Sound (statements_in octets)
statements_sound octets = within_sound _ octets

-- ---- THE SCRIPT keeps what each line says.
user_if : (so_far more : Progress) (user : User) (welcome : Bool) → Good so_far.users → short user ≡ true → is_welcome so_far user ≡ welcome
    → (let next : Option Progress = if welcome then Some (record so_far { users = so_far.users ++ user ∷ [] }) else None in next) ≡ Some more → Good more.users
user_if so_far more user true good is may next =
    let it : record so_far { users = so_far.users ++ user ∷ [] } ≡ more = cc in subst (λ (p : Progress). Good p.users) it (good_push so_far user good is may)
user_if so_far more user false good is may next = absurd cc

line_if : (so_far more made : Progress) (apt : Bool) → Good made.users → (let next : Option Progress = if apt then Some made else None in next) ≡ Some more → Good more.users
line_if so_far more made true good next = let it : made ≡ more = cc in subst (λ (p : Progress). Good p.users) it good
line_if so_far more made false good next = absurd cc

statement_good : (so_far more : Progress) (statement : Option Statement) (later : List (Option Statement)) → Good so_far.users → Sound statement → with_statement so_far statement later ≡ Some more
    → Good more.users
statement_good so_far more None later good sound next = absurd cc
statement_good so_far more (Some (says.Limit limit)) later good sound next = let it : record so_far { limit = limit } ≡ more = cc in subst (λ (p : Progress). Good p.users) it good
statement_good so_far more (Some (says.User user)) later good sound next = user_if so_far more user (is_welcome so_far user) good sound refl next
statement_good so_far more (Some (says.Life stop)) later good sound next =
    line_if so_far more (with_life so_far stop later) true good next
statement_good so_far more (Some (says.Link line)) later good sound next = line_if so_far more (record so_far { life = option_map (with_last line) so_far.life; last = last_of line so_far.last }) (is_apt so_far line) good next

step : (next : Option Progress) (number : ℕ) (on : Progress → Result Script ℕ) (script : Script) → ((more : Progress) → next ≡ Some more → Good more.users)
    → ((more : Progress) → Good more.users → on more ≡ Ok script → Good script.users) → go_on next number on ≡ Ok script → Good script.users
step None number on script good later told = absurd cc
step (Some more) number on script good later told = later more (good more refl) told

script_good : (so_far : Progress) (before : ℕ) (statements : List (Option Statement)) (script : Script) → Good so_far.users → AllByRecursion Sound statements
    → script_from so_far before statements ≡ Ok script → Good script.users
unfolding script_from
script_good so_far before [] script good sound told = let it : script_of so_far ≡ script = cc in subst (λ (s : Script). Good s.users) it good
script_good so_far before (statement ∷ later) script good sound told =
    step (with_statement so_far statement later) (before + 1) (λ (more : Progress). script_from more (before + 1) later) script
    (λ more next. statement_good so_far more statement later good sound.0 next) (λ more good' told'. script_good more (before + 1) later script good' sound.1 told') told

-- ---- RANGES. The snapshot of users alone puts them one after another.
puts : List User → List Change
puts users = map (λ (one : User). PutUser one) users

puts_all : (users : List User) → snapshot (users_alone users) ≡ puts users
unfolding puts
puts_all users = append-nil (map (λ (one : User). PutUser one) users)

in_range : (users : List User) → list_all short users ≡ true → list_all is_in_range (puts users) ≡ true
unfolding puts short
in_range [] each = refl
in_range (one ∷ users) each =
    both_true (is_short one.password) (list_all is_in_range (puts users)) (first_of (short one) (list_all short users) each) (in_range users (second_of (short one) (list_all short users) each))

kept : (users : List User) → Good users → is_kept (users_alone users) ≡ true
unfolding same
kept users good =
    let count : nat_le (length users) MOST_USERS ≡ true = grind (arith, nat_tests, good.few) in
    let range : list_all is_in_range (snapshot (users_alone users)) ≡ true = rw (puts_all users) (in_range users good.each) in
    rw (range, good.differ, count) refl

valid : (users : List User) → Good users → AreOthersValid users []
unfolding same
valid users good = record { users_differ = good.differ; few_users = good.few; tasks_differ = refl; few_tasks = omega arith; tasks_valid = refl }

ranged : (users : List User) → Good users → AreOthersRanged users []
unfolding short
ranged users good = record { users_short = good.each; plans = refl; pieces = refl }

pub users_are_good : (octets : List ℕ) (script : Script) → told_by octets ≡ Ok script → AreGood script.users
users_are_good octets script told =
    let good = script_good begun 0 (statements_in octets) script none_good (statements_sound octets) told in
    record { valid = valid script.users good; ranged = ranged script.users good; kept = kept script.users good }
