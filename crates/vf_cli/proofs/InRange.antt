-- The task that words tell has its numbers and its password in their ranges.
use Rattle.std.proofs.Common.{◌≡◌, ℕ, Bool, true, false, ◌&&◌, List, [], ◌∷◌, length, nat_le, Option, Some, None, refl, subst}
use Rattle.std.specs.Option.{unwrap_or}
use Rattle.std.specs.Prelude.{option_and_then, if◌then◌else◌}
use Rattle.vf_cli.specs.TaskWords.{task_for, task_in, task_with}
use Rattle.vf_cli_words.proofs.Values.{given_are_values, value_is}
use Rattle.vf_cli_words.specs.Words.{Asked, Given, all_fit, are_values, asked_with, command_named, given_in, is_given, is_in, is_number, number_at, number_by, number_in, number_of, place_of, value_of}
use Rattle.vf_cli_words.specs.declared.command.Command.{Command}
use Rattle.vf_cli_words.specs.declared.command.Command.TheVariants.{Dialogue, InitStore, ListFiles, ListDockets, DropKept, Replay, Serve, Put, Get, Generate}
use Rattle.vf_cli_words.specs.declared.options.Key.TheVariants.{Password, Kind, Activity, Tries, Every}
use Rattle.vf_cli_words.specs.declared.options.Range.{Range}
use Rattle.vf_tables.specs.Fitting.{is_short, is_within}
use Rattle.vf_transact.specs.Starting.{are_words, is_activity_wanted}
use Rattle.vf_transact.specs.declared.words.PlanWords.{PlanWords}

both_are : (one other : Bool) → one ≡ true → other ≡ true → (one && other) ≡ true
both_are true true is same = refl
both_are true false is same = absurd cc
both_are false other is same = absurd cc

right_is : (one other : Bool) → (one && other) ≡ true → other ≡ true
right_is true other both = both
right_is false other both = absurd cc

middle_is : (first one last : Bool) → (first && one && last) ≡ true → one ≡ true
middle_is true true last all = refl
middle_is true false last all = all
middle_is false one last all = absurd cc

all_five : (a b c d e : Bool) → a ≡ true → b ≡ true → c ≡ true → d ≡ true → e ≡ true → (a && b && c && d && e) ≡ true
all_five true true true true true one two three four five = refl
all_five true true true true false one two three four five = absurd cc
all_five true true true false e one two three four five = absurd cc
all_five true true false d e one two three four five = absurd cc
all_five true false c d e one two three four five = absurd cc
all_five false b c d e one two three four five = absurd cc

-- a number that a value spells is in the option's range
if_in : (is : Bool) (range : Range) (number found : ℕ) → (is ≡ true → is_in number range ≡ true) → (if is then Some number else None) ≡ Some found → is_in found range ≡ true
if_in true range number found within is = let same : number ≡ found = cc in subst (λ (n : ℕ). is_in n range ≡ true) same (within refl)
if_in false range number found within is = absurd (let wrong : None ≡ Some found = is in cc)

in_range : (value : List ℕ) (range : Range) (found : ℕ) → number_in value range ≡ Some found → is_in found range ≡ true
in_range value range found is =
    if_in (is_number value && is_in (number_of value) range) range (number_of value) found (λ both. right_is _ _ both) is

pub by_value : (range : Range) (value : Option (List ℕ)) (found : ℕ) → number_by (Some range) value ≡ Some found → is_in found range ≡ true
by_value range None found is = absurd (let wrong : None ≡ Some found = is in cc)
by_value range (Some value) found is = in_range value range found is

usual_or : (given : Option ℕ) (range : Range) (usual : ℕ) → ((found : ℕ) → given ≡ Some found → is_in found range ≡ true) → is_in usual range ≡ true → is_in (unwrap_or given usual) range ≡ true
usual_or None range usual within is = is
usual_or (Some found) range usual within is = within found refl

wanted_or : (given : Option ℕ) → ((found : ℕ) → given ≡ Some found → is_within 1 2147483647 found ≡ true) → is_activity_wanted given ≡ true
wanted_or None within = refl
wanted_or (Some found) within = within found refl

-- a value is short enough for a password
short_value : (given : Option (List ℕ)) → is_given given ≡ true → is_short given ≡ true
short_value None is = refl
short_value (Some value) is = middle_is (nat_le 1 (length value)) (nat_le (length value) 255) _ (right_is _ _ is)

task_is : (put : Bool) (given : Given) → are_values given ≡ true → are_words (task_with put given) ≡ true
task_is put given all =
    all_five _ _ _ _ _
    (usual_or (number_at Kind given) (record { least = 1; most = 3 }) 3 (λ found is. by_value (record { least = 1; most = 3 }) (value_of Kind given) found is) refl)
    (usual_or (number_at Every given) (record { least = 1; most = 10000 }) 64 (λ found is. by_value (record { least = 1; most = 10000 }) (value_of Every given) found is) refl)
    (short_value (value_of Password given) (value_is given (place_of Password) all))
    (wanted_or (number_at Activity given) (λ found is. by_value (record { least = 1; most = 2147483647 }) (value_of Activity given) found is))
    (right_is _ _ (usual_or (number_at Tries given) (record { least = 0; most = 100 }) 3 (λ found is. by_value (record { least = 0; most = 100 }) (value_of Tries given) found is) refl))

some_is : (one other : PlanWords) → Some one ≡ Some other → one ≡ other
some_is one other is = cc

for_command : (command : Command) (given : Given) (plan : PlanWords) → are_values given ≡ true → task_for command given ≡ Some plan → are_words plan ≡ true
for_command Put given plan all is = subst (λ (p : PlanWords). are_words p ≡ true) (some_is _ _ is) (task_is true given all)
for_command Get given plan all is = subst (λ (p : PlanWords). are_words p ≡ true) (some_is _ _ is) (task_is false given all)
for_command Dialogue given plan all is = absurd (let wrong : None ≡ Some plan = is in cc)
for_command InitStore given plan all is = absurd (let wrong : None ≡ Some plan = is in cc)
for_command ListFiles given plan all is = absurd (let wrong : None ≡ Some plan = is in cc)
for_command ListDockets given plan all is = absurd (let wrong : None ≡ Some plan = is in cc)
for_command DropKept given plan all is = absurd (let wrong : None ≡ Some plan = is in cc)
for_command Replay given plan all is = absurd (let wrong : None ≡ Some plan = is in cc)
for_command Serve given plan all is = absurd (let wrong : None ≡ Some plan = is in cc)
for_command Generate given plan all is = absurd (let wrong : None ≡ Some plan = is in cc)

asked_for : Option Asked → Option PlanWords
asked_for asked = option_and_then (λ (asked : Asked). task_for asked.command asked.given) asked

if_fits : (fits : Bool) (command : Command) (given : Given) (plan : PlanWords) → are_values given ≡ true
    → asked_for (if fits then Some (let asked : Asked = record { command = command; given = given } in asked) else None) ≡ Some plan → are_words plan ≡ true
unfolding asked_for
if_fits true command given plan all is = for_command command given plan all is
if_fits false command given plan all is = absurd (let wrong : None ≡ Some plan = is in cc)

with_command : (command : Option Command) (given : Option Given) (plan : PlanWords) → ((g : Given) → given ≡ Some g → are_values g ≡ true) → asked_for (asked_with command given) ≡ Some plan → are_words plan ≡ true
unfolding asked_for
with_command None given plan all is = absurd (let wrong : None ≡ Some plan = is in cc)
with_command (Some command) None plan all is = absurd (let wrong : None ≡ Some plan = is in cc)
with_command (Some command) (Some given) plan all is = if_fits (all_fit command given) command given plan (all given refl) is

pub task_in_range : (words : List (List ℕ)) (plan : PlanWords) → task_in words ≡ Some plan → are_words plan ≡ true
unfolding asked_for
task_in_range [] plan is = absurd (let wrong : None ≡ Some plan = is in cc)
task_in_range (name ∷ options) plan is = with_command (command_named name) (given_in options) plan (λ given are. given_are_values options given are) is
