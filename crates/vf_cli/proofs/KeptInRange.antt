-- What words tell to be dropped has an activity in its range.
use Rattle.std.proofs.Common.{◌≡◌, ℕ, true, List, Option, Some, None, refl, subst}
use Rattle.std.specs.Prelude.{option_and_then}
use Rattle.vf_cli.specs.KeptWords.{kept_by, kept_for, kept_in, kept_of}
use Rattle.vf_cli.proofs.InRange.{by_value}
use Rattle.vf_cli_words.specs.Words.{Asked, Given, asked_by, number_at, value_of}
use Rattle.vf_cli_words.specs.declared.command.Command.{Command}
use Rattle.vf_cli_words.specs.declared.command.Command.TheVariants.{Dialogue, InitStore, ListFiles, ListDockets, DropKept, Replay, Serve, Put, Get, Generate}
use Rattle.vf_cli_words.specs.declared.options.Key.TheVariants.{Activity, User}
use Rattle.vf_store_commands.specs.Dropping.{HasActivity}
use Rattle.vf_store_commands.specs.declared.dropping.KeptEntry.{KeptEntry}
use Rattle.vf_tables.specs.Fitting.{is_within}

pub same_kept : (one other : KeptEntry) → Some one ≡ Some other → one ≡ other
same_kept one other is = cc

of_activity : (activity : ℕ) (user : Option (List ℕ)) → is_within 1 2147483647 activity ≡ true → HasActivity (kept_of activity user)
of_activity activity None within = within
of_activity activity (Some user) within = within

by_activity : (activity : Option ℕ) (user : Option (List ℕ)) (kept : KeptEntry) → ((found : ℕ) → activity ≡ Some found → is_within 1 2147483647 found ≡ true)
    → kept_by activity user ≡ Some kept → HasActivity kept
by_activity None user kept within is = absurd (let wrong : None ≡ Some kept = is in cc)
by_activity (Some activity) user kept within is = subst (λ (k : KeptEntry). HasActivity k) (same_kept _ _ is) (of_activity activity user (within activity refl))

for_command : (command : Command) (given : Given) (kept : KeptEntry) → kept_for command given ≡ Some kept → HasActivity kept
for_command DropKept given kept is =
    by_activity (number_at Activity given) (value_of User given) kept (λ found is. by_value (record { least = 1; most = 2147483647 }) (value_of Activity given) found is) is
for_command Dialogue given kept is = absurd (let wrong : None ≡ Some kept = is in cc)
for_command InitStore given kept is = absurd (let wrong : None ≡ Some kept = is in cc)
for_command ListFiles given kept is = absurd (let wrong : None ≡ Some kept = is in cc)
for_command ListDockets given kept is = absurd (let wrong : None ≡ Some kept = is in cc)
for_command Replay given kept is = absurd (let wrong : None ≡ Some kept = is in cc)
for_command Serve given kept is = absurd (let wrong : None ≡ Some kept = is in cc)
for_command Put given kept is = absurd (let wrong : None ≡ Some kept = is in cc)
for_command Get given kept is = absurd (let wrong : None ≡ Some kept = is in cc)
for_command Generate given kept is = absurd (let wrong : None ≡ Some kept = is in cc)

for_asked : (asked : Option Asked) (kept : KeptEntry) → option_and_then (λ (asked : Asked). kept_for asked.command asked.given) asked ≡ Some kept → HasActivity kept
for_asked None kept is = absurd (let wrong : None ≡ Some kept = is in cc)
for_asked (Some asked) kept is = for_command asked.command asked.given kept is

pub kept_in_range : (words : List (List ℕ)) (kept : KeptEntry) → kept_in words ≡ Some kept → HasActivity kept
kept_in_range words kept is = for_asked (asked_by words) kept is
