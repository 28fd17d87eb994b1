-- What `drop` is to drop, by the options of the words (profile): the docket of a user's activity, or without a user the task of
-- that activity.
use Rattle.std.specs.Prelude.{ℕ, List, Option, Some, None, option_and_then}
use Rattle.vf_cli_words.specs.Words.{Asked, Given, asked_by, number_at, value_of}
use Rattle.vf_cli_words.specs.declared.command.Command.{Command}
use Rattle.vf_cli_words.specs.declared.command.Command.TheVariants.{DropKept}
use Rattle.vf_cli_words.specs.declared.options.Key.TheVariants.{Activity, User}
use Rattle.vf_store_commands.specs.declared.dropping.KeptEntry.{KeptEntry}
use Rattle.vf_store_commands.specs.declared.dropping.KeptEntry.TheVariants.{Docket, Task}

abbrev pub kept_of : (activity : ℕ) → (user : Option (List ℕ)) → KeptEntry
kept_of activity (Some user) = Docket user activity
kept_of activity None = Task activity

abbrev pub kept_by : (activity : Option ℕ) → (user : Option (List ℕ)) → Option KeptEntry
kept_by (Some activity) user = Some (kept_of activity user)
kept_by None user = None

abbrev pub kept_for : Command → Given → Option KeptEntry
kept_for DropKept given = kept_by (number_at Activity given) (value_of User given)
kept_for command given = None

abbrev pub kept_in : List (List ℕ) → Option KeptEntry
kept_in words = option_and_then (λ (asked : Asked). kept_for asked.command asked.given) (asked_by words)
