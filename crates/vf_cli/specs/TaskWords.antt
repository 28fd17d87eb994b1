-- The task of `put` and `get`, by the options of the words (profile). Without its option a file is of kind 3, a task is tried on
-- three connections after the first one, and 64 elements stand between two checkpoints.
use Rattle.std.specs.Prelude.{◌≡◌, Bool, true, false, ℕ, List, [], Option, Some, None, option_and_then}
use Rattle.std.specs.Option.{unwrap_or}
use Rattle.vf_cli_words.specs.Words.{Asked, Given, asked_by, number_at, value_of}
use Rattle.vf_cli_words.specs.declared.command.Command.{Command}
use Rattle.vf_cli_words.specs.declared.command.Command.TheVariants.{Put, Get}
use Rattle.vf_cli_words.specs.declared.options.Key.TheVariants.{Name, User, Password, Kind, Activity, Tries, Every}
use Rattle.vf_transact.specs.Starting.{are_words}
use Rattle.vf_transact.specs.declared.words.PlanWords.{PlanWords}

abbrev pub task_with : (put : Bool) → Given → PlanWords
task_with put given =
    record {
      put = put;
      name = unwrap_or (value_of Name given) [];
      kind = unwrap_or (number_at Kind given) 3;
      every = unwrap_or (number_at Every given) 64;
      identity = unwrap_or (value_of User given) [];
      password = value_of Password given;
      activity = number_at Activity given;
      tries = unwrap_or (number_at Tries given) 3;
    }

abbrev pub task_for : Command → Given → Option PlanWords
task_for Put given = Some (task_with true given)
task_for Get given = Some (task_with false given)
task_for command given = None

abbrev pub task_in : List (List ℕ) → Option PlanWords
task_in words = option_and_then (λ (asked : Asked). task_for asked.command asked.given) (asked_by words)

-- Its numbers and its password are in the ranges that a task over a dial wants.
abbrev pub TasksAreInRange : Type 0
TasksAreInRange = (words : List (List ℕ)) (task : PlanWords) → task_in words ≡ Some task → are_words task ≡ true
