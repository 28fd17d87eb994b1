-- The options that the code keeps, and the one with which words begin, as the definitions have them.
use Rattle.std.specs.Prelude.{ℕ, ◌+◌, List, [], ◌∷◌, Option, None, Some, drop, map, take, option_copied}
use Rattle.std.specs.List.{position}
use Rattle.vf_cli_words.specs.Words.{Asked, Given, is_equals}
use Rattle.vf_cli_words.specs.declared.options.Options.{Options}
use Rattle.vf_cli_words.specs.declared.words.AskedWords.{AskedWords}

abbrev pub given_of : Options → Given
given_of options = map option_copied options.values

abbrev pub asked_of : AskedWords → Asked
asked_of asked = record { command = asked.command; given = given_of asked.options }

-- the name and the value of an option, and the words after it
pub record Parts : Type 0 where
  pub name : List ℕ
  pub value : List ℕ
  pub later : List (List ℕ)

abbrev pub first_at : Option ℕ → List ℕ → List (List ℕ) → Option Parts
first_at (Some place) word later = Some (record { name = take place word; value = drop (place + 1) word; later = later })
first_at None word [] = None
first_at None word (value ∷ words) = Some (record { name = word; value = value; later = words })

abbrev pub first_of : List ℕ → List (List ℕ) → Option Parts
first_of word later = first_at (position is_equals word) word later
