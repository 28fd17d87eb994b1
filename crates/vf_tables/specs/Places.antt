-- Entries by their places, as they are changed: the place of the first that is meant, where there is one.
use Rattle.std.specs.Prelude.{ℕ, List, [], ◌∷◌, ◌++◌, Option, Some, None, slice_set}
use Rattle.std.specs.List.{remove}

-- an entry in this place, or after all others
abbrev pub put_at : {A : Type 0} → Option ℕ → A → List A → List A
put_at (Some place) entry entries = slice_set entries place entry
put_at None entry entries = entries ++ entry ∷ []

-- without the entry in this place
abbrev pub dropped_at : {A : Type 0} → Option ℕ → List A → List A
dropped_at (Some place) entries = remove entries place
dropped_at None entries = entries
