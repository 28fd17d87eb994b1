-- How many holders of a file have each control on each action.
use Rattle.std.specs.Prelude.{ℕ, ◌==◌, Bool, false, List, [], ◌∷◌, Option, None, Some, count_by, map, slice_get}
use Rattle.vf_base.specs.declared.action.Control.{Control}
use Rattle.vf_base.specs.declared.action.Control.TheVariants.{NotRequired, Shared, Exclusive, NoAccess}
use Rattle.vf_locks.specs.declared.held.Held.{Held}

-- the numbers of the actions and of the controls (ISO 8571-4)
abbrev pub action_numbers : List ℕ
action_numbers = 0 ∷ 1 ∷ 2 ∷ 3 ∷ 4 ∷ 5 ∷ 6 ∷ 7 ∷ []

abbrev pub control_numbers : List ℕ
control_numbers = 0 ∷ 1 ∷ 2 ∷ 3 ∷ []

abbrev pub control_number : Control → ℕ
control_number NotRequired = 0
control_number Shared = 1
control_number Exclusive = 2
control_number NoAccess = 3

abbrev pub has_number : ℕ → Option Control → Bool
has_number number None = false
has_number number (Some control) = control_number control == number

-- how many of the holders have the control on the action
abbrev pub how_many : List Held → ℕ → ℕ → ℕ
how_many helds action control = count_by (λ (held : Held). has_number control (slice_get held.controls.each action)) helds

-- these for each action and each control, in the order of their numbers
unfoldable pub numbers_of : List Held → List (List ℕ)
numbers_of helds = map (λ action. map (how_many helds action) control_numbers) action_numbers
