-- Where a holder stands or would stand in the order, and the numbers with one holder more or less.
use Rattle.std.specs.Prelude.{ℕ, suc, ◌+◌, ◌-◌, List, [], ◌∷◌, Ok, Err, Result, slice_get, slice_index, slice_set}
use Rattle.std.specs.Option.{option_map_or}
use Rattle.std.specs.declared.cmp.Ordering.{Ordering}
use Rattle.std.specs.declared.cmp.Ordering.TheVariants.{Less, Equal, Greater}
use Rattle.vf_base.specs.declared.action.Control.{Control}
use Rattle.vf_locks.specs.Counts.{action_numbers, control_number}
use Rattle.vf_locks.specs.declared.held.Held.{Held}
use Rattle.vf_locks.specs.declared.holder.Holder.{Holder}
use Rattle.vf_locks.specs.Holders.{holder_cmp}

abbrev pub later_place : Result ℕ ℕ → Result ℕ ℕ
later_place (Ok place) = Ok (suc place)
later_place (Err place) = Err (suc place)

abbrev pub place_by : Ordering → Result ℕ ℕ → Result ℕ ℕ
place_by Less place = later_place place
place_by Equal place = Ok 0
place_by Greater place = Err 0

-- the place of the holder, or that before which it would stand
abbrev pub place_of : Holder → List Held → Result ℕ ℕ
place_of holder [] = Err 0
place_of holder (held ∷ later) = place_by (holder_cmp held.holder holder) (place_of holder later)

-- the numbers of one action, with one holder more or less that has the control
abbrev pub raised_row : Control → List ℕ → List ℕ
raised_row control row = slice_set row (control_number control) (slice_index row (control_number control) + 1)

abbrev pub lowered_row : Control → List ℕ → List ℕ
lowered_row control row = slice_set row (control_number control) (slice_index row (control_number control) - 1)

-- the numbers, with one holder more or less that has the controls
abbrev pub each_row : (Control → List ℕ → List ℕ) → List Control → List ℕ → List (List ℕ) → List (List ℕ)
each_row change controls [] rows = rows
each_row change controls (action ∷ actions) [] = []
each_row change controls (action ∷ actions) (row ∷ rows) = option_map_or (λ control. change control row) (slice_get controls action) row ∷ each_row change controls actions rows

unfoldable pub raised : List Control → List (List ℕ) → List (List ℕ)
raised controls numbers = each_row raised_row controls action_numbers numbers

unfoldable pub lowered : List Control → List (List ℕ) → List (List ℕ)
lowered controls numbers = each_row lowered_row controls action_numbers numbers
