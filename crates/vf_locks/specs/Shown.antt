-- Whether the numbers of a file's controls leave room for a clash.
use Rattle.std.specs.Prelude.{ℕ, Bool, false, ◌||◌, List, nat_lt, slice_index}
use Rattle.std.specs.List.{list_any, zip}
use Rattle.vf_base.specs.declared.action.Control.{Control}
use Rattle.vf_base.specs.declared.action.Control.TheVariants.{NotRequired, Shared, Exclusive, NoAccess}

-- the numbers of one action have a control that clashes with this one
abbrev pub row_shows : List ℕ → Control → Bool
row_shows row NotRequired = false
row_shows numbers Shared = nat_lt 0 (slice_index numbers 2) || nat_lt 0 (slice_index numbers 3)
row_shows numbers Exclusive = nat_lt 0 (slice_index numbers 1) || nat_lt 0 (slice_index numbers 2) || nat_lt 0 (slice_index numbers 3)
row_shows numbers NoAccess = nat_lt 0 (slice_index numbers 1) || nat_lt 0 (slice_index numbers 2)

abbrev pub shows : List (List ℕ) → List Control → Bool
shows numbers wanted = list_any (λ (pair : List ℕ × Control). row_shows pair.0 pair.1) (zip numbers wanted)
