-- What is said to a party that reads, and how far the read has come with it.
use Rattle.std.specs.Prelude.{◌≡◌, ℕ, ◌+◌, Bool, not, ◌||◌, List, [], ◌∷◌, ◌++◌, Option, if◌then◌else◌}
use Rattle.vf_elements.specs.declared.message.Said.{Said}
use Rattle.vf_elements.specs.declared.message.Said.TheVariants as answers
use Rattle.vf_filestore.specs.Aborts.{passes_serials}
use Rattle.vf_filestore.specs.Due.{Progress, is_full, offer}
use Rattle.vf_filestore.specs.Transfers.{has_data_end}
use Rattle.vf_party_steps.specs.declared.due.Due.{Due}

-- how many checks are said
abbrev pub checks_in : List Said → ℕ
checks_in [] = 0
checks_in (answers.Check point ∷ later) = 1 + checks_in later
checks_in (_ ∷ later) = checks_in later

-- how far a read has come once so many elements stand as said
abbrev pub progress_at : Due → (elements : ℕ) → Progress
progress_at due elements = record { elements = elements; check = due.check; unacknowledged = due.unacknowledged; serial = due.serial }

-- All of this is said behind what was, and its checks count. Whether the end of the values is said is told, where it
-- already was too.
pub record Says (already : Bool) (all : List Said) (before after : Due) (shown : Bool) : Type 0 where
  pub said : after.said.items ≡ before.said.items ++ all
  pub counted : after.check ≡ before.check + checks_in all
  pub ended : shown ≡ (already || has_data_end all)

-- where at first all of this was due, and now this is left
pub record Onward (all : List Said) (first : Due) (left : List Said) (now : Due) : Type 0 where
  pub said : first.said.items ++ all ≡ now.said.items ++ left
  pub counted : first.check + checks_in all ≡ now.check + checks_in left
  pub ended : has_data_end all ≡ has_data_end left

-- the window is full with so many checks that aren't acknowledged
abbrev pub is_full_with : Option ℕ → (unacknowledged : ℕ) → Bool
is_full_with window unacknowledged = is_full window (record { elements = 0; check = 0; unacknowledged = unacknowledged; serial = 0 })

-- the check that is due is said, or the abort in its place, and whether anything follows
pub record Offers (window : Option ℕ) (before after : Due) (goes_on : Bool) : Type 0 where
  pub said : after.said.items ≡ before.said.items ++ offer (progress_at before 0)
  pub decides : goes_on ≡ not (passes_serials before.serial || is_full_with window (before.unacknowledged + 1))
  pub check : after.check ≡ (if passes_serials before.serial then before.check else before.check + 1)
  pub unacknowledged : after.unacknowledged ≡ (if passes_serials before.serial then before.unacknowledged else before.unacknowledged + 1)
  pub serial : after.serial ≡ (if passes_serials before.serial then before.serial else before.serial + 1)
