-- What the calls of a disk do to its octets, and what a crash between two syncs may leave of them (profile). What
-- a crash leaves is an image: the octets that are found at the next start. A disk that can't tell its octets tells
-- no image either, so that clauses on content and on crashes are empty there.
use Rattle.std.specs.Prelude.{◌≡◌, ◌⊎◌, ℕ, ◌+◌, ◌≤◌, min, max, List, ◌++◌, length, take, drop, Option, None, Some, Result, Ok, Err}
use Rattle.vf_base.specs.declared.errors.Failed.{Failed}
use Rattle.vf_disk.specs.declared.limits.TheConstants.{GREATEST_LENGTH}

-- no disk is longer
abbrev pub greatest_length : ℕ
greatest_length = GREATEST_LENGTH

-- these octets at a place, and the others as they were
abbrev pub overwritten : List ℕ → ℕ → List ℕ → List ℕ
overwritten old at octets = take at old ++ octets ++ drop (at + length octets) old

-- An image after a write of so many octets at a place that a crash cut short: in that range and past the old
-- end it may hold any octets, elsewhere it has the old ones, and its length is the old one, that which the write
-- gives, or one between.
pub record Torn (at count : ℕ) (old new : List ℕ) : Type 0 where
  pub before : take at new ≡ take at old
  pub past : drop (at + count) new ≡ drop (at + count) old
  pub no_shorter : length old ≤ length new
  pub no_longer : length new ≤ max (length old) (at + count)

-- An image after a cut to a length: a length down to that one, and what the cut took away may be there again and
-- hold anything.
pub record Shortened (to : ℕ) (old new : List ℕ) : Type 0 where
  pub kept : take to new ≡ take to old
  pub no_shorter : min to (length old) ≤ length new
  pub no_longer : length new ≤ length old

-- each new image is an old one after a step
abbrev pub Follows : (List ℕ → List ℕ → Type 0) → (List ℕ → Type 0) → (List ℕ → Type 0) → Type 0
Follows step old new = (image : List ℕ) → new image → (before : List ℕ) × old before × step before image

-- there is no new image
abbrev pub Within : (List ℕ → Type 0) → (List ℕ → Type 0) → Type 0
Within old new = (image : List ℕ) → new image → old image

-- a crash leaves what a read gives, and nothing else
abbrev pub LeavesShown : Option (List ℕ) → (List ℕ → Type 0) → Type 0
LeavesShown shown images = (image : List ℕ) → images image → shown ≡ Some image

-- a read gives the octets of its range
abbrev pub Gives : Option (List ℕ) → ℕ → List ℕ → Result (Unit {0}) Failed → Type 0
Gives None at into result = Unit {0}
Gives (Some shown) at into (Ok done) = into ≡ take (length into) (drop at shown)
Gives (Some shown) at into (Err failed) = Unit {0}

-- what a read gives after a call that failed: it has the old length, and otherwise it may be half made
abbrev pub HalfMade : (List ℕ → List ℕ → Type 0) → List ℕ → Option (List ℕ) → Type 0
HalfMade step old new = (shown : List ℕ) × (new ≡ Some shown) × (length shown ≡ length old) × step old shown

abbrev pub Writes : Option (List ℕ) → Option (List ℕ) → ℕ → List ℕ → Result (Unit {0}) Failed → Type 0
Writes None new at octets result = new ≡ None
Writes (Some old) new at octets (Ok done) = new ≡ Some (overwritten old at octets)
Writes (Some old) new at octets (Err failed) = HalfMade (Torn at (length octets)) old new

abbrev pub Cuts : Option (List ℕ) → Option (List ℕ) → ℕ → Result (Unit {0}) Failed → Type 0
Cuts None new to result = new ≡ None
Cuts (Some old) new to (Ok done) = new ≡ Some (take to old)
Cuts (Some old) new to (Err failed) = HalfMade (Shortened to) old new

-- the length after a write: that of the disk or the end of what was written, and that of the disk where it failed
abbrev pub length_written : ℕ → ℕ → ℕ → Result (Unit {0}) Failed → ℕ
length_written old at count (Ok done) = max old (at + count)
length_written old at count (Err failed) = old

abbrev pub length_cut : ℕ → ℕ → Result (Unit {0}) Failed → ℕ
length_cut old to (Ok done) = to
length_cut old to (Err failed) = old

-- The clock goes on. A crash since a moment might have left what it might have left before, or what it may leave
-- now.
pub record Elapses (before now : ℕ) (past since : ℕ → List ℕ → Type 0) (images : List ℕ → Type 0) : Type 0 where
  pub later : before ≤ now
  pub nothing_else : (moment : ℕ) (image : List ℕ) → moment ≤ before → since moment image → past moment image ⊎ images image
  pub stays : (moment : ℕ) (image : List ℕ) → moment ≤ before → past moment image → since moment image

-- A crash at any moment between an old state of a disk and a new one leaves an image that has P. The last part is
-- for a run that began earlier.
pub record LeavesOnly {D : Type 0} (moment : D → ℕ) (left_since : D → ℕ → List ℕ → Type 0) (old new : D) (P : List ℕ → Type 0) : Type 0 where
  pub later : moment old ≤ moment new
  pub each : (image : List ℕ) → left_since new (moment old) image → P image
  pub earlier : (t : ℕ) (image : List ℕ) → t ≤ moment old → left_since new t image → left_since old t image ⊎ P image
