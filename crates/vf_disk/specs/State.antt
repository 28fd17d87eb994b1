-- A disk between two syncs (profile): what a read gives, what the calls since the last sync make of it, and what a
-- crash may leave.
use Rattle.std.specs.Prelude.{◌≡◌, ℕ, ◌+◌, ◌-◌, ◌<◌, ◌≤◌, min, max, Bool, false, ◌&&◌, nat_le, nat_lt, List, [], ◌∷◌, ◌++◌, length, take, drop, replicate, fold, slice_index, if◌then◌else◌}
use Rattle.std.specs.List.{list_any}
use Rattle.vf_disk.specs.Disk.{overwritten}
use Rattle.vf_disk.specs.declared.crash_form.CrashForm.{CrashForm}
use Rattle.vf_disk.specs.declared.crash_form.CrashForm.TheVariants.{Keep, Lose, Fill}
use Rattle.vf_disk.specs.declared.step.Step.{Step}
use Rattle.vf_disk.specs.declared.step.Step.TheVariants.{Wrote, CutTo, Synced}

-- A disk between two syncs: what a read gives; what it gave at the last sync; that with each call since made, also
-- the failed ones; the least length since then that the disk had or was to have, and the greatest; and the ranges
-- written since, each with its length.
pub record State : Type 0 where
  pub shown : List ℕ
  pub synced : List ℕ
  pub made : List ℕ
  pub least : ℕ
  pub greatest : ℕ
  pub ranges : List (ℕ × ℕ)

-- a disk that is just synced
abbrev pub settled : List ℕ → State
settled octets = record { shown = octets; synced = octets; made = octets; least = length octets; greatest = length octets; ranges = [] }

-- with zeros up to a length, where it is shorter
abbrev pub lengthened : List ℕ → ℕ → List ℕ
lengthened octets to = octets ++ replicate (to - length octets) 0

abbrev pub after : State → Step → State
after s (Wrote at octets good) = record {
  shown = if good then overwritten s.shown at octets else s.shown;
  synced = s.synced;
  made = overwritten (lengthened s.made at) at octets;
  least = s.least;
  greatest = max s.greatest (at + length octets);
  ranges = (at, length octets) ∷ s.ranges;
}
after s (CutTo to good) = record {
  shown = if good then take to s.shown else s.shown;
  synced = s.synced;
  made = take to s.made;
  least = min s.least to;
  greatest = s.greatest;
  ranges = s.ranges;
}
after s Synced = settled s.shown

-- after these calls, oldest first
abbrev pub state_of : List ℕ → List Step → State
state_of first steps = fold after (settled first) steps

abbrev pub is_within : ℕ → ℕ × ℕ → Bool
is_within place range = nat_le range.0 place && nat_lt place (range.0 + range.1)

-- the place is in one of the ranges
abbrev pub is_torn : ℕ → List (ℕ × ℕ) → Bool
is_torn place ranges = list_any (is_within place) ranges

-- What a crash may leave. The length is that of the last sync, one that a write or a cut gave since, or one
-- between. An octet is that of the last sync where the disk was never shorter since then and no write had it in
-- its range; every other one may be anything.
pub record IsImage (s : State) (image : List ℕ) : Type 0 where
  pub no_shorter : s.least ≤ length image
  pub no_longer : length image ≤ s.greatest
  pub stays : (place : ℕ) → place < s.least → is_torn place s.ranges ≡ false → slice_index image place ≡ slice_index s.synced place

-- octets of one kind in a range, as far as the image goes
abbrev pub filled_in : ℕ → List ℕ → ℕ × ℕ → List ℕ
filled_in octet image range =
    take range.0 image ++ replicate (min range.1 (length image - range.0)) octet ++ drop (range.0 + range.1) image

-- the same in each range, the oldest first
abbrev pub filled : ℕ → List (ℕ × ℕ) → List ℕ → List ℕ
filled octet [] image = image
filled octet (range ∷ ranges) image = filled_in octet (filled octet ranges image) range

-- What a crash leaves in each form: all calls made; what the last sync left; all calls made and then one octet in
-- each range written since the last sync.
abbrev pub left_by : CrashForm → State → List ℕ
left_by Keep s = s.made
left_by Lose s = s.synced
left_by (Fill octet) s = filled octet s.ranges s.made
