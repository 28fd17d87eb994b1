-- How the images of the forms of a crash are made, call by call, and how an image is judged.
use Rattle.std.specs.Prelude.{ℕ, ◌+◌, min, max, Bool, false, nat_le, List, length, take}
use Rattle.vf_disk.specs.Disk.{overwritten}
use Rattle.vf_disk.specs.declared.step.Step.{Step}
use Rattle.vf_disk.specs.declared.step.Step.TheVariants.{Wrote, CutTo, Synced}
use Rattle.vf_disk.specs.State.{lengthened, filled_in, is_within}

-- a call made on an image, whether it failed or not
abbrev pub make : List ℕ → Step → List ℕ
make image (Wrote at octets good) = overwritten (lengthened image at) at octets
make image (CutTo to good) = take to image
make image Synced = image

-- octets of one kind in the range of a write
abbrev pub mark : ℕ → List ℕ → Step → List ℕ
mark octet image (Wrote at octets good) = filled_in octet image (at, length octets)
mark octet image (CutTo to good) = image
mark octet image Synced = image

-- the least length that a disk had or was to have, and the greatest, after one call more
abbrev pub shorter : ℕ → Step → ℕ
shorter least (Wrote at octets good) = least
shorter least (CutTo to good) = min least to
shorter least Synced = least

abbrev pub longer : ℕ → Step → ℕ
longer greatest (Wrote at octets good) = max greatest (at + length octets)
longer greatest (CutTo to good) = greatest
longer greatest Synced = greatest

-- a write goes up to a length, or past it
abbrev pub reaches : ℕ → Step → Bool
reaches count (Wrote at octets good) = nat_le count (at + length octets)
reaches count (CutTo to good) = false
reaches count Synced = false

-- a write has the place in its range
abbrev pub covers : ℕ → Step → Bool
covers place (Wrote at octets good) = is_within place (at, length octets)
covers place (CutTo to good) = false
covers place Synced = false
