-- A transfer as what happened in it, the latest first (ISO 8571-3, checkpointing and restart), and what of it stands.
-- Its checks count on from a point: the start of the values, which is 0, or the check at which it was recovered.
use Rattle.std.specs.Prelude.{ℕ, ◌+◌, ◌-◌, ◌≤◌, min, max, List, [], ◌∷◌, ◌++◌, length, take}
use Rattle.vf_base.specs.declared.element.Element.{Element}

pub data Entry : Type 0 where
  Value : Element → Entry
  Check : Entry
  -- of a check, and so of each one before it
  Acknowledgement : ℕ → Entry
  -- at a check, or at the point from which the checks count
  Restart : ℕ → Entry

-- The values that stand: for each check that stands those between the one before and it, and those after the last.
pub record Standing : Type 0 where
  pub closed : List (List Element)
  pub after : List Element

-- A restart takes away the values and the checks after its check.
abbrev pub standing : ℕ → List Entry → Standing
standing start [] = record { closed = []; after = [] }
standing start (Value element ∷ earlier) =
    let left = standing start earlier in record left { after = left.after ++ element ∷ [] }
standing start (Check ∷ earlier) =
    let left = standing start earlier in record { closed = left.closed ++ left.after ∷ []; after = [] }
standing start (Acknowledgement check ∷ earlier) = standing start earlier
standing start (Restart check ∷ earlier) = record { closed = take (check - start) (standing start earlier).closed; after = [] }

abbrev pub joined : List (List Element) → List Element
joined [] = []
joined (values ∷ others) = values ++ joined others

-- the values that stand, in order
abbrev pub survivors : ℕ → List Entry → List Element
survivors start entries = let left = standing start entries in joined left.closed ++ left.after

-- the number of the last check that stands
abbrev pub last_check : ℕ → List Entry → ℕ
last_check start entries = start + length (standing start entries).closed

-- The last check that stands and is acknowledged. A restart takes away what was acknowledged of checks after its own.
abbrev pub point : ℕ → List Entry → ℕ
point start [] = start
point start (Value element ∷ earlier) = point start earlier
point start (Check ∷ earlier) = point start earlier
point start (Acknowledgement check ∷ earlier) = max check (point start earlier)
point start (Restart check ∷ earlier) = min check (point start earlier)

-- the values that stand before a check
abbrev pub before : ℕ → List Entry → (check : ℕ) → List Element
before start entries check = joined (take (check - start) (standing start entries).closed)

-- those before the last check that stands and is acknowledged
abbrev pub front : ℕ → List Entry → List Element
front start entries = before start entries (point start entries)

-- a check that stands, or the point from which the checks count
abbrev pub IsKnown : ℕ → List Entry → (check : ℕ) → Type 0
IsKnown start entries check = (start ≤ check) × (check ≤ last_check start entries)

-- The transfers that there are: an entry is what was answered, so each acknowledgement and each restart is of a check
-- that stood then, or of the point from which the checks count.
abbrev pub NamesKnownChecks : ℕ → List Entry → Type 0
NamesKnownChecks start [] = Unit {0}
NamesKnownChecks start (Value element ∷ earlier) = NamesKnownChecks start earlier
NamesKnownChecks start (Check ∷ earlier) = NamesKnownChecks start earlier
NamesKnownChecks start (Acknowledgement check ∷ earlier) = IsKnown start earlier check × NamesKnownChecks start earlier
NamesKnownChecks start (Restart check ∷ earlier) = IsKnown start earlier check × NamesKnownChecks start earlier

-- how many of so many values and those of these checks stand before each check
abbrev pub counts_from : ℕ → List (List Element) → List ℕ
counts_from before [] = []
counts_from before (values ∷ closed) = (before + length values) ∷ counts_from (before + length values) closed

-- for each check that stands, how many of the values that stand are before it
abbrev pub marks : ℕ → List Entry → List ℕ
marks start entries = counts_from 0 (standing start entries).closed
