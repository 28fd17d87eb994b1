-- What octets are, to a reader of values: a question of which spellings exist.
use Rattle.std.specs.Prelude.{ℕ, ◌+◌, ◌<◌, ◌≤◌, List, ◌∷◌, ◌++◌, length, take}
use Rattle.vf_base.specs.declared.limits.TheConstants.{MOST_VALUE_OCTETS}
use Rattle.vf_ber.specs.declared.limits.TheConstants.{MOST_DEPTH}
use Rattle.vf_ber.specs.Tree.{Tree, depth}
use Rattle.vf_ber.specs.Spellings.{Spells}

-- no limits; that of depth alone; that of depth and that of length (profile)
pub data Limits : Type 0 where
  free : Limits
  shallow : Limits
  bounded : Limits

abbrev pub IsWithin : Limits → List ℕ → Tree → Type 0
IsWithin free octets tree = Unit {0}
IsWithin shallow octets tree = depth tree ≤ MOST_DEPTH
IsWithin bounded octets tree = (depth tree ≤ MOST_DEPTH) × (length octets ≤ MOST_VALUE_OCTETS)

-- the octets are a spelling of the tree within these limits
abbrev pub IsSpelling : Limits → List ℕ → Tree → Type 0
IsSpelling limits octets tree = Spells octets tree × IsWithin limits octets tree

-- some spelling begins with the octets
abbrev pub Begins : Limits → List ℕ → Type 0
Begins limits octets = (rest : List ℕ) × (tree : Tree) × IsSpelling limits (octets ++ rest) tree

-- The octet at this place is the first after which no spelling within the limits exists.
pub record IsFirstFault (octets : List ℕ) (at : ℕ) : Type 0 where
  pub there : at < length octets
  pub before : Begins bounded (take at octets)
  pub after : ¬ Begins bounded (take (at + 1) octets)
  -- and the octets don't begin with a whole spelling
  pub unread : (n : ℕ) (tree : Tree) → ¬ IsSpelling bounded (take n octets) tree

pub data Reading : Type 0 where
  -- a tree, spelled by so many octets
  Read : Tree → ℕ → Reading
  -- octets are wanting
  Short : Reading
  -- the octet at a place is a fault
  Bad : ℕ → Reading
  Deep : ℕ → Reading
  Long : ℕ → Reading

abbrev pub IsReading : List ℕ → Reading → Type 0
-- they begin with a spelling within the limits
IsReading octets (Read tree n) = (n ≤ length octets) × IsSpelling bounded (take n octets) tree
-- they are a proper prefix of one
IsReading octets Short = (next : ℕ) × (rest : List ℕ) × (tree : Tree) × IsSpelling bounded (octets ++ next ∷ rest) tree
-- no spelling at all begins with the octets up to and with this one
IsReading octets (Bad at) = IsFirstFault octets at × ¬ Begins free (take (at + 1) octets)
-- some does, but none that is shallow enough
IsReading octets (Deep at) =
    IsFirstFault octets at × Begins free (take (at + 1) octets) × ¬ Begins shallow (take (at + 1) octets)
-- a shallow one does, but none that is also short enough
IsReading octets (Long at) = IsFirstFault octets at × Begins shallow (take (at + 1) octets)
