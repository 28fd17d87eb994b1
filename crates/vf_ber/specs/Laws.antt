-- Laws of spellings and of the reading.
use Rattle.std.specs.Prelude.{◌≡◌, ℕ, [], List, ◌++◌, length}
use Rattle.vf_ber.specs.Tree.{Tree}
use Rattle.vf_ber.specs.Tags.{IsTree}
use Rattle.vf_ber.specs.Limits.{IsTooLarge}
use Rattle.vf_ber.specs.Spelling.{spell}
use Rattle.vf_ber.specs.Reader.{reading}
use Rattle.vf_ber.specs.Spellings.{Spells}
use Rattle.vf_ber.specs.Reading.{Reading, IsReading, Read}

-- octets have one reading
abbrev pub HasOneReading : Type 0
HasOneReading = (octets : List ℕ) (a b : Reading) → IsReading octets a → IsReading octets b → a ≡ b

-- octets have a reading, which a plain program finds
abbrev pub HasAReading : Type 0
HasAReading = (octets : List ℕ) → IsReading octets (reading octets)

-- no spelling of a value is a proper prefix of a spelling of any value
abbrev pub IsPrefixFree : Type 0
IsPrefixFree = (octets rest : List ℕ) (a b : Tree) → Spells octets a → Spells (octets ++ rest) b → rest ≡ []

-- octets spell one value
abbrev pub SpellsOne : Type 0
SpellsOne = (octets : List ℕ) (a b : Tree) → Spells octets a → Spells octets b → a ≡ b

-- The canonical spelling of a value within the limits, whatever follows it, is read as this value: that is the
-- reading, and no other.
abbrev pub IsReadAgain : Type 0
IsReadAgain =
    (tree : Tree) (rest : List ℕ) (reading : Reading) → IsTree tree → ¬ IsTooLarge tree
    → IsReading (spell tree ++ rest) (Read tree (length (spell tree)))
    × (IsReading (spell tree ++ rest) reading → reading ≡ Read tree (length (spell tree)))
