-- Octets that stand in parts (profile): short ones together, and long strings between them, each after so many short
-- octets.
use Rattle.std.specs.Prelude.{◌≡◌, ℕ, ◌+◌, ◌≤◌, List, [], ◌∷◌, ◌++◌, length, take, drop}
use Rattle.vf_disk.specs.declared.part.Part.{Part}

-- all octets, in their order
pub record Joined : Type 0 where
  pub items : List ℕ

-- short octets with the strings between them
abbrev pub joined : List ℕ → List Part → List ℕ
joined short [] = short
joined short (part ∷ parts) = take part.before short ++ (part.octets ++ joined (drop part.before short) parts)

-- how many short octets stand before the last string
abbrev pub short_before : List Part → ℕ
short_before [] = 0
short_before (part ∷ parts) = part.before + short_before parts

-- so many short octets stand before the last string, and so many octets in all
pub record IsSound (short : List ℕ) (parts : List Part) (closed count : ℕ) : Type 0 where
  pub closed_is : closed ≡ short_before parts
  pub within : closed ≤ length short
  pub counted : count ≡ length (joined short parts)

-- how many short octets stand before the first string
abbrev pub loose : List ℕ → List Part → ℕ
loose short [] = length short
loose short (part ∷ parts) = part.before
