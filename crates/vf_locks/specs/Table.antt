-- The holders of each file.
use Rattle.std.specs.Prelude.{◌≡◌, List, [], ◌∷◌, Option, None, Some, if◌then◌else◌, nat_eq, unwrap_or, ℕ}
use Rattle.std.specs.Cmp.Lexicographic.{pointwise}
use Rattle.std.specs.Map.{lookup}
use Rattle.vf_locks.specs.Counts.{numbers_of}
use Rattle.vf_locks.specs.declared.conflict.Conflict.{Conflict}
use Rattle.vf_locks.specs.declared.conflict.GrantError.{GrantError}
use Rattle.vf_locks.specs.declared.conflict.GrantError.TheVariants.{Clash, NoMemory}
use Rattle.vf_locks.specs.declared.counts.HeldCounts.{HeldCounts}
use Rattle.vf_locks.specs.declared.held.Held.{Held}

-- the holders of this file
abbrev pub held : List ℕ → List (List ℕ × List Held) → List Held
held file table = unwrap_or (lookup (pointwise nat_eq file) table) []

-- the file has these holders, and each other file has those that it had
abbrev pub IsWith : List ℕ → List Held → List (List ℕ × List Held) → List (List ℕ × List Held) → Type 0
IsWith file helds old new = (other : List ℕ) → held other new ≡ (if pointwise nat_eq file other then helds else held other old)

-- each file has the holders that it had
abbrev pub IsAsBefore : List (List ℕ × List Held) → List (List ℕ × List Held) → Type 0
IsAsBefore old new = (file : List ℕ) → held file new ≡ held file old

-- what a refusal tells: a clash is the conflict that stands against the request
abbrev pub IsCause : Option Conflict → GrantError → Type 0
IsCause conflict (Clash found) = conflict ≡ Some found
IsCause conflict NoMemory = Unit {0}

-- the numbers of a file's controls, where it has a holder
abbrev pub counts_of : List Held → Option HeldCounts
counts_of [] = None
counts_of (held ∷ later) = Some (record { numbers = numbers_of (held ∷ later) })
