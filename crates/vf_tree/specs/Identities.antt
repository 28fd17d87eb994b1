-- Which FADU an identity means. The identities are those of ISO 8571-2; which of them are allowed where, and the
-- positions that they give, are profile. In a file of n units position 0 is the begin of the file, i is unit i, and
-- n + 1 is the end.
use Rattle.std.specs.Prelude.{ℕ, ◌+◌, ◌-◌, ◌&&◌, nat_le, min, length, Result, Ok, Err, if◌then◌else◌}
use Rattle.vf_base.specs.declared.access.Constraint.{Constraint}
use Rattle.vf_base.specs.declared.access.Constraint.TheVariants.{Unstructured, SequentialFlat}
use Rattle.vf_base.specs.declared.access.FaduId.{FaduId}
use Rattle.vf_base.specs.declared.access.FaduId.TheVariants.{Begin, End, First, Last, Current, Next, Previous, Number}
use Rattle.vf_tree.specs.FileTree.{FileTree}
use Rattle.vf_tree.specs.TreeRefusal.{TreeRefusal, Outside, NotFound}

-- the position that each identity means, in a sequential flat file of n units at position p; 0 and n + 1 are no units
abbrev pub meant : (n p : ℕ) → FaduId → ℕ
meant n p Begin = 0
meant n p End = n + 1
meant n p First = 1
meant n p Last = n
meant n p Current = p
meant n p Next = p + 1
meant n p Previous = p - 1
meant n p (Number k) = k

-- the position of a unit, which has to be there
abbrev pub unit_at : ℕ → ℕ → Result ℕ TreeRefusal
unit_at n i = if nat_le 1 i && nat_le i n then Ok i else Err NotFound

-- begin and end are positions of every file; any other identity means a unit
abbrev pub located : (n p : ℕ) → FaduId → Result ℕ TreeRefusal
located n p Begin = Ok 0
located n p End = Ok (n + 1)
located n p id = unit_at n (meant n p id)

-- a position that was kept while units went away counts as the end
abbrev pub standing : (n p : ℕ) → ℕ
standing n p = min p (n + 1)

-- F-LOCATE; an unstructured file has no position to set
abbrev pub locating : Constraint → (n p : ℕ) → FaduId → Result ℕ TreeRefusal
locating Unstructured n p id = Err Outside
locating SequentialFlat n p id = located n (standing n p) id

-- the position that an identity gives, from a position that was kept
abbrev pub locate : FileTree → ℕ → FaduId → Result ℕ TreeRefusal
locate tree p id = locating tree.constraint (length tree.units) p id
