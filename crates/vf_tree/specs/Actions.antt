-- What the actions that change a file leave: the tree and the position (ISO 8571-2, actions on files; which action
-- takes which identity in which constraint set, and the positions, are profile).
use Rattle.std.specs.Prelude.{◌≡◌, ℕ, ◌+◌, List, [], ◌∷◌, ◌++◌, length, Result, Ok, Err, IfOk}
use Rattle.vf_base.specs.declared.access.Constraint.{Constraint}
use Rattle.vf_base.specs.declared.access.Constraint.TheVariants.{Unstructured, SequentialFlat}
use Rattle.vf_base.specs.declared.access.FaduId.{FaduId}
use Rattle.vf_base.specs.declared.access.FaduId.TheVariants.{Begin, End, First}
use Rattle.vf_base.specs.declared.element.Element.{Element}
use Rattle.vf_tree.specs.declared.errors.TreeError.{TreeError}
use Rattle.vf_tree.specs.FileTree.{FileTree, DataUnit, IsWithinFile, strings}
use Rattle.vf_tree.specs.TreeRefusal.{TreeRefusal, Outside, NotFound, IsCause}

-- what an action leaves, and what it shows
pub record Outcome : Type 0 where
  pub tree : FileTree
  pub position : ℕ
  pub shown : List Element

-- a tree of these units, at this position
abbrev pub leaves : Constraint → List DataUnit → ℕ → Result Outcome TreeRefusal
leaves constraint units position =
    Ok (record { tree = record { constraint = constraint; units = units }; position = position; shown = [] })

-- F-WRITE by insert: after the last unit of a sequential flat file
abbrev pub insertion : Constraint → List DataUnit → FaduId → List DataUnit → Result Outcome TreeRefusal
insertion Unstructured units id more = Err Outside
insertion SequentialFlat units End more = leaves SequentialFlat (units ++ more) (length (units ++ more) + 1)
insertion SequentialFlat units _ more = Err NotFound

-- F-WRITE by replace: the whole of an unstructured file
abbrev pub replacement : Constraint → List DataUnit → FaduId → DataUnit → Result Outcome TreeRefusal
replacement Unstructured units Begin unit = leaves Unstructured (unit ∷ []) 0
replacement Unstructured units First unit = leaves Unstructured (unit ∷ []) 0
replacement Unstructured units _ unit = Err NotFound
replacement SequentialFlat units id unit = Err Outside

-- F-WRITE by extend: strings after those of an unstructured file
abbrev pub extension : Constraint → List DataUnit → FaduId → DataUnit → Result Outcome TreeRefusal
extension Unstructured units Begin unit = leaves Unstructured ((strings units ++ unit) ∷ []) 0
extension Unstructured units First unit = leaves Unstructured ((strings units ++ unit) ∷ []) 0
extension Unstructured units _ unit = Err NotFound
extension SequentialFlat units id unit = Err Outside

-- F-ERASE: the whole file
abbrev pub erasure : Constraint → List DataUnit → FaduId → Result Outcome TreeRefusal
erasure Unstructured units Begin = leaves Unstructured ([] ∷ []) 0
erasure Unstructured units First = leaves Unstructured ([] ∷ []) 0
erasure Unstructured units _ = Err NotFound
erasure SequentialFlat units Begin = leaves SequentialFlat [] 0
erasure SequentialFlat units _ = Err NotFound

abbrev pub inserted : FileTree → FaduId → List DataUnit → Result Outcome TreeRefusal
inserted tree id more = insertion tree.constraint tree.units id more

abbrev pub replaced : FileTree → FaduId → DataUnit → Result Outcome TreeRefusal
replaced tree id unit = replacement tree.constraint tree.units id unit

abbrev pub extended : FileTree → FaduId → DataUnit → Result Outcome TreeRefusal
extended tree id unit = extension tree.constraint tree.units id unit

abbrev pub erased : FileTree → FaduId → Result Outcome TreeRefusal
erased tree id = erasure tree.constraint tree.units id

-- the file is within its limits where the action isn't refused
abbrev pub LeavesFile : Result Outcome TreeRefusal → Type 0
LeavesFile answer = IfOk answer (λ outcome. IsWithinFile outcome.tree.units)

-- What a call that changes a tree answers and leaves; the tree is as it was where anything is answered but a position.
abbrev pub Performs : Result Outcome TreeRefusal → (old new : FileTree) → Result ℕ TreeError → Type 0
Performs answer old new (Ok position) = answer ≡ Ok (record { tree = new; position = position; shown = [] })
Performs answer old new (Err error) = IsCause answer error × (new ≡ old)
