-- Every action on the contents of a file as one total function (ISO 8571-2, actions on files; profile). The calls of
-- `Tree` are its cases.
use Rattle.std.specs.Prelude.{ℕ, List, [], Result, Ok, Err}
use Rattle.vf_base.specs.declared.access.Context.{Context}
use Rattle.vf_base.specs.declared.access.FaduId.{FaduId}
use Rattle.vf_base.specs.declared.element.Element.{Element}
use Rattle.vf_tree.specs.Actions.{Outcome, inserted, replaced, extended, erased}
use Rattle.vf_tree.specs.Contexts.{shown}
use Rattle.vf_tree.specs.FileTree.{FileTree, DataUnit}
use Rattle.vf_tree.specs.Identities.{locate}
use Rattle.vf_tree.specs.TreeRefusal.{TreeRefusal}

pub data Act : Type 0 where
  Locates : FaduId → Act
  Reads : FaduId → Context → Act
  Inserts : FaduId → List DataUnit → Act
  Replaces : FaduId → DataUnit → Act
  Extends : FaduId → DataUnit → Act
  Erases : FaduId → Act

-- the file stays as it is
abbrev pub moves : FileTree → Result ℕ TreeRefusal → Result Outcome TreeRefusal
moves tree (Ok position) = Ok (record { tree = tree; position = position; shown = [] })
moves tree (Err refusal) = Err refusal

abbrev pub shows : FileTree → Result (List Element × ℕ) TreeRefusal → Result Outcome TreeRefusal
shows tree (Ok answer) = Ok (record { tree = tree; position = answer.1; shown = answer.0 })
shows tree (Err refusal) = Err refusal

-- what an action on a file leaves and shows, from a position that was kept; an action that changes the file doesn't
-- look at the position
abbrev pub does : FileTree → (position : ℕ) → Act → Result Outcome TreeRefusal
does tree position (Locates id) = moves tree (locate tree position id)
does tree position (Reads id context) = shows tree (shown tree position id context)
does tree position (Inserts id units) = inserted tree id units
does tree position (Replaces id unit) = replaced tree id unit
does tree position (Extends id unit) = extended tree id unit
does tree position (Erases id) = erased tree id

abbrev pub position_of : Result Outcome TreeRefusal → Result ℕ TreeRefusal
position_of (Ok outcome) = Ok outcome.position
position_of (Err refusal) = Err refusal

abbrev pub shown_of : Result Outcome TreeRefusal → Result (List Element × ℕ) TreeRefusal
shown_of (Ok outcome) = Ok (outcome.shown, outcome.position)
shown_of (Err refusal) = Err refusal
