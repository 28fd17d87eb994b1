-- What is read off an action that leaves the file as it is.
use Rattle.std.proofs.Common.{◌≡◌, ℕ, List, Ok, Err, Result, refl}
use Rattle.vf_base.specs.declared.element.Element.{Element}
use Rattle.vf_tree.specs.Acts.{moves, position_of, shown_of, shows}
use Rattle.vf_tree.specs.FileTree.{FileTree}
use Rattle.vf_tree.specs.TreeRefusal.{TreeRefusal}

pub position_of-moves : (tree : FileTree) (answer : Result ℕ TreeRefusal) → position_of (moves tree answer) ≡ answer
position_of-moves tree (Ok position) = refl
position_of-moves tree (Err refusal) = refl

pub shown_of-shows : (tree : FileTree) (answer : Result (List Element × ℕ) TreeRefusal) → shown_of (shows tree answer) ≡ answer
shown_of-shows tree (Ok answer) = refl
shown_of-shows tree (Err refusal) = refl

pub ruleset acts = (position_of-moves, shown_of-shows)
