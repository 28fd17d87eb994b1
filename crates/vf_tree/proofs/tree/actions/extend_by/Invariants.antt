use Rattle.std.proofs.Common.{◌≡◌, ◌++◌, take}
use Rattle.vf_tree.proofs.tree.actions.extend_by.Given as goal

abbrev pub invariant-loop-string : goal.invariant-loop-string
invariant-loop-string l = l.all ≡ l.initial.all ++ take l.string-index l.string-items
