use Rattle.std.proofs.Common.{drop, map}
use Rattle.vf_stack.specs.Carriage.{items_told}
use Rattle.vf_stack.specs.Represents.{PutsOnward}
use Rattle.vf_upper.specs.Carried.{carried_of}
use Rattle.vf_stack.proofs.told.put_items.Given as goal

abbrev pub invariant-loop-value : goal.invariant-loop-value
invariant-loop-value l =
    PutsOnward (items_told l.fn.sync (map carried_of l.fn.values)) l.fn.out.items (items_told l.fn.sync (map carried_of (drop l.value-index l.fn.values))) l.out.items
