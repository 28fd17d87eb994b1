use Rattle.std.proofs.Common.{arith}
use Rattle.vf_disk.proofs.Joins.{items_short, sound_short}
use Rattle.vf_disk.proofs.parts.Parts.extend_from_slice.Goals as goal

pub invariant_of-self-2 : goal.invariant_of-self-2
invariant_of-self-2 c = (sound_short _ _ _ _ c.self.invariant.0 c.args.octets.now _ _ c.in_ok-extend_from_slice.ensures.items (omega (arith, c.in_ok-count.ensures.sum)), c.in_ok-count.ensures.bound)

pub returns-clause-items : goal.returns-clause-items
returns-clause-items c = rw (← c.self.view_is) (items_short _ _ _ _ c.self.invariant.0 c.args.octets.now _ c.in_ok-extend_from_slice.ensures.items)
