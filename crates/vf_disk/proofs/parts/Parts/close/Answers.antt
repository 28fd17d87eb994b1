use Rattle.std.proofs.Common.{arith}
use Rattle.vf_disk.proofs.Joins.{items_string, sound_string}
use Rattle.vf_disk.proofs.parts.Parts.close.Goals as goal

pub overflow_sub-part : goal.overflow_sub-part
overflow_sub-part c = omega (arith, c.self.invariant.0.within, c.self.inside.short.ok.0, c.len-short.ensures)

pub invariant_of-self-2 : goal.invariant_of-self-2
invariant_of-self-2 c = (sound_string _ _ _ _ c.self.invariant.0 _ _ _ _ c.in_ok-push.ensures.items (omega (arith, c.self.invariant.0.within, c.self.inside.short.ok.0, c.len-short.ensures)) (omega (arith, c.self.inside.short.ok.0, c.len-short.ensures)) (omega (arith, c.in_ok-count.ensures.sum)), c.in_ok-count.ensures.bound)

pub returns-clause-items : goal.returns-clause-items
returns-clause-items c = rw (← c.self.view_is) (items_string _ _ _ _ c.self.invariant.0 _ _ c.in_ok-push.ensures.items (omega (arith, c.self.invariant.0.within, c.self.inside.short.ok.0, c.len-short.ensures)))
