use Rattle.std.proofs.Common.{rules, arith, ap, length}
use Rattle.vf_disk.proofs.memory_disk.MemoryDisk.copy.Goals as goal

pub invariant_of-result : goal.invariant_of-result
invariant_of-result c = record {
  shown = search rules;
  room = λ unsettled. let room = c.in_ok-steps.ensures.room in let same = ap length c.in_ok-steps.ensures.steps in omega arith;
}
