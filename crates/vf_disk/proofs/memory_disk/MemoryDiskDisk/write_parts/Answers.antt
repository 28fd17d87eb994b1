use Rattle.std.proofs.Common.{◌∙◌}
use Rattle.vf_disk.proofs.memory_disk.MemoryDiskDisk.write_parts.Goals as goal

pub returns-clause-shown : goal.returns-clause-shown
returns-clause-shown c = let same = c.as_slice.ensures.value ∙ c.in-Ok.ensures in rw (← same) c.write_at.ensures.shown

pub returns-clause-size : goal.returns-clause-size
returns-clause-size c = let same = c.as_slice.ensures.value ∙ c.in-Ok.ensures in rw (← same) c.write_at.ensures.size

pub returns-clause-crash : goal.returns-clause-crash
returns-clause-crash c = let same = c.as_slice.ensures.value ∙ c.in-Ok.ensures in rw (← same) c.write_at.ensures.crash

pub returns-clause-long : goal.returns-clause-long
returns-clause-long c = let same = c.as_slice.ensures.value ∙ c.in-Ok.ensures in rw (← same) c.write_at.ensures.long

pub returns-clause-state : goal.returns-clause-state
returns-clause-state c = let same = c.as_slice.ensures.value ∙ c.in-Ok.ensures in rw (← same) c.write_at.ensures.state

pub returns-clause-kept : goal.returns-clause-kept
returns-clause-kept c = let same = c.as_slice.ensures.value ∙ c.in-Ok.ensures in rw (← same) c.write_at.ensures.kept
