use Rattle.std.proofs.Common.{length}
use Rattle.vf_journal.proofs.Takings.{Taking}
use Rattle.vf_journal.proofs.reading.take_records.Given as goal

abbrev pub invariant-loop-count : goal.invariant-loop-count
invariant-loop-count l = Taking l.fn.block l.fn.left l.fn.area l.fn.records.items l.rest l.left l.area l.records.items

abbrev pub decreases-loop-count : goal.decreases-loop-count
decreases-loop-count l = length l.rest
