use Rattle.std.proofs.Common.{length}
use Rattle.bench_lines.proofs.answers.Given as goal

abbrev pub decreases-loop-end : goal.decreases-loop-end
decreases-loop-end l = length l.rest
