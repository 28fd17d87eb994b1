use Rattle.std.proofs.Common.{◌≤◌, ◌-◌, length}
use Rattle.vf_ber_scan.proofs.ReadingLemmas.{Fed}
use Rattle.vf_ber_scan.proofs.scan.Scan.end_in.Given as goal

abbrev pub invariant-loop-taken : goal.invariant-loop-taken
invariant-loop-taken l = record {
  within : l.taken ≤ length l.piece;
  fed : Fed l.initial.self l.self.place l.self.frames l.piece l.taken;
}

abbrev pub decreases-loop-taken : goal.decreases-loop-taken
decreases-loop-taken l = length l.piece - l.taken
