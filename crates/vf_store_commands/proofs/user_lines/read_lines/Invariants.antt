use Rattle.std.proofs.Common.{◌+◌, ◌-◌, ◌<◌, ◌≤◌, length}
use Rattle.vf_base.specs.Faults.{NeverFalls}
use Rattle.vf_store_commands.specs.Reading.{most_progress, progress}
use Rattle.vf_store_commands.proofs.Blocks.{HasTold}
use Rattle.vf_store_commands.proofs.user_lines.read_lines.Given as goal

abbrev pub invariant-loop-lines : goal.invariant-loop-lines
invariant-loop-lines g l = record {
  told : HasTold (g.I.Source.left l.initial.input) (g.I.Source.left l.input) l.lines;
  falls : NeverFalls (g.I.Source.fault_count l.initial.input) (g.I.Source.fault_count l.input);
  room : 0 < length l.block;
  within : progress l.lines ≤ most_progress;
}

abbrev pub decreases-loop-lines : goal.decreases-loop-lines
decreases-loop-lines g l = most_progress + 1 - progress l.lines
