use Rattle.std.proofs.Common.{◌+◌, ◌-◌, ◌<◌, length}
use Rattle.vf_base.specs.Faults.{NeverFalls}
use Rattle.vf_base.specs.Streams.{HasRead}
use Rattle.vf_cli_script.specs.declared.input.TheConstants.{INPUT_LIMIT}
use Rattle.vf_cli_script.proofs.input.read_all.Given as goal

abbrev pub invariant-loop-input : goal.invariant-loop-input
invariant-loop-input g l = record {
  read : HasRead (g.I.Source.left l.initial.input) (g.I.Source.left l.input) l.octets.items;
  falls : NeverFalls (g.I.Source.fault_count l.initial.input) (g.I.Source.fault_count l.input);
  room : 0 < length l.block.items;
}

abbrev pub decreases-loop-input : goal.decreases-loop-input
decreases-loop-input g l = INPUT_LIMIT + 1 - length l.octets.items
