use Rattle.std.proofs.Common.{◌≡◌, ◌+◌, ◌-◌, ◌++◌, length}
use Rattle.vf_base.specs.Faults.{NeverFalls}
use Rattle.vf_cli_dialogue.specs.Reader.{with_prefix}
use Rattle.vf_cli_dialogue.proofs.lines.find_end.Given as goal

abbrev pub invariant-loop-stop : goal.invariant-loop-stop
invariant-loop-stop g l =
    (with_prefix (l.digits ++ l.block) (g.S.Source.left l.input) ≡ with_prefix (l.fn.digits ++ l.fn.block) (g.S.Source.left l.fn.input))
    × NeverFalls (g.S.Source.fault_count l.fn.input) (g.S.Source.fault_count l.input)

abbrev pub decreases-loop-stop : goal.decreases-loop-stop
decreases-loop-stop g l = l.room + 1 - (length l.digits + length l.block)
