use Rattle.vf_cli_dialogue.proofs.BlockLemmas.{moves_digits}
use Rattle.vf_cli_dialogue.proofs.block.Block.move_digits.Goals as goal

pub returns-clause-ok : goal.returns-clause-ok
returns-clause-ok c =
    moves_digits c.self.inside.octets.items c.deref.result.now c.args.self.now c.args.digits.now c.take.new.self c.self.inside.place c.self.inside.end
    c.in_ok-count.count c.stop_at-stop.result c.deref.ensures.value c.self.invariant.0 c.self.view_is c.in_ok-count.ensures.ok c.stop_at-stop.ensures
