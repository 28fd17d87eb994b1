use Rattle.std.proofs.Common.{◌++◌, take}
use Rattle.vf_base.proofs.StreamLemmas.{read_more}
use Rattle.vf_base.proofs.input.read_up_to.Goals as goal

pub returns-then-is_err-clause-lost : goal.returns-then-is_err-clause-lost
returns-then-is_err-clause-lost g c =
    let left = g.S.Source.left in (
      c.loop-piece.octets.items ++ take c.in-Ok.count c.read.new.into,
      read_more (left c.args.source.now) (left c.loop-piece.source) (left c.read.new.self) c.loop-piece.octets.items c.read.new.into c.in-Ok.count c.loop-piece.invariant.read c.in-Ok.ensures.octets,
    )
