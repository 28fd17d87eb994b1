use Rattle.std.proofs.Common.{subst, sym}
use Rattle.std.specs.Prelude.{Result}
use Rattle.std.proofs.lemmas.Result.{err_from_is_err_and}
use Rattle.vf_base.specs.declared.errors.Failed.{Failed}
use Rattle.vf_responder.specs.Blocks.{SendsFirst}
use Rattle.vf_responder.proofs.BlockLemmas.{row-goes, row-waits, sends-front}
use Rattle.vf_responder.proofs.sending.send_row.Goals as goal

pub returns-then-waits-clause-traffic : goal.returns-then-waits-clause-traffic
returns-then-waits-clause-traffic g c =
    rw (c.waits.ensures.yes c.if-waits.true) (row-waits (g.L.Links.told c.args.links.now) c.args.link c.args.block.now.items c.args.row.now)

pub returns-in_err-send_all-clause-traffic : goal.returns-in_err-send_all-clause-traffic
returns-in_err-send_all-clause-traffic g c =
    let p = err_from_is_err_and c.from_residual.result c.from_residual.ensures.1 in
    let block = c.args.block.now.items in
    let fails = rw (c.as_slice.ensures.value, c.waits.ensures.no c.if-waits.false) at c.in_err-send_all.ensures.traffic in
    subst
    (λ (result : Result (Unit {0}) Failed). SendsFirst (g.L.Links.told c.args.links.now) (g.L.Links.told c.send_all.new.links) c.args.link block c.args.row.now c.waits.new.block.items result) (sym p.1)
    (sends-front (g.L.Links.told c.args.links.now) (g.L.Links.told c.send_all.new.links) c.args.link block c.args.row.now _ p.0 fails)

pub returns-clause-traffic : goal.returns-clause-traffic
returns-clause-traffic g c =
    let goes = rw (c.as_slice.ensures.value, c.waits.ensures.no c.if-waits.false) at c.in_ok-send_all.ensures.traffic in
    rw c.clear.ensures.items
    (row-goes (g.L.Links.told c.args.links.now) (g.L.Links.told c.send_all.new.links) (g.L.Links.told c.send_all-2.new.links) c.args.link c.args.block.now.items c.args.row.now c.send_all-2.result
    goes c.send_all-2.ensures.traffic)
