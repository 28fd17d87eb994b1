use Rattle.std.proofs.Common.{◌≡◌, length, arith}
use Rattle.std.proofs.lemmas.Grind.{common_steps}
use Rattle.vf_stack.specs.Represents.{Concludes, TellsUnit}
use Rattle.vf_stack.proofs.OutcomeLemmas.{on-ok}
use Rattle.vf_stack.proofs.UnitLemmas.{tells-concluded}
use Rattle.vf_stack.proofs.exchange.KeptExchange.receive_unit.Goals as goal

pub returns : goal.returns
returns c =
    let kept = c.args.self.now in
    let kept2 = c.conclude.new.self in
    let out = c.args.out.now.items in
    let out1 = c.put_unit.new.out.items in
    let out2 = c.conclude.new.out.items in
    let n = c.in_ok-negotiated.negotiated in
    let fault = c.in_ok-negotiated.fault in
    let count : c.len-before.result ≡ length out = grind (arith, common_steps) in
    on-ok c.conclude.result (Concludes kept c.len-before.result c.ending_by.result n out1 fault kept2 out2) (TellsUnit kept out c.args.unit kept2 out2) c.conclude.ensures
    (λ ends. tells-concluded kept kept2 c.args.unit c.len-before.result c.ending_by.result out out1 out2 n fault count c.ending_by.ensures c.in_ok-negotiated.ensures ends)
