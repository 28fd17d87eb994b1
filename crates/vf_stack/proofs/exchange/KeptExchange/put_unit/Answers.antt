use Rattle.std.proofs.Common.{sym, ◌∙◌}
use Rattle.vf_stack.specs.Contexts.{contexts_among}
use Rattle.vf_stack.specs.Represents.{PutsRead, PutsUnit}
use Rattle.vf_stack.proofs.OutcomeLemmas.{if-ok}
use Rattle.vf_stack.proofs.UnitLemmas.{puts-some}
use Rattle.vf_upper.specs.Primitives.{reading as user_data_read}
use Rattle.vf_stack.proofs.exchange.KeptExchange.put_unit.Goals as goal

pub returns-in_ok-octets-in-Some : goal.returns-in_ok-octets-in-Some
returns-in_ok-octets-in-Some c =
    let kept = c.args.self.now in
    let unit = c.args.unit.now in
    let out = c.args.out.now.items in
    let out' = c.put_carried.new.out.items in
    let kind = c.in-Some.kind in
    let head = c.parameters-parameters.result in
    let octets = c.in_ok-octets-in-Some.octets in
    if-ok c.put_carried.result
    (λ made. PutsRead kept head (user_data_read kind (contexts_among kept.offers kept.accepted kind) octets) out out' made.0 made.1)
    (λ made. PutsUnit kept unit out out' made.0 made.1) c.put_carried.ensures
    (λ made puts. puts-some kept unit kind head octets out out' made.0 made.1 c.parameters-parameters.ensures c.in_ok-octets-in-Some.ensures (sym c.carrier.ensures ∙ c.in-Some.is) puts)
