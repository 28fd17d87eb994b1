use Rattle.std.proofs.Common.{◌≡◌, ◌≤◌, arith, length}
use Rattle.std.proofs.lemmas.Grind.{common_steps}
use Rattle.vf_cli_calling.proofs.Hearing.{hears_first, hears_last, hears_next}
use Rattle.vf_cli_calling.proofs.caller.Caller.hear.Goals as goal

pub hear_few-requires : goal.hear_few-requires
hear_few-requires c =
    let few : c.min.result ≤ c.wanted-wanted.result = grind (arith, common_steps) in
    omega (arith, few, c.split_at.ensures.front_len, c.wanted-wanted.ensures.exact)

pub loop-rest-init : goal.loop-rest-init
loop-rest-init c = λ calling is. hears_first c.args.link c.args.self.now calling c.args.octets.now c.args.text.now.items is

pub loop-rest-preserved : goal.loop-rest-preserved
loop-rest-preserved c = λ calling is.
    hears_next c.args.link calling c.args.octets.now c.args.text.now.items c.loop-rest.self c.loop-rest.text.items c.hear_few.new.self c.hear_few.new.text.items c.loop-rest.rest.now c.split_at.result.0.now c.split_at.result.1.now
    c.split_at.ensures.by_index.0 (c.loop-rest.invariant calling is) c.in_ok-hear_few.ensures

pub returns : goal.returns
returns c =
    let none : length c.loop-rest.rest.now ≡ 0 = grind (arith, common_steps) in λ calling is.
    hears_last c.args.link calling c.args.octets.now c.args.text.now.items c.loop-rest.self c.loop-rest.text.items c.loop-rest.rest.now none (c.loop-rest.invariant calling is)
