use Rattle.std.proofs.Common.{◌∙◌, sym}
use Rattle.vf_cli_calling.specs.Calling.{hearing}
use Rattle.vf_cli_replay.specs.Hearing.{AreEnds}
use Rattle.vf_cli_replay.specs.Running.{with_end}
use Rattle.vf_cli_replay.proofs.CallerEnds.{heard_some, map_ok, one_end, others_stay}
use Rattle.vf_cli_replay.proofs.hearing.hear_by.Goals as goal

pub returns : goal.returns
returns c = λ ends are.
    let link = c.args.link in
    let octets = c.args.octets.now in
    let old = c.args.callers.now.entries in
    let new = c.put.new.callers.entries in
    let one = one_end link c.in-Some.caller old ends are (sym c.swap_remove.ensures.value ∙ c.in-Some.is) in
    let hears = c.in_ok-hear.ensures one.one one.represents in
    let others = others_stay link old c.swap_remove.new.self.entries ends are c.swap_remove.ensures.updates.2 in
    let heard = hearing link one.one octets in
    map_ok c.put.result (AreEnds new (with_end link heard.caller ends)) _
    (λ there. heard_some link octets one.one ends c.args.text.now.items c.hear.new.text.items c.hear.new.self new one.is hears there)
    (c.put.ensures ends heard.caller others hears.represents)
