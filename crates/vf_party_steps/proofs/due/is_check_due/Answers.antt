use Rattle.std.proofs.Common.{◌≡◌, ◌<◌, true, is_some, length, sym, arith}
use Rattle.std.proofs.lemmas.Grind.{common_steps}
use Rattle.vf_party_steps.proofs.Dues.{due_behind}
use Rattle.vf_party_steps.proofs.due.is_check_due.Goals as goal

pub returns : goal.returns
returns c =
    let some : is_some c.args.window ≡ true = grind (arith, common_steps) in
    let more : c.args.count < length c.args.elements.now = omega arith in
    sym (due_behind c.args.window c.args.count c.args.elements.now some more)
