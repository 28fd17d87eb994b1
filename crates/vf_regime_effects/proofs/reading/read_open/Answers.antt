use Rattle.std.proofs.Common.{◌≡◌, ◌∙◌, sym, true, arith}
use Rattle.vf_regime_effects.proofs.Givens.{read_by}
use Rattle.vf_regime_effects.proofs.reading.read_open.Goals as goal

pub returns : goal.returns
returns c =
    let agrees : c.includes.result ≡ true = grind arith in
    let permits : c.has_action.result ≡ true = grind arith in
    c.in_ok-reading.ensures
    ∙ sym (read_by c.args.file.now c.args.units c.args.mode c.args.position c.args.fadu c.args.context (sym c.includes.ensures ∙ agrees) (sym c.has_action.ensures ∙ permits))
