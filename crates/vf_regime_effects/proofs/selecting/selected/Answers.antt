use Rattle.std.proofs.Common.{◌∙◌}
use Rattle.vf_regime_effects.proofs.Names.{found_same, named_itself}
use Rattle.vf_regime_effects.proofs.selecting.selected.Goals as goal

pub returns-clause-found : goal.returns-clause-found
returns-clause-found c = c.with_name.ensures ∙ found_same c.args.name.now c.args.files.now

pub returns-clause-itself : goal.returns-clause-itself
returns-clause-itself c =
    named_itself c.with_name.result c.args.name.now c.args.files.now (c.with_name.ensures ∙ found_same c.args.name.now c.args.files.now)
