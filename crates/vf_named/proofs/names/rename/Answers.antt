use Rattle.std.proofs.Common.{ℕ, Some, sym, ap, ◌∙◌}
use Rattle.vf_named.proofs.Lists.{in_place}
use Rattle.vf_named.proofs.names.rename.Goals as goal

pub returns-clause-ok : goal.returns-clause-ok
returns-clause-ok c = λ differ. in_place c.args.by_name.now.keys c.args.name c.args.place (sym c.in-Some.ensures.index ∙ ap (λ (n : ℕ). Some n) c.if-there-place.false)
