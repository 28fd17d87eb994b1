use Rattle.std.proofs.Common.{nat_eq, sym, ◌∙◌}
use Rattle.std.specs.Cmp.Lexicographic.{pointwise}
use Rattle.vf_named.proofs.Lists.{found_nowhere, found_there}
use Rattle.vf_named.proofs.named.Named.with_name.Goals as goal

pub returns-in_default : goal.returns-in_default
returns-in_default g c =
    sym (found_nowhere (λ (entry : g.row.T.Denot). pointwise nat_eq c.args.name.now (g.T.HasName.name_of entry)) c.args.self.now (sym c.place_of.ensures ∙ c.in_default.is))

pub returns : goal.returns
returns g c =
    c.get.ensures ∙ found_there (λ (entry : g.row.T.Denot). pointwise nat_eq c.args.name.now (g.T.HasName.name_of entry)) c.args.self.now c.in-Some.place (sym c.place_of.ensures ∙ c.in-Some.is)
