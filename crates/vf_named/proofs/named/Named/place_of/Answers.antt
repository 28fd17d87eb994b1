use Rattle.std.proofs.Common.{List, nat_eq, sym, ap, ◌∙◌}
use Rattle.std.specs.Cmp.Lexicographic.{pointwise}
use Rattle.std.specs.List.{position}
use Rattle.vf_named.proofs.Kept.{position_kept}
use Rattle.vf_named.proofs.named.Named.place_of.Goals as goal

pub returns-then-has_all : goal.returns-then-has_all
returns-then-has_all g c =
    c.place_of.ensures
    ∙ position_kept g.T.HasName.name_of c.self.inside.names c.self.inside.items.items c.args.name.now c.self.invariant (sym c.has_all.ensures.kept ∙ c.if-has_all.true)
    ∙ ap (λ (l : List g.row.T.Denot). position (λ (entry : g.row.T.Denot). pointwise nat_eq c.args.name.now (g.T.HasName.name_of entry)) l) c.self.view_is
