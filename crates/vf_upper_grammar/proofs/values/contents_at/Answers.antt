use Rattle.std.proofs.Common.{List, ℕ, ◌+◌, subst, sym}
use Rattle.vf_upper_grammar.specs.HeldViews.{Stands}
use Rattle.vf_upper_grammar.proofs.Standing.{stands-later}
use Rattle.vf_upper_grammar.proofs.values.contents_at.Goals as goal

pub shared-requires : goal.shared-requires
shared-requires c =
    subst (λ (o : List ℕ). Stands c.args.all.now (c.args.place + c.args.at) o) (sym c.split_at.ensures.back)
    (stands-later c.args.all.now c.args.place c.args.octets.now c.args.at c.requires.stands c.requires.within)
