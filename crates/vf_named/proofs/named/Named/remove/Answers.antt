use Rattle.std.proofs.Common.{map}
use Rattle.vf_named.proofs.Kept.{kept_removed}
use Rattle.vf_named.proofs.named.Named.remove.Goals as goal

pub invariant_of-self : goal.invariant_of-self
invariant_of-self g c =
    kept_removed g.T.HasName.name_of c.remove.new.self c.self.inside.items.items c.remove-2.new.self.items c.args.place c.remove-2.ensures.items
    (c.remove.ensures (map g.T.HasName.name_of c.self.inside.items.items) c.self.invariant)
