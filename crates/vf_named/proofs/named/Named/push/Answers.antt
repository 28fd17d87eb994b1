use Rattle.std.proofs.Common.{map}
use Rattle.vf_named.proofs.Kept.{kept_same}
use Rattle.vf_named.proofs.named.Named.push.Goals as goal

pub invariant_of-self-in_err-push : goal.invariant_of-self-in_err-push
invariant_of-self-in_err-push g c =
    kept_same g.T.HasName.name_of c.push.new.self c.self.inside.items.items c.reserve.new.self.items c.reserve.ensures.items
    (c.in_err-push.ensures.err (map g.T.HasName.name_of c.self.inside.items.items) c.self.invariant)
