use Rattle.std.proofs.Common.{map, refl}
use Rattle.std.specs.Prelude.{slice_set}
use Rattle.vf_named.proofs.Kept.{kept_replaced}
use Rattle.vf_named.proofs.named.Named.replace.Goals as goal

pub invariant_of-self : goal.invariant_of-self
invariant_of-self g c = c.in_err-replace.ensures.err (map g.T.HasName.name_of c.self.inside.items.items) c.self.invariant

pub invariant_of-self-2 : goal.invariant_of-self-2
invariant_of-self-2 g c =
    kept_replaced g.T.HasName.name_of c.replace.new.self c.self.inside.items.items (slice_set c.self.inside.items.items c.args.place c.args.entry) c.args.place c.args.entry c.name.result.now refl c.name.ensures
    (c.in_ok-replace.ensures.ok (map g.T.HasName.name_of c.self.inside.items.items) c.self.invariant)
