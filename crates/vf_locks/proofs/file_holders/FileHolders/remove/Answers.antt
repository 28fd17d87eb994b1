use Rattle.std.proofs.Common.{◌≡◌, ◌∙◌, ap, Ok}
use Rattle.vf_locks.proofs.Counted.{removed_others, whole_removed, within_removed}
use Rattle.vf_locks.specs.Holders.{others}
use Rattle.vf_locks.specs.Place.{place_of}
use Rattle.vf_locks.proofs.file_holders.FileHolders.remove.Goals as goal

pub remove-held-requires : goal.remove-held-requires
remove-held-requires c =
    let hs = c.self.inside.standing.items in
    let is : place_of c.args.holder.now hs ≡ Ok c.args.place = ap (place_of c.args.holder.now) c.self.view_is ∙ c.requires in
    rw c.self.inside.standing.ok.0 (within_removed c.args.holder.now hs c.args.place _ c.self.invariant is)

pub invariant_of-self : goal.invariant_of-self
invariant_of-self c =
    let hs = c.self.inside.standing.items in
    let is : place_of c.args.holder.now hs ≡ Ok c.args.place = ap (place_of c.args.holder.now) c.self.view_is ∙ c.requires in
    rw (c.remove-held.ensures.items, c.take.ensures) (whole_removed c.args.holder.now hs c.args.place _ c.self.invariant is c.remove-held.result c.remove-held.ensures.value)

pub returns : goal.returns
returns c =
    let hs = c.self.inside.standing.items in
    let is : place_of c.args.holder.now hs ≡ Ok c.args.place = ap (place_of c.args.holder.now) c.self.view_is ∙ c.requires in
    c.remove-held.ensures.items ∙ removed_others c.args.holder.now hs c.args.place _ c.self.invariant is ∙ ap (others c.args.holder.now) c.self.view_is
