use Rattle.std.proofs.Common.{◌≡◌, ◌∙◌, ap, arith, Ok}
use Rattle.vf_locks.proofs.Counted.{bounded_removed, replaced_granted, whole_replaced, within_removed}
use Rattle.vf_locks.specs.Holders.{granted}
use Rattle.vf_locks.specs.Place.{place_of}
use Rattle.vf_locks.proofs.file_holders.FileHolders.replace.Goals as goal

pub index-requires : goal.index-requires
index-requires c =
    let hs = c.self.inside.standing.items in
    let is : place_of c.args.holder.now hs ≡ Ok c.args.place = ap (place_of c.args.holder.now) c.self.view_is ∙ c.requires in
    rw c.self.inside.standing.ok.0 (within_removed c.args.holder.now hs c.args.place _ c.self.invariant is)

pub index_mut-requires : goal.index_mut-requires
index_mut-requires c =
    let hs = c.self.inside.standing.items in
    let is : place_of c.args.holder.now hs ≡ Ok c.args.place = ap (place_of c.args.holder.now) c.self.view_is ∙ c.requires in
    rw c.self.inside.standing.ok.0 (within_removed c.args.holder.now hs c.args.place _ c.self.invariant is)

pub add-requires : goal.add-requires
add-requires c =
    let hs = c.self.inside.standing.items in
    let is : place_of c.args.holder.now hs ≡ Ok c.args.place = ap (place_of c.args.holder.now) c.self.view_is ∙ c.requires in
    let small = c.self.inside.standing.small in
    let ok = c.self.inside.standing.ok in
    rw c.take.ensures (bounded_removed c.args.holder.now hs c.args.place _ c.self.invariant is c.index.result.now c.index.ensures (omega arith))

pub invariant_of-self : goal.invariant_of-self
invariant_of-self c =
    let hs = c.self.inside.standing.items in
    let is : place_of c.args.holder.now hs ≡ Ok c.args.place = ap (place_of c.args.holder.now) c.self.view_is ∙ c.requires in
    rw (c.add.ensures, c.take.ensures) (whole_replaced c.args.holder.now hs c.args.place _ c.self.invariant is c.index.result.now c.index_mut.result.now c.args.wanted.now c.index.ensures c.index_mut.ensures.value)

pub returns : goal.returns
returns c =
    let hs = c.self.inside.standing.items in
    let is : place_of c.args.holder.now hs ≡ Ok c.args.place = ap (place_of c.args.holder.now) c.self.view_is ∙ c.requires in
    replaced_granted c.args.holder.now hs c.args.place _ c.self.invariant is c.index_mut.result.now c.args.wanted.now c.index_mut.ensures.value
    ∙ ap (granted c.args.holder.now c.args.wanted.now) c.self.view_is
