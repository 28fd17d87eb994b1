use Rattle.std.proofs.Common.{◌≡◌, ◌∙◌, ap, sym, subst, arith, Err}
use Rattle.vf_locks.proofs.Counted.{IsWhole, bounded, inserted_granted, whole_inserted, within_inserted}
use Rattle.vf_locks.specs.Holders.{granted}
use Rattle.vf_locks.specs.Place.{place_of}
use Rattle.vf_locks.specs.declared.held.Held.{Held}
use Rattle.vf_locks.proofs.file_holders.FileHolders.insert.Goals as goal

pub insert-requires : goal.insert-requires
insert-requires c =
    let hs = c.self.inside.standing.items in
    let is : place_of c.args.holder.now hs ≡ Err c.args.place = ap (place_of c.args.holder.now) c.self.view_is ∙ c.requires in
    rw c.self.inside.standing.ok.0 (within_inserted c.args.holder.now hs c.args.place _ c.self.invariant is)

pub invariant_of-self : goal.invariant_of-self
invariant_of-self c = subst (IsWhole c.self.inside.counts.numbers) (sym c.in_err-insert.ensures.items) c.self.invariant

pub add-requires : goal.add-requires
add-requires c =
    let small = c.self.inside.standing.small in
    let ok = c.self.inside.standing.ok in
    bounded c.args.holder.now c.self.inside.standing.items c.args.place _ c.self.invariant (omega arith)

pub invariant_of-self-2 : goal.invariant_of-self-2
invariant_of-self-2 c =
    let hs = c.self.inside.standing.items in
    let is : place_of c.args.holder.now hs ≡ Err c.args.place = ap (place_of c.args.holder.now) c.self.view_is ∙ c.requires in
    let new : Held = record { holder = c.in_ok-holder.holder; controls = c.args.wanted.now } in
    rw (c.in_ok-insert.ensures.items, c.add.ensures) (whole_inserted c.args.holder.now hs c.args.place _ c.self.invariant is new c.in_ok-holder.ensures)

pub returns-clause-ok : goal.returns-clause-ok
returns-clause-ok c =
    let hs = c.self.inside.standing.items in
    let is : place_of c.args.holder.now hs ≡ Err c.args.place = ap (place_of c.args.holder.now) c.self.view_is ∙ c.requires in
    let new : Held = record { holder = c.in_ok-holder.holder; controls = c.args.wanted.now } in
    c.in_ok-insert.ensures.items
    ∙ inserted_granted c.args.holder.now hs c.args.place _ c.self.invariant is new c.in_ok-holder.ensures
    ∙ ap (granted c.args.holder.now c.args.wanted.now) c.self.view_is
