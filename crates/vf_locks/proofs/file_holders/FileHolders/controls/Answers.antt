use Rattle.std.proofs.Common.{◌≡◌, ◌∙◌, Some, Ok, Err, ap, sym}
use Rattle.vf_locks.proofs.Ordered.{absent_at, stands_at}
use Rattle.vf_locks.specs.Holders.{controls_of}
use Rattle.vf_locks.specs.Place.{place_of}
use Rattle.vf_locks.specs.declared.held.Held.{Held}
use Rattle.vf_locks.proofs.file_holders.FileHolders.controls.Goals as goal

pub returns-in-Ok : goal.returns-in-Ok
returns-in-Ok c =
    let holder = c.args.holder.now in
    let hs = c.self.inside.standing.items in
    let is : place_of holder hs ≡ Ok c.in-Ok.place
    = ap (place_of holder) (sym c.as_slice.ensures.value) ∙ sym c.search.ensures.place ∙ c.in-Ok.is in
    let found = stands_at holder hs c.in-Ok.place c.self.invariant.0 is in
    ap (λ (held : Held). Some held.controls) (c.index.ensures ∙ found.1.found c.index.result.now)
    ∙ sym found.1.controls ∙ ap (controls_of holder) c.self.view_is

pub returns-in-Err : goal.returns-in-Err
returns-in-Err c =
    let holder = c.args.holder.now in
    let hs = c.self.inside.standing.items in
    let is : place_of holder hs ≡ Err c.in-Err.field-0
    = ap (place_of holder) (sym c.as_slice.ensures.value) ∙ sym c.search.ensures.place ∙ c.in-Err.is in
    sym (absent_at holder hs c.in-Err.field-0 c.self.invariant.0 is).controls ∙ ap (controls_of holder) c.self.view_is
