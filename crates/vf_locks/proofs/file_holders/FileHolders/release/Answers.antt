use Rattle.std.proofs.Common.{◌≡◌, ◌∙◌, ap, sym, Err}
use Rattle.vf_locks.proofs.Ordered.{absent_at}
use Rattle.vf_locks.specs.Place.{place_of}
use Rattle.vf_locks.proofs.file_holders.FileHolders.release.Goals as goal

pub returns-in_default : goal.returns-in_default
returns-in_default c =
    let holder = c.args.holder.now in
    let is : place_of holder c.args.self.now ≡ Err c.in_default.field-0
    = ap (place_of holder) (sym c.as_slice.ensures.holders) ∙ sym c.search.ensures.place ∙ c.in_default.is in
    sym (absent_at holder c.args.self.now c.in_default.field-0 c.as_slice.ensures.ordered is).rest
