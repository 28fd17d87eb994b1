use Rattle.std.proofs.Common.{◌≡◌, ◌∙◌, ap, sym, Err, is_some, true≢false}
use Rattle.vf_locks.proofs.Ordered.{absent_at}
use Rattle.vf_locks.specs.Place.{place_of}
use Rattle.vf_locks.proofs.file_holders.FileHolders.put.Goals as goal

pub returns-in_err-insert-in-Err-clause-stands : goal.returns-in_err-insert-in-Err-clause-stands
returns-in_err-insert-in-Err-clause-stands c = λ stands.
    let holder = c.args.holder.now in
    let is : place_of holder c.args.self.now ≡ Err c.in-Err.place
    = ap (place_of holder) (sym c.as_slice.ensures.holders) ∙ sym c.search.ensures.place ∙ c.in-Err.is in
    absurd (true≢false (sym stands ∙ ap is_some (absent_at holder c.args.self.now c.in-Err.place c.as_slice.ensures.ordered is).controls))
