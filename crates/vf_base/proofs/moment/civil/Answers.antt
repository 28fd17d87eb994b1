use Rattle.std.proofs.Common.{FitsSigned, w16, arith}
use Rattle.std.proofs.lemmas.Int.{to_z-of_z}
use Rattle.jiff_core.proofs.SignedLemmas.{signed_arith}
use Rattle.vf_base.proofs.CalendarLemmas.{civil_date-is}
use Rattle.vf_base.proofs.moment.civil.Goals as goal

pub returns : goal.returns
returns c =
    let fits : FitsSigned w16 c.date_of-date.result.year = omega (arith, signed_arith, c.date_of-date.result.year_in) in
    let year = simp to_z-of_z at c.unsigned_abs.ensures.value in
    rw year (civil_date-is c.date_of-date.result c.args.days c.date_of-date.ensures)
