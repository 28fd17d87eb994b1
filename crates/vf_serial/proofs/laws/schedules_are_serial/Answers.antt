use Rattle.vf_serial.proofs.Grouped.{leaves, shows}
use Rattle.vf_serial.proofs.laws.schedules_are_serial.Goals as goal

pub returns : goal.returns
returns g c = let p = g.P.Performing in record {
  leaves = leaves p.step p.apart p.commute;
  shows = shows p.step p.shows p.apart p.commute p.show_alike;
}
