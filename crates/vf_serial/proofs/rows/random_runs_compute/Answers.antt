use Rattle.std.proofs.Common.{refl}
use Rattle.vf_serial.proofs.rows.random_runs_compute.Goals as goal

pub returns : goal.returns
returns c = record {
  isolated_247 = refl;
  places_247 = refl;
  orders_247 = refl;
  units_247 = refl;
  isolated_348 = refl;
  places_348 = refl;
  orders_348 = refl;
  units_348 = refl;
  isolated_1288 = refl;
  places_1288 = refl;
  orders_1288 = refl;
  units_1288 = refl;
  isolated_1651 = refl;
  places_1651 = refl;
  orders_1651 = refl;
  units_1651 = refl;
  isolated_1779 = refl;
  places_1779 = refl;
  orders_1779 = refl;
  units_1779 = refl;
}
