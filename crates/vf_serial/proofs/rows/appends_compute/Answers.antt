use Rattle.std.proofs.Common.{refl}
use Rattle.vf_serial.proofs.rows.appends_compute.Goals as goal

pub returns : goal.returns
returns c = record { schedule_is = refl; isolated = refl; order_is = refl; in_serial_order = refl; file_has = refl; each_mode_isolates = refl }
