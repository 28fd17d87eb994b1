-- What a reading of a script stands for.
use Rattle.std.specs.Prelude.{Bool, Option, Some, None, nat_eq, if◌then◌else◌}
use Rattle.indexmap.specs.IndexMap.{get}
use Rattle.vf_cli_script.specs.declared.reading.Reading.{Reading}
use Rattle.vf_cli_script.specs.Scripts.{Progress}

abbrev pub progress_of : Reading → Progress
progress_of reading = record {
  users = reading.users;
  lives = reading.lives;
  life = reading.life;
  limit = reading.limit;
  kind_of = get nat_eq reading.arrivals;
  last = reading.last;
}

abbrev pub if_good : Bool → Progress → Option Progress
if_good good so_far = if good then Some so_far else None
