-- What octets come to, by their reading.
use Rattle.std.specs.Prelude.{Bool, if◌then◌else◌}
use Rattle.vf_ber.specs.Reading.{Reading, Read, Short, Bad, Deep, Long}

pub data Progress : Type 0 where
  -- more octets are wanting
  Wanting : Progress
  -- the value is whole
  Whole : Progress
  -- no value goes on with them
  Faulty : Progress

abbrev pub progress_of : Reading → Progress
progress_of (Read tree n) = Whole
progress_of Short = Wanting
progress_of (Bad at) = Faulty
progress_of (Deep at) = Faulty
progress_of (Long at) = Faulty

-- where it has ended
abbrev pub ended : Bool → Progress
ended whole = if whole then Whole else Faulty
