use Rattle.vf_ber_scan.specs.Tells.{tells}
use Rattle.vf_ber_scan.proofs.ReadingLemmas.{new_ahead, new_short}
use Rattle.vf_ber_scan.proofs.scan.Scan.clear.Goals as goal

pub returns : goal.returns
unfolding tells
returns c = record { short = new_short c.clear.new.self c.clear.ensures; ahead = new_ahead c.clear.new.self c.clear.ensures }
