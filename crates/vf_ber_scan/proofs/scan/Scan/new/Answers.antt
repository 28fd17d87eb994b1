use Rattle.vf_ber_scan.specs.Tells.{tells}
use Rattle.vf_ber_scan.proofs.ReadingLemmas.{new_ahead, new_short}
use Rattle.vf_ber_scan.proofs.scan.Scan.new.Goals as goal

pub returns : goal.returns
unfolding tells
returns c = record { short = new_short c.new.result c.new.ensures; ahead = new_ahead c.new.result c.new.ensures }
