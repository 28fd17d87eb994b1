use Rattle.vf_filestore.proofs.HeldGone.{arrivals_hold, breaks_hold, drops_hold}
use Rattle.vf_filestore.proofs.laws.ends_hold.Goals as goal

pub returns : goal.returns
returns c = record { breaks = breaks_hold; drops = drops_hold; arrivals = arrivals_hold }
