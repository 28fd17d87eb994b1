use Rattle.vf_filestore.proofs.HeldClosed.{closes_hold}
use Rattle.vf_filestore.proofs.HeldGone.{parties_hold}
use Rattle.vf_filestore.proofs.laws.parties_hold.Goals as goal

pub returns : goal.returns
returns c = record { selections = parties_hold; closes = closes_hold }
