use Rattle.vf_ber.proofs.Integers.{integer-read}
use Rattle.vf_ber.proofs.contents_laws.integers_are_read.Goals as goal

pub returns : goal.returns
returns c = λ tag n fits. integer-read n fits
