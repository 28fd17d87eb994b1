use Rattle.vf_ber.proofs.Integers.{integer-spelled}
use Rattle.vf_ber.proofs.contents_laws.integers_are_spelled.Goals as goal

pub returns : goal.returns
returns c = λ tag octets n are e. integer-spelled octets n are e
