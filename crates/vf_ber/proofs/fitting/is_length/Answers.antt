use Rattle.std.proofs.Common.{◌-◌, arith}
use Rattle.vf_ber.proofs.Digits.{grown_zero}
use Rattle.vf_ber.proofs.fitting.is_length.Goals as goal

pub is_reached-requires-clause-small : goal.is_reached-requires-clause-small
is_reached-requires-clause-small c = omega (arith, grown_zero (c.args.octet - 128))
