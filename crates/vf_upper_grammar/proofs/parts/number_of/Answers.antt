use Rattle.std.proofs.Common.{arith}
use Rattle.vf_upper_grammar.proofs.Numbers.{fits_next}
use Rattle.vf_upper_grammar.proofs.parts.number_of.Goals as goal

pub overflow_mul-number : goal.overflow_mul-number
overflow_mul-number c = omega (arith, fits_next c.loop-digit.number 0 c.loop-digit.digit-index c.loop-digit.invariant.1 (omega arith) (omega arith))
