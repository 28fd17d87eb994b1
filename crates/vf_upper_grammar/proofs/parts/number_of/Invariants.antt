use Rattle.std.proofs.Common.{◌≡◌, ◌<◌, ◌^◌, take}
use Rattle.vf_ber.specs.Spellings.{number_in}
use Rattle.vf_upper_grammar.proofs.parts.number_of.Given as goal

abbrev pub invariant-loop-digit : goal.invariant-loop-digit
invariant-loop-digit l = (l.number ≡ number_in 0 (take l.digit-index l.digits)) × (l.number < 256 ^ l.digit-index)
