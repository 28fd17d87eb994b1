use Rattle.std.proofs.Common.{◌≡◌, ◌<◌, ◌^◌, take}
use Rattle.vf_session_spdu.specs.Numbers.{number as number_of}
use Rattle.vf_session_spdu.proofs.numbers.number.Given as goal

abbrev pub invariant-loop-digit : goal.invariant-loop-digit
invariant-loop-digit l = (l.sum ≡ number_of (take l.digit-index l.digits)) × (l.sum < 10 ^ l.digit-index)
