use Rattle.std.proofs.Common.{◌≡◌, length, map, string_bytes}
use Rattle.vf_cli_words.specs.Given.{given_of}
use Rattle.vf_cli_words.specs.Words.{given_after, given_in}
use Rattle.vf_cli_words.proofs.options.options_in.Given as goal

abbrev pub invariant-loop-rest : goal.invariant-loop-rest
invariant-loop-rest l = given_after (given_of l.options) (map string_bytes l.rest) ≡ given_in (map string_bytes l.fn.words)

abbrev pub decreases-loop-rest : goal.decreases-loop-rest
decreases-loop-rest l = length l.rest
