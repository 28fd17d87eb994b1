use Rattle.std.proofs.Common.{◌≡◌}
use Rattle.vf_cli_generate.specs.Drawing.{last_after, octets_after}
use Rattle.vf_cli_generate.proofs.contents.draw.Given as goal

abbrev pub invariant-loop : goal.invariant-loop
invariant-loop l = (l.octets.items ≡ octets_after l.initial.numbers.last l.counter) × (l.numbers.last ≡ last_after l.initial.numbers.last l.counter)
