use Rattle.std.proofs.Common.{◌≡◌, ◌*◌, ◌++◌, drop, map}
use Rattle.vf_cli_generate.specs.Drawing.{strings}
use Rattle.vf_cli_generate.specs.Requests.{value}
use Rattle.vf_cli_generate.proofs.contents.push_values.Given as goal

abbrev pub invariant-loop : goal.invariant-loop
invariant-loop l = (l.requests.items ≡ l.initial.requests.items ++ map value (strings l.counter l.octets)) × (l.rest ≡ drop (512 * l.counter) l.octets)
