use Rattle.std.specs.Prelude.{nat_eq}
use Rattle.std.proofs.Common.{◌≡◌, ℕ, drop}
use Rattle.indexmap.specs.IndexMap.{get}
use Rattle.vf_cli_script.specs.Scripts.{arrivals_of, kind_in}
use Rattle.vf_cli_script.proofs.Arriving.{kind_from}
use Rattle.vf_cli_script.proofs.arrivals.arrivals_in.Given as goal

abbrev pub invariant-loop-statement : goal.invariant-loop-statement
invariant-loop-statement l = (link : ℕ) → kind_from (get nat_eq l.arrivals) (drop l.statement-index l.statements) link ≡ kind_in (arrivals_of l.statements) link
