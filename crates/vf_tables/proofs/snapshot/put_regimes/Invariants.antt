use Rattle.std.proofs.Common.{◌≡◌, ◌++◌, map, take}
use Rattle.vf_tables.specs.declared.docket.Docket.{Docket}
use Rattle.vf_tables.specs.declared.change.Change.TheVariants.{PutDocket}
use Rattle.vf_tables.proofs.snapshot.put_regimes.Given as goal

abbrev pub invariant-loop-docket : goal.invariant-loop-docket
invariant-loop-docket l = l.changes ≡ l.initial.changes ++ map (λ (docket : Docket). PutDocket docket.regime) (take l.docket-index l.dockets)
