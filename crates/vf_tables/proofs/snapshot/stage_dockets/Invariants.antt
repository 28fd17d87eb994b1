use Rattle.std.proofs.Common.{◌≡◌, ◌++◌, take}
use Rattle.std.specs.List.{flat_map}
use Rattle.vf_tables.specs.Snapshot.{stages_of}
use Rattle.vf_tables.proofs.snapshot.stage_dockets.Given as goal

abbrev pub invariant-loop-docket : goal.invariant-loop-docket
invariant-loop-docket l = l.changes ≡ l.initial.changes ++ flat_map stages_of (take l.docket-index l.dockets)
