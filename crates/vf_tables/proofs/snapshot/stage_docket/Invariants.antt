use Rattle.std.proofs.Common.{◌≡◌, ◌++◌, drop}
use Rattle.vf_tables.specs.Snapshot.{stages_after, stages_of}
use Rattle.vf_tables.proofs.snapshot.stage_docket.Given as goal

-- what stands, and the pieces that are left
abbrev pub invariant-loop-place : goal.invariant-loop-place
invariant-loop-place l =
    l.changes ++ stages_after l.docket.regime.identity l.docket.regime.activity l.place (drop l.place l.docket.staged) ≡ l.initial.changes ++ stages_of l.docket
