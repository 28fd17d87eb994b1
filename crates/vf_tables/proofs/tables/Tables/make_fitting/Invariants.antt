use Rattle.std.proofs.Common.{◌≡◌, drop}
use Rattle.vf_tables.specs.Making.{fitted_by}
use Rattle.vf_tables.proofs.tables.Tables.make_fitting.Given as goal

-- what is left decides
abbrev pub invariant-loop-change : goal.invariant-loop-change
invariant-loop-change l = fitted_by l.self (drop l.change-index l.changes) ≡ fitted_by l.initial.self l.changes
