use Rattle.std.proofs.Common.{◌≡◌, take}
use Rattle.vf_tables.specs.Changes.{after_all}
use Rattle.vf_tables.proofs.tables.Tables.make_all.Given as goal

abbrev pub invariant-loop-change : goal.invariant-loop-change
invariant-loop-change l = l.self ≡ after_all l.initial.self (take l.change-index l.changes)
