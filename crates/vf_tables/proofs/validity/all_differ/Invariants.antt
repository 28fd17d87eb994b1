use Rattle.std.proofs.Common.{◌≡◌, length}
use Rattle.vf_tables.specs.Validity.{all_differ}
use Rattle.vf_tables.proofs.validity.all_differ.Given as goal

-- what is left decides
abbrev pub invariant-loop-entry : goal.invariant-loop-entry
invariant-loop-entry g l = all_differ g.T.Keyed.same_key l.rest ≡ all_differ g.T.Keyed.same_key l.entries

abbrev pub decreases-loop-entry : goal.decreases-loop-entry
decreases-loop-entry g l = length l.rest
