use Rattle.std.proofs.Common.{◌≡◌, length}
use Rattle.vf_tables.specs.Validity.{all_differ, exclude}
use Rattle.vf_tables.proofs.validity.none_exclude.Given as goal

-- what is left decides
abbrev pub invariant-loop-docket : goal.invariant-loop-docket
invariant-loop-docket l = all_differ exclude l.rest ≡ all_differ exclude l.dockets

abbrev pub decreases-loop-docket : goal.decreases-loop-docket
decreases-loop-docket l = length l.rest
