use Rattle.std.proofs.Common.{◌≡◌, ◌++◌, drop}
use Rattle.std.specs.List.{AllByRecursion, flat_map}
use Rattle.vf_session_spdu.specs.Spelling.{IsWritten, spelling}
use Rattle.vf_stack.proofs.unit.put_all.Given as goal

abbrev pub invariant-loop-spdu : goal.invariant-loop-spdu
invariant-loop-spdu l = record {
  octets : l.fn.tsdu.items ++ flat_map spelling l.fn.spdus ≡ l.tsdu.items ++ flat_map spelling (drop l.spdu-index l.fn.spdus);
  written : AllByRecursion IsWritten (drop l.spdu-index l.fn.spdus);
}
