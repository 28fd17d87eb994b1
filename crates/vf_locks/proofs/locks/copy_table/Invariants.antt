use Rattle.std.proofs.Common.{◌≡◌, ◌++◌, nat_eq}
use Rattle.std.specs.Cmp.Lexicographic.{pointwise}
use Rattle.std.specs.List.{IsDistinct}
use Rattle.std.specs.Map.{keys_of}
use Rattle.vf_locks.proofs.locks.copy_table.Given as goal

abbrev pub invariant-loop-name : goal.invariant-loop-name
invariant-loop-name l = record {
  entries : l.made.entries ++ l.name-iterator ≡ l.by_file.entries;
  distinct : IsDistinct (pointwise nat_eq) (keys_of l.by_file.entries);
}
