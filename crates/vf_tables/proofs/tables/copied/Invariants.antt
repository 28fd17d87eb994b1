use Rattle.std.proofs.Common.{◌≡◌, take}
use Rattle.vf_tables.proofs.tables.copied.Given as goal

abbrev pub invariant-loop-file : goal.invariant-loop-file
invariant-loop-file l = l.made ≡ take l.file-index l.files
