use Rattle.std.proofs.Common.{◌≡◌, min, take}
use Rattle.vf_tables.specs.Sums.{octets_of_files}
use Rattle.vf_tables.proofs.files.octets_of_all.Given as goal

abbrev pub invariant-loop-file : goal.invariant-loop-file
invariant-loop-file l = l.octets ≡ min (octets_of_files (take l.file-index l.files)) 18446744073709551615
