use Rattle.std.proofs.Common.{◌≤◌, length, drop}
use Rattle.vf_disk.specs.Parts.{short_before}
use Rattle.vf_disk.proofs.file_rows.write_rows.Given as goal

-- the short octets before the strings to come are there
abbrev pub invariant-loop-part : goal.invariant-loop-part
invariant-loop-part l = short_before (drop l.part-index l.strings) ≤ length l.rest
