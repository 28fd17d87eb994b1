use Rattle.std.proofs.Common.{◌≡◌, ◌≤◌, ◌++◌, length, drop}
use Rattle.vf_disk.specs.Parts.{joined, short_before}
use Rattle.vf_disk.proofs.parts.Parts.to_vec.Given as goal

-- the parts so far are copied, and the short octets before the strings to come are there
abbrev pub invariant-loop-part : goal.invariant-loop-part
invariant-loop-part l = record {
  within : short_before (drop l.part-index l.strings) ≤ length l.rest;
  so_far : l.octets.items ++ joined l.rest (drop l.part-index l.strings) ≡ joined l.initial.rest l.strings;
}
