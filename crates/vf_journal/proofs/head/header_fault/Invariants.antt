use Rattle.std.proofs.Common.{◌≡◌, drop}
use Rattle.vf_journal.specs.Image.{difference}
use Rattle.vf_journal.specs.Layout.{header}
use Rattle.vf_journal.proofs.head.header_fault.Given as goal

abbrev pub invariant-loop-place : goal.invariant-loop-place
invariant-loop-place l = difference 0 header l.octets ≡ difference l.place (drop l.place header) (drop l.place l.octets)
