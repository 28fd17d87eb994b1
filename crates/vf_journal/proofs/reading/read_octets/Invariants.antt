use Rattle.std.proofs.Common.{◌≡◌, ◌-◌, ◌<◌, ◌≤◌, ℕ, List, Some, false, length}
use Rattle.vf_journal.specs.Layout.{part}
use Rattle.vf_journal.specs.Looking.{IsLookedAt}
use Rattle.vf_journal.proofs.reading.read_octets.Given as goal

abbrev pub invariant-loop-disk : goal.invariant-loop-disk
invariant-loop-disk g l = record {
  octets : (image : List ℕ) → g.D.Disk.shown l.fn.disk ≡ Some image → l.octets.items ≡ part image l.at (length l.octets.items);
  bound : length l.octets.items ≤ l.count;
  looked : IsLookedAt g.D.Disk.shown g.D.Disk.size g.D.Disk.may_leave g.D.Disk.moment g.D.Disk.left_since g.D.Disk.plan g.D.Disk.state g.D.Disk.lack_count false l.fn.disk l.disk;
  faults : g.D.Disk.fault_count l.disk ≡ g.D.Disk.fault_count l.fn.disk;
  block : 0 < length l.block;
}

abbrev pub decreases-loop-disk : goal.decreases-loop-disk
decreases-loop-disk g l = l.count - length l.octets.items
