use Rattle.std.proofs.Common.{◌≡◌, ◌+◌, ◌-◌, ◌<◌, ◌≤◌, [], false, length, if◌then◌else◌}
use Rattle.vf_journal.specs.Looking.{IsLookedAt}
use Rattle.vf_journal.specs.Reading.{StandsFrom, Takes}
use Rattle.vf_journal.specs.JournalState.{IsPlaced, area_of}
use Rattle.vf_journal.proofs.reading.read_area.Given as goal

abbrev pub invariant-loop-more : goal.invariant-loop-more
invariant-loop-more g l = record {
  taken : Takes (StandsFrom (g.D.Disk.shown l.fn.disk) l.start) l.fn.records.items l.records.items (l.length - l.start) (area_of l.start []) l.area l.more;
  placed : IsPlaced l.area;
  end : l.area.end ≤ l.length;
  looked : IsLookedAt g.D.Disk.shown g.D.Disk.size g.D.Disk.may_leave g.D.Disk.moment g.D.Disk.left_since g.D.Disk.plan g.D.Disk.state g.D.Disk.lack_count false l.fn.disk l.disk;
  faults : g.D.Disk.fault_count l.disk ≡ g.D.Disk.fault_count l.fn.disk;
  block : 0 < length l.block.items;
}

abbrev pub decreases-loop-more : goal.decreases-loop-more
decreases-loop-more g l = l.length - l.area.end + (if l.more then 1 else 0)
