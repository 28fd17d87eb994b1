use Rattle.std.proofs.Common.{◌≡◌, ◌≤◌, ℕ, List, false, length}
use Rattle.vf_base.specs.Dial.{Connections}
use Rattle.vf_transact.specs.Connecting.{MayConnect}
use Rattle.vf_transact.specs.Starting.{TakenUp}
use Rattle.vf_transact.proofs.Losses.{LostSo}
use Rattle.vf_transact.proofs.Tries.{IsConnecting}
use Rattle.vf_transact.proofs.transacting.connect_all.Given as goal

-- Each connection so far was lost or not had, and nothing else has failed.
abbrev pub invariant-loop : goal.invariant-loop
invariant-loop g l =
    record {
      lost : LostSo l.counter (g.C.Dial.lost_count l.fn.dial) (g.C.Dial.lost_count l.dial);
      disk : g.D.Disk.fault_count l.store.disk ≡ g.D.Disk.fault_count l.fn.store.disk;
      output : g.O.Sink.fault_count l.out ≡ g.O.Sink.fault_count l.fn.out;
      limit : l.store.journal.limit ≡ l.fn.store.journal.limit;
      room : 65535 ≤ length l.room.items;
      closed : g.C.Dial.stands l.fn.dial ≡ false → g.C.Dial.stands l.dial ≡ false;
      plan : l.plan ≡ l.fn.plan;
      connecting : (begun : TakenUp) (before : Connections) (written : List ℕ)
          → MayConnect g.D.Disk.shown g.D.Disk.may_leave begun l.fn.plan l.fn.is_kept l.fn.words.kind before written (record { told = g.C.Dial.told l.fn.dial; taken = g.O.Sink.taken l.fn.out; counts = record { faults = g.C.Dial.fault_count l.fn.dial; lost = g.C.Dial.lost_count l.fn.dial } }) l.fn.store
          → IsConnecting g.D.Disk.shown g.D.Disk.may_leave g.D.Disk.moment g.D.Disk.left_since begun before written (record { faults = g.C.Dial.fault_count l.fn.dial; lost = g.C.Dial.lost_count l.fn.dial }) l.connections l.counter l.goes_on l.fn.store
          (record { told = g.C.Dial.told l.dial; taken = g.O.Sink.taken l.out; counts = record { faults = g.C.Dial.fault_count l.dial; lost = g.C.Dial.lost_count l.dial } }) l.store;
    }
