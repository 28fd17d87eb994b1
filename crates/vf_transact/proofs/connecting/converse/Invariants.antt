use Rattle.std.proofs.Common.{◌≡◌, ℕ, List, Option, true, length}
use Rattle.vf_base.specs.Dial.{Call}
use Rattle.vf_initiator.specs.Represents.{Represents}
use Rattle.vf_initiator.specs.Talking.{Talk}
use Rattle.vf_initiator.specs.declared.plan.Plan.{Plan}
use Rattle.vf_tables.specs.declared.task.Task.{Task}
use Rattle.vf_transact.specs.Connecting.{IsBegun}
use Rattle.vf_transact.proofs.Talks.{IsTalking}
use Rattle.vf_transact.proofs.connecting.converse.Given as goal

-- The connection stands, nothing has failed, and what was heard was answered while the task goes on.
abbrev pub invariant-loop : goal.invariant-loop
invariant-loop g l =
    record {
      stands : g.C.Dial.stands l.dial ≡ true;
      lost : g.C.Dial.lost_count l.dial ≡ g.C.Dial.lost_count l.fn.dial;
      faults : g.C.Dial.fault_count l.dial ≡ g.C.Dial.fault_count l.fn.dial;
      disk : g.D.Disk.fault_count l.store.disk ≡ g.D.Disk.fault_count l.fn.store.disk;
      output : g.O.Sink.fault_count l.out ≡ g.O.Sink.fault_count l.fn.out;
      limit : l.store.journal.limit ≡ l.fn.store.journal.limit;
      room : length l.room ≡ length l.fn.room;
      given : (talk : Talk) → Represents l.fn.initiator talk → (now : Talk) × (Represents l.initiator now × (l.initiator.given ≡ l.fn.initiator.given));
      talking : (plan : Plan) (kept : Option Task) (before : List Call) (written : List ℕ)
          → IsBegun g.D.Disk.shown g.D.Disk.may_leave plan kept before written l.fn.kind l.fn.first l.fn.initiator (record { told = g.C.Dial.told l.fn.dial; taken = g.O.Sink.taken l.fn.out; counts = record { faults = g.C.Dial.fault_count l.fn.dial; lost = g.C.Dial.lost_count l.fn.dial } }) l.fn.store
          → IsTalking g.D.Disk.shown g.D.Disk.may_leave g.D.Disk.moment g.D.Disk.left_since plan kept before written l.fn.kind l.fn.store l.counter l.initiator (g.C.Dial.told l.dial) (g.O.Sink.taken l.out) l.store;
    }
