use Rattle.std.proofs.Common.{◌≡◌, take}
use Rattle.vf_disk.specs.Disk.{LeavesOnly}
use Rattle.vf_responder.specs.Along.{RepresentsAlong}
use Rattle.vf_responder.specs.Answers.{at_end}
use Rattle.vf_responder.specs.Represents.{Represents}
use Rattle.vf_responder.specs.Run.{run}
use Rattle.vf_responder.specs.Sends.{breaks}
use Rattle.vf_responder.specs.Serving.{Serving}
use Rattle.vf_store.specs.StoreState.{IsRepresented}
use Rattle.vf_responder.proofs.serving.end_all.Given as goal

abbrev pub invariant-loop-link : goal.invariant-loop-link
invariant-loop-link g l = record {
  answers : (serving : Serving) → Represents l.initial.responder serving → Represents l.responder (at_end serving (run (breaks (take l.link-index l.lost)) serving));
  kept : (serving : Serving) → Represents l.initial.responder serving → IsRepresented g.D.Disk.shown g.D.Disk.may_leave l.initial.responder.store
      → IsRepresented g.D.Disk.shown g.D.Disk.may_leave l.responder.store
      × LeavesOnly g.D.Disk.moment g.D.Disk.left_since l.initial.responder.store.disk l.responder.store.disk (RepresentsAlong serving (run (breaks (take l.link-index l.lost)) serving));
  count : g.D.Disk.fault_count l.responder.store.disk ≡ g.D.Disk.fault_count l.initial.responder.store.disk;
  limit : l.responder.store.journal.limit ≡ l.initial.responder.store.journal.limit;
}
