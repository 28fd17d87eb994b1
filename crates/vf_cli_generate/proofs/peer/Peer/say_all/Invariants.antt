use Rattle.std.proofs.Common.{◌≡◌, take}
use Rattle.vf_responder.specs.Represents.{Represents}
use Rattle.vf_store.specs.StoreState.{IsRepresented}
use Rattle.vf_cli_generate.specs.Generating.{Both, Goes, HasSaid, IsCalling, SaysFront, good}
use Rattle.vf_cli_generate.proofs.peer.Peer.say_all.Given as goal

abbrev pub invariant-loop-request : goal.invariant-loop-request
invariant-loop-request g l = record {
  says : (both : Both) → Represents l.initial.responder both.serving → IsCalling l.initial.self.stack both.calling → IsRepresented g.D.Disk.shown g.D.Disk.may_leave l.initial.responder.store
      → Goes g.D.Disk.shown g.D.Disk.may_leave g.D.Disk.moment g.D.Disk.left_since (HasSaid l.initial.self.link (take l.request-index l.requests) both l.self.stack)
      (SaysFront l.initial.self.link (take l.request-index l.requests) both) both.serving l.initial.responder l.responder good;
  limit : l.responder.store.journal.limit ≡ l.initial.responder.store.journal.limit;
  disk : g.D.Disk.fault_count l.responder.store.disk ≡ g.D.Disk.fault_count l.initial.responder.store.disk;
  link : l.self.link ≡ l.initial.self.link;
}
