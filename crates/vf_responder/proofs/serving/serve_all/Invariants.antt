use Rattle.std.proofs.Common.{◌≡◌, [], List, Some}
use Rattle.vf_base.specs.declared.events.ScriptEvent.{ScriptEvent}
use Rattle.vf_responder.proofs.Serves.{IsServed}
use Rattle.vf_responder.specs.Represents.{Represents}
use Rattle.vf_responder.specs.Served.{untold}
use Rattle.vf_responder.specs.Serving.{Serving}
use Rattle.vf_responder.proofs.serving.serve_all.Given as goal

abbrev pub invariant-events : goal.invariant-events
invariant-events g l = record {
  served : (left : List ScriptEvent) (serving : Serving) → g.L.Links.told l.initial.links ≡ Some (untold left) → Represents l.initial.responder serving → serving.filestore.parties ≡ []
      → IsServed g.D.Disk.shown g.D.Disk.may_leave g.D.Disk.moment g.D.Disk.left_since serving l.initial.responder l.responder (g.L.Links.told l.links) (g.L.Links.last_link l.links) l.served;
  limit : l.responder.store.journal.limit ≡ l.initial.responder.store.journal.limit;
  disk : g.D.Disk.fault_count l.responder.store.disk ≡ g.D.Disk.fault_count l.initial.responder.store.disk;
  links : g.L.Links.fault_count l.links ≡ g.L.Links.fault_count l.initial.links;
}

abbrev pub decreases-events : goal.decreases-events
decreases-events g l = g.L.Links.turns l.links
