use Rattle.std.proofs.Common.{◌≡◌, ◌≤◌, None, length}
use Rattle.vf_disk.specs.Disk.{LeavesOnly}
use Rattle.vf_store.specs.StoreState.{IsRepresented}
use Rattle.vf_responder.proofs.ChainLemmas.{IsOnward}
use Rattle.vf_responder.proofs.CommitLemmas.{IsCommitted}
use Rattle.vf_responder.specs.Along.{RepresentsAlong}
use Rattle.vf_responder.specs.Answers.{octets_heard}
use Rattle.vf_responder.specs.Commits.{commits_heard, telling}
use Rattle.vf_responder.specs.Represents.{Represents, kept_of, link_of, with_link}
use Rattle.vf_responder.specs.Serving.{Serving}
use Rattle.vf_responder.proofs.keeping.Keeping.hear_all.Given as goal

abbrev pub invariant-loop-rest : goal.invariant-loop-rest
invariant-loop-rest g l = record {
  answers : (serving : Serving) → Represents (with_link l.fn.link (kept_of l.fn.self)) serving
      → IsOnward (octets_heard l.moment l.fn.link.number serving l.fn.octets) serving l.fn.replies.items (with_link l.link (kept_of l.self)) l.replies.items (λ s. octets_heard l.moment l.fn.link.number s l.rest);
  represented : (serving : Serving) → Represents (with_link l.fn.link (kept_of l.fn.self)) serving
      → IsRepresented g.D.Disk.shown g.D.Disk.may_leave l.fn.self.store → IsRepresented g.D.Disk.shown g.D.Disk.may_leave l.self.store;
  run : (serving : Serving) → Represents (with_link l.fn.link (kept_of l.fn.self)) serving → IsRepresented g.D.Disk.shown g.D.Disk.may_leave l.fn.self.store
      → LeavesOnly g.D.Disk.moment g.D.Disk.left_since l.fn.self.store.disk l.self.store.disk (RepresentsAlong serving (octets_heard l.moment l.fn.link.number serving l.fn.octets));
  commits : (serving : Serving) → Represents (with_link l.fn.link (kept_of l.fn.self)) serving
      → IsCommitted (telling g.D.Disk.plan g.D.Disk.state g.D.Disk.lack_count) (commits_heard l.moment l.fn.link.number serving l.fn.octets)
      (with_link l.link (kept_of l.self)) l.fn.self.store l.self.store (λ s. commits_heard l.moment l.fn.link.number s l.rest);
  faults : g.D.Disk.fault_count l.self.store.disk ≡ g.D.Disk.fault_count l.fn.self.store.disk;
  limit : l.self.store.journal.limit ≡ l.fn.self.store.journal.limit;
  number : l.link.number ≡ l.fn.link.number;
  fewer : length l.self.links.entries ≤ length l.fn.self.links.entries;
  apart : link_of l.fn.link.number l.fn.self.links.entries ≡ None → link_of l.fn.link.number l.self.links.entries ≡ None;
}

abbrev pub decreases-loop-rest : goal.decreases-loop-rest
decreases-loop-rest g l = length l.rest
