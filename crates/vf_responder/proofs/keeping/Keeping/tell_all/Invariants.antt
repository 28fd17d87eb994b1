use Rattle.std.proofs.Common.{◌≡◌, ◌≤◌, None, length}
use Rattle.vf_disk.specs.Disk.{LeavesOnly}
use Rattle.vf_store.specs.StoreState.{IsRepresented}
use Rattle.vf_responder.proofs.ChainLemmas.{IsOnward}
use Rattle.vf_responder.proofs.CommitLemmas.{IsCommitted}
use Rattle.vf_responder.specs.Along.{RepresentsAlong}
use Rattle.vf_responder.specs.Answers.{told_all}
use Rattle.vf_responder.specs.Commits.{commits_told_all, telling}
use Rattle.vf_responder.specs.Represents.{Represents, kept_of, link_of, with_link}
use Rattle.vf_responder.specs.Serving.{Serving}
use Rattle.std.specs.List.{AllByRecursion}
use Rattle.vf_responder.specs.Steps.{IsReadTold}
use Rattle.vf_responder.proofs.keeping.Keeping.tell_all.Given as goal

abbrev pub invariant-loop-indication : goal.invariant-loop-indication
invariant-loop-indication g l = record {
  read : AllByRecursion IsReadTold l.fn.indications.items → AllByRecursion IsReadTold l.indication-iterator.rest.items;
  answers : AllByRecursion IsReadTold l.fn.indications.items → (serving : Serving) → Represents (with_link l.fn.link (kept_of l.fn.self)) serving
      → IsOnward (told_all l.moment l.fn.link.number serving l.fn.indications.items) serving l.fn.replies.items (with_link l.link (kept_of l.self)) l.replies.items (λ s. told_all l.moment l.fn.link.number s l.indication-iterator.rest.items);
  represented : AllByRecursion IsReadTold l.fn.indications.items → (serving : Serving) → Represents (with_link l.fn.link (kept_of l.fn.self)) serving
      → IsRepresented g.D.Disk.shown g.D.Disk.may_leave l.fn.self.store → IsRepresented g.D.Disk.shown g.D.Disk.may_leave l.self.store;
  run : AllByRecursion IsReadTold l.fn.indications.items → (serving : Serving) → Represents (with_link l.fn.link (kept_of l.fn.self)) serving → IsRepresented g.D.Disk.shown g.D.Disk.may_leave l.fn.self.store
      → LeavesOnly g.D.Disk.moment g.D.Disk.left_since l.fn.self.store.disk l.self.store.disk (RepresentsAlong serving (told_all l.moment l.fn.link.number serving l.fn.indications.items));
  commits : AllByRecursion IsReadTold l.fn.indications.items → (serving : Serving) → Represents (with_link l.fn.link (kept_of l.fn.self)) serving
      → IsCommitted (telling g.D.Disk.plan g.D.Disk.state g.D.Disk.lack_count) (commits_told_all l.moment l.fn.link.number serving l.fn.indications.items)
      (with_link l.link (kept_of l.self)) l.fn.self.store l.self.store (λ s. commits_told_all l.moment l.fn.link.number s l.indication-iterator.rest.items);
  faults : g.D.Disk.fault_count l.self.store.disk ≡ g.D.Disk.fault_count l.fn.self.store.disk;
  limit : l.self.store.journal.limit ≡ l.fn.self.store.journal.limit;
  number : l.link.number ≡ l.fn.link.number;
  fewer : length l.self.links.entries ≤ length l.fn.self.links.entries;
  apart : link_of l.fn.link.number l.fn.self.links.entries ≡ None → link_of l.fn.link.number l.self.links.entries ≡ None;
}
