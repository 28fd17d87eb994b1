use Rattle.std.proofs.Common.{◌≡◌}
use Rattle.vf_responder.specs.Represents.{Represents}
use Rattle.vf_responder.specs.Serving.{Serving}
use Rattle.vf_store.specs.StoreState.{IsRepresented}
use Rattle.vf_cli_generate.specs.Drawing.{after_files}
use Rattle.vf_cli_generate.specs.Generating.{FrontOfFiles, Goes, MakesFiles, good}
use Rattle.vf_cli_generate.proofs.generating.make_files.Given as goal

abbrev pub invariant-loop-made : goal.invariant-loop-made
invariant-loop-made g l = record {
  makes : (serving : Serving) → Represents l.initial.responder serving → IsRepresented g.D.Disk.shown g.D.Disk.may_leave l.initial.responder.store
      → Goes g.D.Disk.shown g.D.Disk.may_leave g.D.Disk.moment g.D.Disk.left_since (MakesFiles l.fn.number l.made serving) (FrontOfFiles l.fn.number l.made serving) serving l.initial.responder l.responder good;
  numbers : l.numbers.last ≡ after_files l.fn.number l.made;
  limit : l.responder.store.journal.limit ≡ l.initial.responder.store.journal.limit;
  disk : g.D.Disk.fault_count l.responder.store.disk ≡ g.D.Disk.fault_count l.initial.responder.store.disk;
}
