use Rattle.vf_journal.specs.JournalState.{IsWithin}
use Rattle.vf_rows_store.proofs.journal.store.append_all.Given as goal

abbrev pub invariant-loop-done : goal.invariant-loop-done
invariant-loop-done g l = IsWithin l.journal (g.D.Disk.size l.disk)
