use Rattle.std.proofs.Common.{refl}
use Rattle.vf_store_record.specs.Records.{change, task_cutting}
use Rattle.vf_store_record.proofs.Again.{tagged, both_writes}
use Rattle.vf_tables.specs.declared.change.Change.TheVariants.{CutTask}
use Rattle.std.proofs.Common.{ℕ}
use Rattle.vf_store_record.proofs.writing.changes.task_cut.Goals as goal

pub returns : goal.returns
unfolding change task_cutting
returns c = tagged change 11 (λ (found : ℕ × ℕ). CutTask found.0 found.1) (λ q. (tt, tt)) refl (λ q octets. refl) c.in_ok-put_octet.ensures (both_writes c.in_ok-put_u32.ensures c.in_ok-put_u32-2.ensures)
