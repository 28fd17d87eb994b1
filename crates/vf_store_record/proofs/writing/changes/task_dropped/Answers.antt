use Rattle.std.proofs.Common.{refl}
use Rattle.vf_store_record.specs.Records.{change}
use Rattle.vf_store_record.proofs.Again.{tagged}
use Rattle.vf_tables.specs.declared.change.Change.TheVariants.{DropTask}
use Rattle.vf_store_record.proofs.writing.changes.task_dropped.Goals as goal

pub returns : goal.returns
unfolding change
returns c = tagged change 12 DropTask (λ q. tt) refl (λ q octets. refl) c.in_ok-put_octet.ensures (c.in_ok-put_u32.ensures)
