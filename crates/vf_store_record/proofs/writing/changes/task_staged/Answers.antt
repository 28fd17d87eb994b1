use Rattle.std.proofs.Common.{refl}
use Rattle.vf_store_record.specs.Records.{change, task_staging}
use Rattle.vf_store_record.proofs.Again.{tagged, both_writes, moved}
use Rattle.vf_tables.specs.declared.change.Change.TheVariants.{StageTask}
use Rattle.std.proofs.Common.{ℕ, List}
use Rattle.vf_base.specs.declared.element.Element.{Element}
use Rattle.vf_store_record.specs.Writing.{AreElements}
use Rattle.vf_store_record.proofs.Changed.{task_stage_taken}
use Rattle.vf_store_record.proofs.writing.changes.task_staged.Goals as goal

pub returns : goal.returns
unfolding change task_staging
returns c = tagged change 10 (λ (found : ℕ × (ℕ × List Element)). StageTask found.0 found.1.0 found.1.1) (λ q. (tt, (tt, task_stage_taken c.args.activity c.args.point c.args.elements.now q))) refl (λ q octets. refl) c.in_ok-put_octet.ensures (both_writes c.in_ok-put_u32.ensures (both_writes c.in_ok-put_u32-2.ensures (moved AreElements c.as_slice.ensures c.in_ok-put_elements.ensures)))
