use Rattle.std.proofs.Common.{Some, refl}
use Rattle.vf_store_record.specs.Entries.{plan, plan_from, plan_parts}
use Rattle.vf_store_record.proofs.Again.{both_writes, made_writes}
use Rattle.vf_store_record.proofs.writing.plans.put_plan.Goals as goal

pub returns : goal.returns
unfolding plan
returns c = made_writes (λ row. Some (plan_from row)) plan_parts c.args.plan.now (λ q. (tt, (tt, (tt, tt)))) (λ q. refl) (both_writes c.in_ok-put_purpose.ensures (both_writes c.in_ok-put_name.ensures (both_writes c.in_ok-put_name-2.ensures c.in_ok-put_course.ensures)))
