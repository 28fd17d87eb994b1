use Rattle.std.proofs.Common.{Some, refl}
use Rattle.vf_store_record.specs.Entries.{course, course_from, course_parts}
use Rattle.vf_store_record.proofs.Again.{both_writes, made_writes}
use Rattle.vf_store_record.proofs.writing.plans.put_course.Goals as goal

pub returns : goal.returns
unfolding course
returns c = made_writes (λ row. Some (course_from row)) course_parts (record { number = c.args.plan.now.number; point = c.args.plan.now.point; phase = c.args.plan.now.phase; outcome = c.args.plan.now.outcome }) (λ q. (tt, (tt, (tt, tt)))) (λ q. refl) (both_writes c.in_ok-put_u32.ensures (both_writes c.in_ok-put_u32-2.ensures (both_writes c.in_ok-put_phase.ensures c.in_ok-put_u16.ensures)))
