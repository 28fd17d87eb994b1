use Rattle.std.proofs.Common.{Some, refl}
use Rattle.vf_store_record.specs.Entries.{purpose, purpose_from, purpose_parts}
use Rattle.vf_store_record.proofs.Again.{both_writes, made_writes}
use Rattle.vf_store_record.proofs.writing.plans.put_purpose.Goals as goal

pub returns : goal.returns
unfolding purpose
returns c = made_writes (λ row. Some (purpose_from row)) purpose_parts (record { activity = c.args.plan.now.activity; way = c.args.plan.now.way; kind = c.args.plan.now.kind; every = c.args.plan.now.every }) (λ q. (tt, (tt, (tt, tt)))) (λ q. refl) (both_writes c.in_ok-put_u32.ensures (both_writes c.in_ok-put_way.ensures (both_writes c.in_ok-put_octet.ensures c.in_ok-put_u32-2.ensures)))
