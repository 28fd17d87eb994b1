use Rattle.std.proofs.Common.{Some, refl}
use Rattle.vf_store_record.specs.Records.{docketed, docketed_from, docketed_parts}
use Rattle.vf_store_record.proofs.Again.{both_writes, made_writes}
use Rattle.vf_store_record.proofs.writing.changes.put_docketed.Goals as goal

pub returns : goal.returns
unfolding docketed
returns c = made_writes (λ row. Some (docketed_from row)) docketed_parts (record { identity = c.args.identity.now; activity = c.args.activity }) (λ q. (tt, tt)) (λ q. refl) (both_writes c.in_ok-put_name.ensures c.in_ok-put_u32.ensures)
