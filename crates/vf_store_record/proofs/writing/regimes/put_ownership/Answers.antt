use Rattle.std.proofs.Common.{Some, refl}
use Rattle.vf_store_record.specs.Entries.{ownership, ownership_from, ownership_parts}
use Rattle.vf_store_record.proofs.Again.{both_writes, made_writes}
use Rattle.vf_store_record.proofs.writing.regimes.put_ownership.Goals as goal

pub returns : goal.returns
unfolding ownership
returns c = made_writes (λ row. Some (ownership_from row)) ownership_parts (record { identity = c.args.regime.now.identity; activity = c.args.regime.now.activity; file = c.args.regime.now.file }) (λ q. (tt, (tt, tt))) (λ q. refl) (both_writes c.in_ok-put_name.ensures (both_writes c.in_ok-put_u32.ensures c.in_ok-put_name-2.ensures))
