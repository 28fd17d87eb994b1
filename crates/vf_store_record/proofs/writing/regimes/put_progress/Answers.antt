use Rattle.std.proofs.Common.{Some, refl}
use Rattle.vf_store_record.specs.Entries.{progress, progress_from, progress_parts}
use Rattle.vf_store_record.proofs.Again.{both_writes, made_writes}
use Rattle.vf_store_record.proofs.writing.regimes.put_progress.Goals as goal

pub returns : goal.returns
unfolding progress
returns c = made_writes (λ row. Some (progress_from row)) progress_parts (record { position = c.args.regime.now.position; number = c.args.regime.now.number; last = c.args.regime.now.last; window = c.args.regime.now.window }) (λ q. (tt, (tt, (tt, tt)))) (λ q. refl) (both_writes c.in_ok-put_u32.ensures (both_writes c.in_ok-put_u32-2.ensures (both_writes c.in_ok-put_u16.ensures c.in_ok-put_u16-2.ensures)))
