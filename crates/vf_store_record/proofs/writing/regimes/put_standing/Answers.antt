use Rattle.std.proofs.Common.{Some, refl}
use Rattle.vf_store_record.specs.Entries.{standing, standing_from, standing_parts}
use Rattle.vf_store_record.proofs.Again.{both_writes, made_writes}
use Rattle.vf_store_record.proofs.writing.regimes.put_standing.Goals as goal

pub returns : goal.returns
unfolding standing
returns c = made_writes (λ row. Some (standing_from row)) standing_parts (record { refused = c.args.regime.now.refused; point = c.args.regime.now.point; ended = c.args.regime.now.ended; version = c.args.regime.now.version }) (λ q. (tt, (tt, (tt, tt)))) (λ q. refl) (both_writes c.in_ok-put_u16.ensures (both_writes c.in_ok-put_u32.ensures (both_writes c.in_ok-put_truth.ensures c.in_ok-put_u32-2.ensures)))
