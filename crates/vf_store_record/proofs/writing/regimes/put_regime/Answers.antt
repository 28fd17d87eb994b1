use Rattle.std.proofs.Common.{Some, refl}
use Rattle.vf_store_record.specs.Entries.{regime, regime_from, regime_parts}
use Rattle.vf_store_record.proofs.Again.{both_writes, made_writes}
use Rattle.vf_store_record.proofs.Ranges.{regime_in_range}
use Rattle.vf_store_record.proofs.writing.regimes.put_regime.Goals as goal

pub returns : goal.returns
unfolding regime
returns c = made_writes (λ row. Some (regime_from row)) regime_parts c.args.regime.now (λ q. regime_in_range c.args.regime.now q) (λ q. refl) (both_writes c.in_ok-put_ownership.ensures (both_writes c.in_ok-put_permission.ensures (both_writes c.in_ok-put_progress.ensures (both_writes c.in_ok-put_transfer.ensures c.in_ok-put_standing.ensures))))
