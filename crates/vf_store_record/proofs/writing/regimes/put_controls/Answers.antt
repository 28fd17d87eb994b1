use Rattle.std.proofs.Common.{Some, refl}
use Rattle.vf_store_record.specs.Fields.{controls, controls_from, controls_parts}
use Rattle.vf_store_record.proofs.Again.{made_writes}
use Rattle.vf_store_record.proofs.writing.regimes.put_controls.Goals as goal

pub returns : goal.returns
unfolding controls
returns c = made_writes (λ row. Some (controls_from row)) controls_parts c.args.controls.now (λ q. q) (λ q. refl) c.in_ok-put_each.ensures
