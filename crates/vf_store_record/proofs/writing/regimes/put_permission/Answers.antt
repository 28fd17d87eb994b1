use Rattle.std.proofs.Common.{Some, refl}
use Rattle.vf_store_record.specs.Entries.{permission, permission_from, permission_parts}
use Rattle.vf_store_record.proofs.Again.{both_writes, made_writes}
use Rattle.vf_store_record.proofs.writing.regimes.put_permission.Goals as goal

pub returns : goal.returns
unfolding permission
returns c = made_writes (λ row. Some (permission_from row)) permission_parts (record { requested = c.args.regime.now.requested; controls = c.args.regime.now.controls; mode = c.args.regime.now.mode; password = c.args.regime.now.password }) (λ q. (tt, (tt, (tt, q)))) (λ q. refl) (both_writes c.in_ok-put_actions.ensures (both_writes c.in_ok-put_controls.ensures (both_writes c.in_ok-put_actions-2.ensures c.in_ok-put_optional_text.ensures)))
