use Rattle.std.proofs.Common.{Some, refl}
use Rattle.vf_store_record.specs.Fields.{actions, actions_from, actions_parts}
use Rattle.vf_store_record.proofs.Again.{made_writes}
use Rattle.vf_store_record.proofs.writing.fields.put_actions.Goals as goal

pub returns : goal.returns
unfolding actions
returns c = made_writes (λ row. Some (actions_from row)) actions_parts c.args.actions (λ q. q) (λ q. refl) (c.in_ok-put_octet.ensures)
