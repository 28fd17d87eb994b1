use Rattle.vf_store_record.specs.Fields.{control, control_number, control_of}
use Rattle.vf_store_record.proofs.Again.{made_writes, same_value}
use Rattle.vf_store_record.proofs.Codes.{control_known}
use Rattle.vf_store_record.proofs.writing.fields.put_control.Goals as goal

pub returns : goal.returns
unfolding control
returns c = made_writes control_of control_number c.args.control (λ q. q) (λ q. control_known c.args.control) (same_value c.control_number.ensures c.in_ok-put_octet.ensures)
