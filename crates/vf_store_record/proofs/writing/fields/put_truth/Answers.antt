use Rattle.vf_store_record.specs.Fields.{truth, truth_number, truth_of}
use Rattle.vf_store_record.proofs.Again.{made_writes, same_value}
use Rattle.vf_store_record.proofs.Codes.{truth_known}
use Rattle.vf_store_record.proofs.writing.fields.put_truth.Goals as goal

pub returns : goal.returns
unfolding truth
returns c = made_writes truth_of truth_number c.args.truth (λ q. q) (λ q. truth_known c.args.truth) (same_value c.truth_number.ensures c.in_ok-put_octet.ensures)
