use Rattle.vf_store_record.specs.Entries.{descriptor}
use Rattle.vf_store_record.proofs.Again.{both_writes, weaker}
use Rattle.vf_store_record.proofs.writing.elements.put_descriptor.Goals as goal

pub returns : goal.returns
unfolding descriptor
returns c = weaker (λ q. (tt, tt)) (both_writes c.in_ok-put_optional_name.ensures c.in_ok-put_truth.ensures)
