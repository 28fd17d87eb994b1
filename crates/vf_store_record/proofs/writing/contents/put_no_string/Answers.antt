use Rattle.vf_store_record.specs.Fields.{string}
use Rattle.vf_store_record.proofs.Again.{no_string_writes}
use Rattle.vf_store_record.proofs.writing.contents.put_no_string.Goals as goal

pub returns : goal.returns
unfolding string
returns c = no_string_writes c.in_ok-put_count.ensures
