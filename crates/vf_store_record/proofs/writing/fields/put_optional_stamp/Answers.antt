use Rattle.vf_store_record.specs.Fields.{optional_stamp, stamp}
use Rattle.vf_store_record.proofs.Again.{none_writes, some_writes}
use Rattle.vf_store_record.proofs.writing.fields.put_optional_stamp.Goals as goal

pub returns-in_default : goal.returns-in_default
unfolding optional_stamp
returns-in_default c = rw c.in_default.is (none_writes stamp c.in_ok-put_octet.ensures)

pub returns : goal.returns
unfolding optional_stamp
returns c = rw c.in-Some.is (some_writes c.in_ok-put_octet-2.ensures c.in_ok-put_stamp.ensures)
