use Rattle.vf_store_record.specs.Fields.{optional_name, name}
use Rattle.vf_store_record.proofs.Again.{none_writes, some_writes}
use Rattle.vf_store_record.proofs.writing.fields.put_optional_name.Goals as goal

pub returns-in_default : goal.returns-in_default
unfolding optional_name
returns-in_default c = rw c.in_default.is (none_writes name c.in_ok-put_octet.ensures)

pub returns : goal.returns
unfolding optional_name
returns c = rw c.in-Some.is (some_writes c.in_ok-put_octet-2.ensures c.in_ok-put_name.ensures)
