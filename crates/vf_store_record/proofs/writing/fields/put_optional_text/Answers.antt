use Rattle.vf_store_record.specs.Fields.{optional_text, text}
use Rattle.vf_store_record.proofs.Again.{none_writes, some_writes, weaker}
use Rattle.vf_store_record.proofs.Ranges.{text_short}
use Rattle.vf_store_record.proofs.writing.fields.put_optional_text.Goals as goal

pub returns-in_default : goal.returns-in_default
unfolding optional_text
returns-in_default c = rw c.in_default.is (none_writes text c.in_ok-put_octet.ensures)

pub returns : goal.returns
unfolding optional_text
returns c = rw c.in-Some.is (weaker (text_short c.in-Some.text) (some_writes c.in_ok-put_octet-2.ensures c.in_ok-put_text.ensures))
