use Rattle.std.proofs.Common.{refl}
use Rattle.vf_store_record.proofs.writing.fields.put_octet.Goals as goal

pub returns : goal.returns
returns c = record { octets = c.in_ok-push.ensures.items; again = λ p rest. refl }
