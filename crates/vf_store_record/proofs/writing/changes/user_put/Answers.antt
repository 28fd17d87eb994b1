use Rattle.std.proofs.Common.{refl}
use Rattle.vf_store_record.specs.Records.{change}
use Rattle.vf_store_record.proofs.Again.{tagged}
use Rattle.vf_tables.specs.declared.change.Change.TheVariants.{PutUser}
use Rattle.vf_store_record.proofs.writing.changes.user_put.Goals as goal

pub returns : goal.returns
unfolding change
returns c = tagged change 1 PutUser (λ q. q.in_range) refl (λ q octets. refl) c.in_ok-put_octet.ensures (c.in_ok-put_user.ensures)
