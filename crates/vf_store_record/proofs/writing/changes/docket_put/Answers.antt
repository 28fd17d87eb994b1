use Rattle.std.proofs.Common.{refl}
use Rattle.vf_store_record.specs.Records.{change}
use Rattle.vf_store_record.proofs.Again.{tagged}
use Rattle.vf_tables.specs.declared.change.Change.TheVariants.{PutDocket}
use Rattle.vf_store_record.proofs.writing.changes.docket_put.Goals as goal

pub returns : goal.returns
unfolding change
returns c = tagged change 5 PutDocket (λ q. q.in_range) refl (λ q octets. refl) c.in_ok-put_octet.ensures (c.in_ok-put_regime.ensures)
