use Rattle.std.proofs.Common.{refl}
use Rattle.vf_store_record.specs.Records.{change}
use Rattle.vf_store_record.proofs.Again.{tagged}
use Rattle.vf_tables.specs.declared.change.Change.TheVariants.{DropDocket}
use Rattle.vf_store_record.specs.declared.changes.Docketed.{Docketed}
use Rattle.vf_store_record.proofs.writing.changes.docket_dropped.Goals as goal

pub returns : goal.returns
unfolding change
returns c = tagged change 8 (λ (found : Docketed). DropDocket found.identity found.activity) (λ q. tt) refl (λ q octets. refl) c.in_ok-put_octet.ensures (c.in_ok-put_docketed.ensures)
