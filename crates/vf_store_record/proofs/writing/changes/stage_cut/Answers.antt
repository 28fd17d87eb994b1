use Rattle.std.proofs.Common.{refl}
use Rattle.vf_store_record.specs.Records.{change, cutting}
use Rattle.vf_store_record.proofs.Again.{tagged, both_writes}
use Rattle.vf_tables.specs.declared.change.Change.TheVariants.{CutStage}
use Rattle.vf_store_record.specs.declared.changes.Docketed.{Docketed}
use Rattle.std.proofs.Common.{ℕ}
use Rattle.vf_store_record.proofs.writing.changes.stage_cut.Goals as goal

pub returns : goal.returns
unfolding change cutting
returns c = tagged change 7 (λ (found : Docketed × ℕ). CutStage found.0.identity found.0.activity found.1) (λ q. (tt, tt)) refl (λ q octets. refl) c.in_ok-put_octet.ensures (both_writes c.in_ok-put_docketed.ensures c.in_ok-put_u32.ensures)
