use Rattle.std.proofs.Common.{refl}
use Rattle.vf_store_record.specs.Records.{change, staging}
use Rattle.vf_store_record.proofs.Again.{tagged, both_writes}
use Rattle.vf_tables.specs.declared.change.Change.TheVariants.{Stage}
use Rattle.vf_store_record.specs.declared.changes.Docketed.{Docketed}
use Rattle.vf_store_record.specs.declared.changes.Piece.{Piece}
use Rattle.vf_store_record.proofs.Changed.{stage_taken}
use Rattle.vf_store_record.proofs.writing.changes.staged.Goals as goal

pub returns : goal.returns
unfolding change staging
returns c = tagged change 6 (λ (found : Docketed × Piece). Stage found.0.identity found.0.activity found.1.first found.1.last found.1.elements) (λ q. (tt, stage_taken c.args.identity.now c.args.activity c.args.first c.args.last c.args.elements.now q)) refl (λ q octets. refl) c.in_ok-put_octet.ensures (both_writes c.in_ok-put_docketed.ensures c.in_ok-put_piece.ensures)
