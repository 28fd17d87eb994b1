use Rattle.std.proofs.Common.{refl}
use Rattle.vf_store_record.specs.Records.{change}
use Rattle.vf_store_record.proofs.Again.{tagged}
use Rattle.vf_tables.specs.declared.change.Change.TheVariants.{PutFile}
use Rattle.vf_store_record.proofs.Changed.{file_taken}
use Rattle.vf_store_record.proofs.writing.changes.file_put.Goals as goal

pub returns : goal.returns
unfolding change
returns c = tagged change 2 PutFile (file_taken c.args.file.now) refl (λ q octets. refl) c.in_ok-put_octet.ensures (c.in_ok-put_file.ensures)
