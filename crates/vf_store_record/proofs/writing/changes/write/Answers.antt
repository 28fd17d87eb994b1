use Rattle.vf_store_record.proofs.Changed.{record_read}
use Rattle.vf_store_record.proofs.writing.changes.write.Goals as goal

pub returns : goal.returns
returns c = record {
  octets = c.in_ok-put_changes.ensures.octets;
  read = λ ranged short. record_read c.args.changes.now c.in_ok-put_changes.ensures ranged short;
}
