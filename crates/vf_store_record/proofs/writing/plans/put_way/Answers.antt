use Rattle.vf_store_record.specs.Entries.{way, way_number, way_of}
use Rattle.vf_store_record.proofs.Again.{made_writes, same_value}
use Rattle.vf_store_record.proofs.Codes.{way_known}
use Rattle.vf_store_record.proofs.writing.plans.put_way.Goals as goal

pub returns : goal.returns
unfolding way
returns c = made_writes way_of way_number c.args.way (λ q. q) (λ q. way_known c.args.way) (same_value c.way_number.ensures c.in_ok-put_octet.ensures)
