use Rattle.vf_store_record.specs.Fields.{fadu, fadu_number, fadu_of}
use Rattle.vf_store_record.proofs.Again.{made_writes, same_value}
use Rattle.vf_store_record.proofs.writing.regimes.put_fadu.Goals as goal

pub returns : goal.returns
unfolding fadu
returns c = made_writes fadu_of fadu_number c.args.fadu (λ q. tt) c.fadu_number.ensures.known (same_value c.fadu_number.ensures.number c.in_ok-put_u64.ensures)
