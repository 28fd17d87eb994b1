use Rattle.vf_store_record.specs.Fields.{moment, moment_of}
use Rattle.vf_store_record.proofs.Again.{made_writes, same_value}
use Rattle.vf_store_record.proofs.Codes.{moment_known}
use Rattle.vf_store_record.proofs.writing.fields.put_moment.Goals as goal

pub returns : goal.returns
unfolding moment
returns c = made_writes moment_of (λ seconds. seconds) c.args.moment (λ q. q) (λ q. moment_known c.args.moment c.seconds.ensures.within) (same_value c.seconds.ensures.value c.in_ok-put_u64.ensures)
