use Rattle.std.proofs.Common.{refl}
use Rattle.vf_store_record.specs.Fields.{string}
use Rattle.vf_store_record.proofs.Again.{string_writes}
use Rattle.vf_store_record.proofs.writing.fields.put_string.Goals as goal

pub returns : goal.returns
unfolding string
returns c = string_writes c.args.string.now c.in_ok-put_count.ensures c.len.ensures c.in_ok-push_shared.ensures.items refl
