use Rattle.std.proofs.Common.{ℕ, ap, ◌%◌}
use Rattle.vf_store_record.specs.Fields.{text}
use Rattle.vf_store_record.proofs.Again.{text_writes}
use Rattle.vf_store_record.proofs.writing.fields.put_text.Goals as goal

pub returns : goal.returns
unfolding text
returns c = text_writes c.args.text.now c.to_be_bytes.ensures (ap (λ (n : ℕ). n % 65536) c.len.ensures) c.in_ok-extend_from_slice.ensures.items c.in_ok-extend_from_slice-2.ensures.items c.as_slice.ensures
