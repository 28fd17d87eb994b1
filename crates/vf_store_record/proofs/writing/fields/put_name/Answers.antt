use Rattle.std.proofs.Common.{◌≡◌, ◌≤◌, ◌%◌, length, ap, arith}
use Rattle.vf_store_record.specs.Fields.{name, name_of, text}
use Rattle.vf_store_record.proofs.Again.{made_writes, name_known, name_short, text_writes}
use Rattle.vf_store_record.proofs.writing.fields.put_name.Goals as goal

pub overflow_cast-number : goal.overflow_cast-number
overflow_cast-number c = let short : length c.args.name.now ≤ 255 = name_short c.args.name.now c.as_slice-octets.ensures.within in omega (arith, ap length c.as_slice-octets.ensures.octets)

pub returns : goal.returns
unfolding name text
returns c =
    let short : length c.args.name.now ≤ 255 = name_short c.args.name.now c.as_slice-octets.ensures.within in
    let low : length c.as_slice-octets.result.now ≡ length c.args.name.now % 65536 = omega (arith, ap length c.as_slice-octets.ensures.octets) in
    made_writes name_of (λ octets. octets) c.args.name.now (λ p. omega arith) (λ p. name_known c.args.name.now c.as_slice-octets.ensures.within)
    (text_writes c.args.name.now c.to_be_bytes.ensures low c.in_ok-extend_from_slice.ensures.items c.in_ok-extend_from_slice-2.ensures.items c.as_slice-octets.ensures.octets)
