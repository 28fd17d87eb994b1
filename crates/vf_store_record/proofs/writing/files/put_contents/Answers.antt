use Rattle.std.proofs.Common.{Some, refl}
use Rattle.vf_store_record.specs.Entries.{contents, contents_from, contents_parts, kind, kind_named, kind_number}
use Rattle.vf_store_record.proofs.Again.{both_writes, made_writes, same_value}
use Rattle.vf_store_record.proofs.Ranges.{kind_known}
use Rattle.vf_store_record.proofs.writing.files.put_contents.Goals as goal

pub returns : goal.returns
unfolding contents kind
returns c =
    made_writes (λ row. Some (contents_from row)) contents_parts c.args.contents.now (λ q. (q, (tt, (tt, tt)))) (λ q. refl)
    (both_writes (made_writes kind_named kind_number c.args.contents.now.kind (λ q. tt) (kind_known c.args.contents.now) (same_value c.kind_number.ensures c.in_ok-put_octet.ensures))
    (both_writes c.in_ok-put_octet-2.ensures (both_writes c.in_ok-put_u32.ensures c.in_ok-put_octet-3.ensures)))
