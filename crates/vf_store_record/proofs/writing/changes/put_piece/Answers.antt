use Rattle.std.proofs.Common.{Some, refl}
use Rattle.vf_store_record.specs.Records.{piece, piece_from, piece_parts}
use Rattle.vf_store_record.proofs.Again.{both_writes, made_writes, moved}
use Rattle.vf_store_record.specs.Writing.{AreElements}
use Rattle.vf_store_record.proofs.writing.changes.put_piece.Goals as goal

pub returns : goal.returns
unfolding piece
returns c = made_writes (λ row. Some (piece_from row)) piece_parts (record { first = c.args.first; last = c.args.last; elements = c.args.elements.now }) (λ q. (tt, (tt, q))) (λ q. refl) (both_writes c.in_ok-put_u32.ensures (both_writes c.in_ok-put_u32-2.ensures (moved AreElements c.as_slice.ensures c.in_ok-put_elements.ensures)))
