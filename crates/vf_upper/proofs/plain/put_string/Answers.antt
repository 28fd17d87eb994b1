use Rattle.std.proofs.Common.{append_assoc, length}
use Rattle.vf_upper.specs.PlainData.{front}
use Rattle.vf_upper.proofs.plain.put_string.Goals as goal

pub returns-in-Ok-clause-ok : goal.returns-in-Ok-clause-ok
returns-in-Ok-clause-ok c =
    rw (c.in-Ok.ensures.items, c.in_ok-extend_from_slice.ensures.items, c.in_ok-reserve.ensures.items, c.front.ensures)
    (append_assoc c.args.out.now.items (front c.args.id c.args.class (length c.args.octets.now)) c.args.octets.now)
