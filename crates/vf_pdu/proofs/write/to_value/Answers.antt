use Rattle.std.proofs.Common.{refl}
use Rattle.vf_pdu.proofs.Written.{put_is}
use Rattle.vf_pdu.proofs.write.to_value.Goals as goal

pub returns : goal.returns
returns c = rw (c.context.ensures, c.number.ensures, put_is c.args.pdu.now c.in_ok-parts.parts c.in_ok-parts.ensures) refl
