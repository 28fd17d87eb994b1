use Rattle.std.proofs.Common.{refl}
use Rattle.vf_pdu.specs.PduRows.{row_of}
use Rattle.vf_pdu.proofs.group.write_recover_response.Goals as goal

pub returns : goal.returns
unfolding row_of
returns c = rw (c.in-RecoverResponse.is, c.in_ok-put_progress.ensures, c.in_ok-put_maybe_natural.ensures.ok, c.in_ok-put_diagnostic.ensures.ok, c.new-parts.ensures) refl
