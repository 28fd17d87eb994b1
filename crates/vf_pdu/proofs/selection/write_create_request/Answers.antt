use Rattle.std.proofs.Common.{refl}
use Rattle.vf_pdu.specs.PduRows.{row_of}
use Rattle.vf_pdu.proofs.selection.write_create_request.Goals as goal

pub returns : goal.returns
unfolding row_of
returns c = rw (c.in-CreateRequest.is, c.in_ok-put_access.ensures, c.in_ok-put_file.ensures, c.in_ok-put_name.ensures, c.new-parts.ensures) refl
