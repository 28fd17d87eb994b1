use Rattle.std.proofs.Common.{rules}
use Rattle.vf_pdu.specs.PduRows.{row_of}
use Rattle.vf_pdu.proofs.selection.write_select_request.Goals as goal

pub returns : goal.returns
unfolding row_of
returns c = rw (c.in-SelectRequest.is, c.in_ok-put_maybe_string.ensures.ok, c.in_ok-put_attribute_controls.ensures.ok, c.in_ok-put_integer_or.ensures.ok, c.from.ensures, c.in_ok-put_text.ensures.ok, c.new-parts.ensures) (search rules)
