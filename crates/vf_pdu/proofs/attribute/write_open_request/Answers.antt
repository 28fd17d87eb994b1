use Rattle.std.proofs.Common.{◌≡◌, [], ◌∷◌, rules}
use Rattle.std.specs.Option.{option_map}
use Rattle.vf_ber.specs.Tree.{none}
use Rattle.vf_pdu_fields.specs.Rows.{int, required}
use Rattle.vf_pdu_fields.specs.Slots.{content_controls, maybe_num, num}
use Rattle.vf_pdu_fields.specs.Writing.{◌▸◌, part_of}
use Rattle.vf_pdu_parameters.specs.ParameterSlots.{maybe_contents}
use Rattle.vf_pdu_parameters.proofs.WritingSteps.{Puts, put_end, put_next}
use Rattle.vf_pdu.specs.PduAttribute.{open_request}
use Rattle.vf_pdu.specs.PduRows.{row_of}
use Rattle.vf_pdu.proofs.attribute.write_open_request.Goals as goal

pub returns : goal.returns
unfolding row_of
returns c =
    let mode : c.put_integer.new.parts ≡ none ▸ part_of 0 (int 0 31) required (num c.in-OpenRequest.mode) = search rules in
    let put : Puts c.put_maybe_natural.new.parts none open_request (num c.in-OpenRequest.mode ∷ maybe_contents c.in-OpenRequest.contents ∷ option_map content_controls c.in-OpenRequest.controls ∷ maybe_num c.in-OpenRequest.activity ∷ []) =
    put_next _ _ _ _ _ _ _ _ _ mode
    (put_next _ _ _ _ _ _ _ _ _ c.in_ok-put_maybe_contents.ensures.ok
    (put_next _ _ _ _ _ _ _ _ _ c.in_ok-put_content_controls.ensures.ok
    (put_next _ _ _ _ _ _ _ _ _ c.in_ok-put_maybe_natural.ensures.ok
    (put_end _)))) in
    rw c.in-OpenRequest.is put.is
