use Rattle.std.proofs.Common.{◌≡◌, rules}
use Rattle.vf_ber.specs.Tree.{none}
use Rattle.vf_pdu_fields.specs.Rows.{int, or}
use Rattle.vf_pdu_fields.specs.Slots.{num}
use Rattle.vf_pdu_fields.specs.Writing.{◌▸◌, part_of}
use Rattle.vf_pdu_fields.proofs.Written.{all_appended}
use Rattle.vf_pdu_parameters.specs.Parameters.{contents_fields}
use Rattle.vf_pdu_parameters.specs.ParameterSlots.{contents_slots}
use Rattle.vf_pdu_parameters.proofs.WritingSteps.{Puts, put_end, put_next}
use Rattle.vf_pdu_parameters.proofs.writing.contents_parts.Goals as goal

pub returns : goal.returns
returns c =
    let k = c.args.contents.now in
    let class : c.put_integer_or.new.parts ≡ c.put_oid.new.parts ▸ part_of 1 (int 0 255) (or 25) (num k.class) = search rules in
    let longest : c.put_integer_or-2.new.parts ≡ c.put_integer_or.new.parts ▸ part_of 2 (int 0 4294967295) (or 0) (num k.longest) = search rules in
    let significance : c.put_integer_or-3.new.parts ≡ c.put_integer_or-2.new.parts ▸ part_of 3 (int 0 255) (or 0) (num k.significance) = search rules in
    let put : Puts c.put_integer_or-3.new.parts none contents_fields (contents_slots k) =
    put_next _ _ _ _ _ _ _ _ _ (rw c.new-parts.ensures at c.in_ok-put_oid.ensures.ok)
    (put_next _ _ _ _ _ _ _ _ _ class (put_next _ _ _ _ _ _ _ _ _ longest (put_next _ _ _ _ _ _ _ _ _ significance (put_end _)))) in
    all_appended contents_fields (contents_slots k) c.put_integer_or-3.new.parts put.is
