use Rattle.std.proofs.Common.{ap, sym, ◌∙◌}
use Rattle.std.specs.Option.{option_map}
use Rattle.vf_pdu_fields.specs.Content.{Listed, items_of}
use Rattle.std.proofs.Common.{map}
use Rattle.vf_pdu_fields.specs.Rows.{list, optional}
use Rattle.vf_pdu_fields.specs.Writing.{◌▸◌, part_of}
use Rattle.vf_pdu_parameters.proofs.ListsWritten.{list_put}
use Rattle.vf_pdu_parameters.proofs.lists.put_maybe_list.Goals as goal

pub returns-clause-ok : goal.returns-clause-ok
returns-clause-ok g c =
    list_put g.T.Item.its_row g.T.Item.its_slots c.in-Some.items c.as_slice.result.now c.args.number c.args.parts.now c.put_sequence.new.parts c.in_ok-inside.inside c.in_ok-put_sequence.ensures.ok c.in_ok-inside.ensures c.as_slice.ensures
    ∙ ap (λ o. c.args.parts.now ▸ part_of c.args.number (list g.T.Item.its_row) optional (option_map (λ given. Listed (items_of (map g.T.Item.its_slots given))) o)) (sym c.in-Some.is)
