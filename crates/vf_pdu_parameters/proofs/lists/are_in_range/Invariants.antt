use Rattle.std.proofs.Common.{◌≡◌, map, drop}
use Rattle.vf_pdu_fields.specs.Content.{items_of}
use Rattle.vf_pdu_fields.specs.Meaning.{all_fit, each_within}
use Rattle.vf_pdu_parameters.proofs.lists.are_in_range.Given as goal

abbrev pub invariant-loop-item : goal.invariant-loop-item
invariant-loop-item g l =
    each_within (all_fit g.T.Item.its_row) (items_of (map g.T.Item.its_slots l.items)) ≡ each_within (all_fit g.T.Item.its_row) (items_of (map g.T.Item.its_slots (drop l.item-index l.items)))
