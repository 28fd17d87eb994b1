use Rattle.std.proofs.Common.{◌≡◌, map, drop}
use Rattle.std.specs.Option.{option_map}
use Rattle.vf_ber.specs.Views.{trees_in}
use Rattle.vf_pdu_fields.specs.Reading.{each_shape, shapes}
use Rattle.vf_pdu_parameters.proofs.ItemLists.{onto}
use Rattle.vf_pdu_parameters.proofs.lists.item_forms.Given as goal

abbrev pub invariant-loop-part : goal.invariant-loop-part
invariant-loop-part g l =
    each_shape (shapes g.T.Item.its_row) (trees_in l.parts)
    ≡ option_map (onto (map g.T.Item.its_view l.forms.items)) (each_shape (shapes g.T.Item.its_row) (trees_in (drop l.part-index l.parts)))
