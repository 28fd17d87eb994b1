use Rattle.std.proofs.Common.{◌≡◌, sym, ap, ◌∙◌, map, None, Some, rules}
use Rattle.std.specs.Option.{option_and_then, option_map}
use Rattle.vf_ber.specs.Views.{tree_of}
use Rattle.vf_pdu_fields.specs.Reading.{sequence_parts, shapes}
use Rattle.vf_pdu_parameters.proofs.ItemLists.{onto, pushed, all_read, each_none, each_some}
use Rattle.vf_pdu_parameters.proofs.lists.item_forms.Goals as goal

pub returns-in_default : goal.returns-in_default
returns-in_default g c =
    let no : option_and_then (shapes g.T.Item.its_row) (sequence_parts (tree_of c.part-item.result)) ≡ None = search rules in
    sym (c.loop-part.invariant ∙ ap (option_map (onto (map g.T.Item.its_view c.loop-part.forms.items))) (each_none (shapes g.T.Item.its_row) c.args.parts.now c.loop-part.part-index c.part-item.result c.part-item.is c.loop-part-test.true no))

pub loop-part-preserved : goal.loop-part-preserved
loop-part-preserved g c =
    let is : option_and_then (shapes g.T.Item.its_row) (sequence_parts (tree_of c.part-item.result)) ≡ Some (g.T.Item.its_view c.in-Some.form) = search rules in
    c.loop-part.invariant
    ∙ ap (option_map (onto (map g.T.Item.its_view c.loop-part.forms.items))) (each_some (shapes g.T.Item.its_row) c.args.parts.now c.loop-part.part-index c.part-item.result (g.T.Item.its_view c.in-Some.form) c.part-item.is c.loop-part-test.true is)
    ∙ pushed g.T.Item.its_view c.loop-part.forms.items c.push.new.self.items c.in-Some.form _ c.in_ok-push.ensures.items

pub returns : goal.returns
returns g c = sym (c.loop-part.invariant ∙ all_read g.T.Item.its_view c.loop-part.forms.items (shapes g.T.Item.its_row) c.args.parts.now c.loop-part.part-index c.loop-part-test.false)
