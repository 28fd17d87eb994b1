use Rattle.std.proofs.Common.{◌≡◌, ◌≤◌, ◌<◌, false, length, map, ap, sym, ◌∙◌, arith}
use Rattle.std.specs.Prelude.{nat_le}
use Rattle.vf_pdu_fields.specs.Content.{items_of}
use Rattle.vf_pdu_fields.specs.Meaning.{all_fit, each_within}
use Rattle.vf_pdu_fields.specs.declared.limits.TheConstants.{MOST_ITEMS}
use Rattle.vf_pdu_parameters.proofs.ItemLists.{few_fit, too_many}
use Rattle.vf_pdu_parameters.proofs.lists.SequenceParameter.is_in_range.Goals as goal

pub returns-then-len-le-MOST_ITEMS : goal.returns-then-len-le-MOST_ITEMS
returns-then-len-le-MOST_ITEMS g c =
    let few : length c.args.self.now ≤ MOST_ITEMS = omega arith in
    c.are_in_range.ensures ∙ ap (λ l. each_within (all_fit g.T.Item.its_row) (items_of (map g.T.Item.its_slots l))) c.as_slice.ensures
    ∙ sym (few_fit g.T.Item.its_slots g.T.Item.its_row c.args.self.now few)

pub returns-else-len-le-MOST_ITEMS : goal.returns-else-len-le-MOST_ITEMS
returns-else-len-le-MOST_ITEMS g c =
    let many : MOST_ITEMS < length c.args.self.now = omega arith in
    let no : nat_le c.len.result MOST_ITEMS ≡ false = grind (arith, c.len.ensures, many) in
    no ∙ sym (too_many g.T.Item.its_slots c.args.self.now _ many)
