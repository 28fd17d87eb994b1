use Rattle.vf_pdu_parameters.proofs.ItemLists.{too_many, in_list, if_ok}
use Rattle.vf_pdu_parameters.proofs.lists.list_in.Goals as goal

pub returns-then-forms-gt-MOST_ITEMS : goal.returns-then-forms-gt-MOST_ITEMS
returns-then-forms-gt-MOST_ITEMS g c = too_many g.T.Item.its_view c.args.forms.now _ c.if-forms-gt-MOST_ITEMS.true

pub returns : goal.returns
returns g c = if_ok _ _ (λ found h. in_list g.T.Item.its_view g.T.Item.its_slots g.T.Item.its_row c.args.forms.now found c.if-forms-gt-MOST_ITEMS.false h) c.all_in.result c.all_in.ensures
