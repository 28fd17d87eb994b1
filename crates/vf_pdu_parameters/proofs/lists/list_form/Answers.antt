use Rattle.std.proofs.Common.{sym, map}
use Rattle.vf_ber.specs.Views.{tree_of, trees_in}
use Rattle.vf_pdu_fields.specs.Content.{items_of}
use Rattle.vf_pdu_parameters.proofs.ItemLists.{if_ok, list_shape}
use Rattle.vf_pdu_parameters.proofs.lists.list_form.Goals as goal

pub returns : goal.returns
returns g c =
    if_ok _ _ (λ found h. list_shape g.T.Item.its_row (tree_of c.args.part.now) c.in-Some.fields.now (trees_in c.as_slice.result.now) (λ v. items_of (map g.T.Item.its_view v.items)) found (sym c.in-Some.ensures) c.as_slice.ensures.values h)
    c.item_forms.result c.item_forms.ensures
