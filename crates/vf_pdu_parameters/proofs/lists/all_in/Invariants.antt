use Rattle.std.proofs.Common.{◌≡◌, ◌++◌, map, drop}
use Rattle.vf_pdu_fields.specs.Content.{items_of}
use Rattle.vf_pdu_fields.specs.Meaning.{all_fit, each_within}
use Rattle.vf_pdu_parameters.proofs.lists.all_in.Given as goal

abbrev pub invariant-loop-form : goal.invariant-loop-form
invariant-loop-form g l = record {
  same : map g.T.Item.its_slots l.made ++ map g.T.Item.its_view (drop l.form-index l.forms) ≡ map g.T.Item.its_view l.forms;
  within : each_within (all_fit g.T.Item.its_row) (items_of (map g.T.Item.its_view l.forms)) ≡ each_within (all_fit g.T.Item.its_row) (items_of (map g.T.Item.its_view (drop l.form-index l.forms)));
}
