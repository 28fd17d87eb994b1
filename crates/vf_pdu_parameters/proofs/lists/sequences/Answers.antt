use Rattle.vf_pdu_parameters.proofs.ListsWritten.{item_put}
use Rattle.vf_pdu_parameters.proofs.lists.sequences.Goals as goal

pub loop-item-preserved : goal.loop-item-preserved
loop-item-preserved g c =
    item_put g.T.Item.its_row g.T.Item.its_slots c.args.items.now c.loop-item.item-index c.item-item.result c.loop-item.made c.push.new.self c.in_ok-parts.parts c.item-item.is c.loop-item-test.true
    c.in_ok-push.ensures.ok c.loop-item.invariant c.in_ok-parts.ensures
