use Rattle.vf_initiator.proofs.Staged.{staged_more}
use Rattle.vf_initiator.proofs.conduct.Conduct.put_stages.Goals as goal

pub loop-place-preserved : goal.loop-place-preserved
loop-place-preserved c =
    staged_more c.args.activity c.loop-place.place c.args.self.now.gathered.pieces c.in_ok-elements.elements c.loop-place.changes c.push.new.self _
    c.in_ok-elements.ensures c.in_ok-push.ensures.ok c.loop-place.invariant
