use Rattle.std.proofs.Common.{ap}
use Rattle.vf_filestore.specs.State.{activity_in}
use Rattle.vf_party_steps.proofs.Departures.{nothing_left}
use Rattle.vf_party_steps.proofs.idle.Idle.leave.Goals as goal

pub returns : goal.returns
returns c = λ tables state party stands represents.
    nothing_left tables c.args.locks.now state party stands represents.selected (ap activity_in represents.opened)
