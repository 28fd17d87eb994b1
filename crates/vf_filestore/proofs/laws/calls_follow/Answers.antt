use Rattle.vf_filestore.proofs.HeldCalls.{calls_follow, moves_follow}
use Rattle.vf_filestore.proofs.laws.calls_follow.Goals as goal

pub returns : goal.returns
returns c = record { calls = calls_follow; moves = moves_follow }
