use Rattle.vf_filestore.proofs.GivingWay.{answers_follow, one_is_in_way}
use Rattle.vf_filestore.proofs.laws.answers_follow.Goals as goal

pub returns : goal.returns
returns c = record { follow = answers_follow; one = one_is_in_way }
