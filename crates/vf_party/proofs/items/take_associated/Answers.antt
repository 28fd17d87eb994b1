use Rattle.vf_party.proofs.Requests.{left_associated}
use Rattle.vf_party.proofs.items.take_associated.Goals as goal

pub unreachable-requires : goal.unreachable-requires
unreachable-requires c =
    left_associated c.args.request c.requires.item c.requires.taken c.in_default.not-SelectRequest c.in_default.not-CreateRequest
