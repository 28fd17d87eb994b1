use Rattle.vf_party.proofs.Requests.{left_opened}
use Rattle.vf_party.proofs.items.take_open.Goals as goal

pub unreachable-requires : goal.unreachable-requires
unreachable-requires c = left_opened c.args.request c.requires.item c.requires.taken c.in_default.not-CloseRequest
