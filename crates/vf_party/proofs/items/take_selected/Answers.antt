use Rattle.vf_party.proofs.Requests.{left_selected}
use Rattle.vf_party.proofs.items.take_selected.Goals as goal

pub unreachable-requires : goal.unreachable-requires
unreachable-requires c =
    left_selected c.args.request c.requires.item c.requires.taken c.in_default.not-DeselectRequest c.in_default.not-DeleteRequest
    c.in_default.not-ReadAttribRequest c.in_default.not-ChangeAttribRequest c.in_default.not-OpenRequest
