use Rattle.std.proofs.Common.{◌≡◌, drop}
use Rattle.std.specs.List.{list_all}
use Rattle.vf_party_steps.specs.Sameness.{keeps_pieces}
use Rattle.vf_party_steps.proofs.sameness.keep_pieces.Given as goal

-- the dockets so far have their pieces
abbrev pub invariant-loop-docket : goal.invariant-loop-docket
invariant-loop-docket l = list_all (keeps_pieces l.before.dockets) (drop l.docket-index l.dockets) ≡ list_all (keeps_pieces l.before.dockets) l.dockets
