use Rattle.std.proofs.Common.{◌≡◌, []}
use Rattle.vf_cli_sockets.proofs.rounds.Rounds.wait.Given as goal

abbrev pub invariant-loop : goal.invariant-loop
invariant-loop l = l.piece.items ≡ []
