use Rattle.std.proofs.Common.{◌≡◌, ◌+◌, ◌*◌, ◌≤◌, ◌++◌, take, vec_len, vec_capacity}
use Rattle.vf_cli_dialogue.specs.Hex.{hex_of}
use Rattle.vf_cli_dialogue.proofs.hex.put_runs.Given as goal

abbrev pub invariant-loop-run : goal.invariant-loop-run
invariant-loop-run l =
    (l.text.items ≡ l.initial.text.items ++ hex_of (take (32 * l.run) l.octets))
    × (vec_len l.text ≡ vec_len l.initial.text + 2 * (32 * l.run))
    × (vec_capacity l.initial.text ≤ vec_capacity l.text)
