use Rattle.std.proofs.Common.{◌≡◌, ◌+◌, ◌*◌, ◌≤◌, ◌++◌, take, vec_len, vec_capacity}
use Rattle.vf_cli_dialogue.specs.Hex.{hex_of}
use Rattle.vf_cli_dialogue.proofs.hex.put_each.Given as goal

abbrev pub invariant-loop-octet : goal.invariant-loop-octet
invariant-loop-octet l =
    (l.text.items ≡ l.initial.text.items ++ hex_of (take l.octet-index l.octets))
    × (vec_len l.text ≡ vec_len l.initial.text + 2 * l.octet-index)
    × (vec_capacity l.initial.text ≤ vec_capacity l.text)
