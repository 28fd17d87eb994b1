use Rattle.std.proofs.Common.{◌≡◌, ◌+◌, ◌-◌, ◌*◌, ◌/◌, ◌<◌, ◌≤◌, ◌++◌, List, ℕ, take, length, vec_len, vec_capacity}
use Rattle.std.specs.Prelude.{All}
use Rattle.vf_cli_dialogue.specs.Hex.{hex_of}
use Rattle.vf_cli_dialogue.proofs.hex.append_pairs.Given as goal

abbrev pub invariant-loop-place : goal.invariant-loop-place
invariant-loop-place l =
    (vec_len l.octets + (length l.text / 2 - l.place) ≤ vec_capacity l.octets)
    × ((more : List ℕ) × (l.octets.items ≡ l.fn.octets.items ++ more) × (hex_of more ≡ take (2 * l.place) l.text) × All (λ octet. octet < 256) more)
