use Rattle.std.proofs.Common.{◌≡◌, ◌*◌, length, take}
use Rattle.vf_cli_dialogue.specs.Hex.{hex_of}
use Rattle.vf_cli_dialogue.proofs.hex.digits_of_run.Given as goal

abbrev pub invariant-loop-place : goal.invariant-loop-place
invariant-loop-place l = (length l.digits ≡ 64) × (take (2 * l.place) l.digits ≡ hex_of (take l.place l.octets))
