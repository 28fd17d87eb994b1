use Rattle.std.proofs.Common.{arith}
use Rattle.vf_cli_dialogue.proofs.HexLemmas.{length_waiting, length_whole}
use Rattle.vf_cli_dialogue.proofs.hex.Digits.len.Goals as goal

pub returns-in-Some : goal.returns-in-Some
returns-in-Some c = omega (arith, c.len-whole.ensures, length_waiting c.self.inside.octets.items c.args.self.now c.self.inside.high c.in-Some.field-0 c.self.view_is c.in-Some.is)

pub returns-in-None : goal.returns-in-None
returns-in-None c = omega (arith, c.len-whole.ensures, length_whole c.self.inside.octets.items c.args.self.now c.self.inside.high c.self.view_is c.in-None.is)
