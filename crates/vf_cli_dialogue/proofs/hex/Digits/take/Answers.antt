use Rattle.vf_cli_dialogue.proofs.HexLemmas.{digits_in_line}
use Rattle.vf_cli_dialogue.proofs.hex.Digits.take.Goals as goal

pub returns-in_err-reserve-clause-line : goal.returns-in_err-reserve-clause-line
returns-in_err-reserve-clause-line c = digits_in_line c.reserve.new.self.items c.self.inside.high

pub returns-clause-line : goal.returns-clause-line
returns-clause-line c = digits_in_line c.take_digits-count.new.octets.items c.take_digits-count.result.1
