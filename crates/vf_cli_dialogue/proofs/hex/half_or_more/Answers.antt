use Rattle.std.proofs.Common.{arith}
use Rattle.vf_cli_dialogue.proofs.HexTable.{half_found, half_is_of, most_there, none_there}
use Rattle.vf_cli_dialogue.proofs.hex.half_or_more.Goals as goal

pub returns-clause-some : goal.returns-clause-some
returns-clause-some c = λ less. half_found c.args.digit (omega arith) less

pub returns-clause-digit : goal.returns-clause-digit
returns-clause-digit c = λ less. half_is_of c.args.digit (omega arith) less

pub returns-clause-none : goal.returns-clause-none
returns-clause-none c = λ large. none_there c.args.digit (omega arith) large

pub returns-clause-most : goal.returns-clause-most
returns-clause-most c = most_there c.args.digit (omega arith)
