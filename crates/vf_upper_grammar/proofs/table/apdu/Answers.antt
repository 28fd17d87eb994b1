use Rattle.std.proofs.Common.{ap}
use Rattle.vf_upper_grammar.specs.Rows.{apdu_type}
use Rattle.vf_upper_grammar.specs.declared.form.TypeName.TheVariants as types
use Rattle.vf_upper_grammar.proofs.Apdus.{apdu-read_as}
use Rattle.vf_upper_grammar.proofs.table.apdu.Goals as goal

pub returns-in-AC-clause-read : goal.returns-in-AC-clause-read
returns-in-AC-clause-read c = apdu-read_as c.args.carrier types.Aare (ap apdu_type c.in-AC.is)

pub returns-in-RF-clause-read : goal.returns-in-RF-clause-read
returns-in-RF-clause-read c = apdu-read_as c.args.carrier types.Aare (ap apdu_type c.in-RF.is)
