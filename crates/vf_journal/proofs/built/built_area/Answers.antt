use Rattle.std.proofs.Common.{arith}
use Rattle.std.proofs.lemmas.Grind.{common_steps}
use Rattle.vf_journal.proofs.Numbers.{length_octets_are}
use Rattle.vf_journal.proofs.built.built_area.Goals as goal

pub returns-clause-form : goal.returns-clause-form
returns-clause-form c = (c.args.item.now, c.requires, grind (arith, common_steps, length_octets_are))
