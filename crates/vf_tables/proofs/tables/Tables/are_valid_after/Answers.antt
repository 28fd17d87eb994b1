use Rattle.std.proofs.Common.{◌∙◌}
use Rattle.vf_tables.proofs.Stays.{stays}
use Rattle.vf_tables.proofs.tables.Tables.are_valid_after.Goals as goal

pub returns-then-were_valid : goal.returns-then-were_valid
returns-then-were_valid c =
    let from = c.requires c.if-were_valid.true in
    c.stay_valid.ensures ∙ stays from.0 c.args.self.now c.args.changes.now from.1 from.2
