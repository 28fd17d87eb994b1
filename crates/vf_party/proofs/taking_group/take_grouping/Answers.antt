use Rattle.std.proofs.Common.{sym, ◌∙◌}
use Rattle.vf_party.specs.Settings.{setting_of}
use Rattle.vf_party.proofs.GroupTurns.{untaken_turn}
use Rattle.vf_party.proofs.taking_group.take_grouping.Goals as goal

pub returns-then-not-takes : goal.returns-then-not-takes
returns-then-not-takes c = λ state party stands is.
    untaken_turn c.args.tables.now c.args.locks.now c.aborted_at.new.locks c.args.grouping (setting_of c.args.setting) c.args.message state party stands is c.aborted_at.result
    (sym c.takes.ensures ∙ c.if-not-takes.true) c.aborted_at.ensures
