use Rattle.std.proofs.Common.{ap, sym, ◌∙◌}
use Rattle.vf_elements.specs.Stages.{takes}
use Rattle.vf_party.specs.Hearing.{turn_in}
use Rattle.vf_party.specs.Quiets.{IsQuiet}
use Rattle.vf_party.specs.Settings.{setting_of}
use Rattle.vf_party.specs.declared.party.Party.TheVariants as parties
use Rattle.vf_party.proofs.Bars.{quiet_stage}
use Rattle.vf_party.proofs.Turning.{untaken_turn}
use Rattle.vf_party.proofs.taking_quiet.take_quiet.Goals as goal

pub returns-then-not-takes : goal.returns-then-not-takes
returns-then-not-takes c = λ state party stands histories alone.
    untaken_turn IsQuiet parties.Quiet c.args.tables.now c.args.locks.now c.abort_quiet.new.locks c.args.quiet (setting_of c.args.setting) c.args.message state party stands alone (turn_in c.abort_quiet.new.party c.abort_quiet.result)
    (ap (λ stage. takes stage c.args.message) (quiet_stage c.args.quiet party alone.represented ∙ sym c.stage.ensures) ∙ sym c.takes.ensures ∙ c.if-not-takes.true) c.abort_quiet.ensures
