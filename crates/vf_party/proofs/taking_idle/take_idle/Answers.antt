use Rattle.std.proofs.Common.{ap, sym, ◌∙◌}
use Rattle.vf_elements.specs.Stages.{takes}
use Rattle.vf_party_steps.specs.Represents.{IsIdle}
use Rattle.vf_party.specs.Settings.{setting_of}
use Rattle.vf_party.specs.declared.party.Party.TheVariants as parties
use Rattle.vf_party.proofs.Bars.{idle_stage}
use Rattle.vf_party.proofs.Turning.{untaken_turn}
use Rattle.vf_party.proofs.taking_idle.take_idle.Goals as goal

pub returns-then-not-takes : goal.returns-then-not-takes
returns-then-not-takes c = λ state party stands histories alone.
    untaken_turn IsIdle parties.Idle c.args.tables.now c.args.locks.now c.aborted_at.new.locks c.args.idle (setting_of c.args.setting) c.args.message state party stands alone c.aborted_at.result
    (ap (λ stage. takes stage c.args.message) (idle_stage c.args.idle party.link party.history alone.represented) ∙ sym c.takes.ensures ∙ c.if-not-takes.true) c.aborted_at.ensures
