use Rattle.std.proofs.Common.{ap, sym, ◌∙◌}
use Rattle.vf_elements.specs.Stages.{takes}
use Rattle.vf_elements.specs.declared.message.Message.{Message}
use Rattle.vf_filestore.specs.Aborts.{aborts, first_abort}
use Rattle.vf_filestore.specs.Decision.{Leaves, message_decision}
use Rattle.vf_filestore.specs.HoldersAfter.{hearing}
use Rattle.vf_filestore.specs.Transition.{met, with_message}
use Rattle.vf_filestore.specs.Transition.{leaves as leaves_with}
use Rattle.vf_party_steps.specs.Represents.{IsIdle}
use Rattle.vf_party.specs.Settings.{setting_of}
use Rattle.vf_party.specs.declared.party.Party.TheVariants as parties
use Rattle.vf_party.proofs.Bars.{idle_stage}
use Rattle.vf_party.proofs.Turning.{ended_turn, leaves, unbarred_decides}
use Rattle.vf_party.proofs.taking_idle.take_taken.Goals as goal

pub returns : goal.returns
returns c = λ state party stands histories alone.
    let setting = setting_of c.args.setting in
    let message = c.args.message in
    let taken = ap (λ stage. takes stage message) (idle_stage c.args.idle party.link party.history alone.represented) ∙ c.requires in
    let decides = unbarred_decides IsIdle parties.Idle c.args.tables.now c.args.locks.now c.args.locks.now c.args.idle setting message state party stands alone taken (ap (λ (one : Message). first_abort (aborts party setting one)) c.in-Break.is)
    ∙ ap (λ (one : Message). message_decision state party setting one) c.in-Break.is in
    ended_turn IsIdle parties.Idle c.args.tables.now c.args.locks.now c.ended.new.locks c.args.idle setting message state party stands alone.represented
    c.new.result.items c.ended.result Leaves leaves decides
    (ap (met (hearing state party message) (with_message message party) setting message) decides ∙ (λ i. leaves_with (hearing state party message) (with_message message party) (sym c.new.ensures.items i)))
    c.ended.ensures
