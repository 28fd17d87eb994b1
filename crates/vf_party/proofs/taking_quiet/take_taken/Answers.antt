use Rattle.std.proofs.Common.{[], ap, ◌∙◌}
use Rattle.vf_elements.specs.Stages.{takes}
use Rattle.vf_elements.specs.declared.message.Message.{Message}
use Rattle.vf_filestore.specs.Aborts.{aborts, first_abort}
use Rattle.vf_filestore.specs.Decision.{Leaves, message_decision}
use Rattle.vf_filestore.specs.HoldersAfter.{hearing}
use Rattle.vf_filestore.specs.Transition.{met, with_message}
use Rattle.vf_party.specs.Hearing.{outcome_in}
use Rattle.vf_party.specs.Quiets.{IsQuiet}
use Rattle.vf_party.specs.Settings.{setting_of}
use Rattle.vf_party.specs.declared.party.Party.TheVariants as parties
use Rattle.vf_party.proofs.Bars.{quiet_stage}
use Rattle.vf_party.proofs.Turning.{ended_turn, leaves, unbarred_decides}
use Rattle.vf_party.proofs.taking_quiet.take_taken.Goals as goal

pub returns : goal.returns
returns c = λ state party stands histories alone.
    let setting = setting_of c.args.setting in
    let message = c.args.message in
    let taken = ap (λ stage. takes stage message) (quiet_stage c.args.quiet party alone.represented) ∙ c.requires in
    let decides = unbarred_decides IsQuiet parties.Quiet c.args.tables.now c.args.locks.now c.args.locks.now c.args.quiet setting message state party stands alone taken (ap (λ (one : Message). first_abort (aborts party setting one)) c.in-Break.is)
    ∙ ap (λ (one : Message). message_decision state party setting one) c.in-Break.is in
    ended_turn IsQuiet parties.Quiet c.args.tables.now c.args.locks.now c.end_quiet.new.locks c.args.quiet setting message state party stands alone.represented
    [] (outcome_in c.args.party.now c.end_quiet.result) Leaves leaves decides
    (ap (met (hearing state party message) (with_message message party) setting message) decides)
    (c.end_quiet.ensures c.args.party.now)
