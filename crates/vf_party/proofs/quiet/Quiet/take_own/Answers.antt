use Rattle.std.proofs.Common.{[], None, ap, ◌∙◌}
use Rattle.vf_elements.specs.Stages.{takes}
use Rattle.vf_elements.specs.declared.message.Message.TheVariants as messages
use Rattle.vf_filestore.specs.Aborts.{first_abort}
use Rattle.vf_filestore.specs.Decision.{message_decision}
use Rattle.vf_filestore.specs.Stage.{grouping}
use Rattle.vf_party.specs.Quiets.{IsQuiet}
use Rattle.vf_party.specs.Settings.{setting_of}
use Rattle.vf_party.specs.declared.party.Party.TheVariants as parties
use Rattle.vf_pdu.specs.declared.pdu.Pdu.{Pdu}
use Rattle.vf_party.proofs.Bars.{quiet_bars, quiet_stage}
use Rattle.vf_party.proofs.Turning.{unbarred_decides, waits_turn}
use Rattle.vf_party.proofs.quiet.Quiet.take_own.Goals as goal

pub returns-in-BeginGroupRequest : goal.returns-in-BeginGroupRequest
returns-in-BeginGroupRequest c = λ state party stands histories alone.
    let message = messages.Pdu c.args.request in
    let taken = ap (λ stage. takes stage message) (quiet_stage c.args.self party alone.represented) ∙ c.requires.taken in
    let unbarred = ap first_abort (quiet_bars party (setting_of c.args.setting) c.args.self c.args.request alone.represented c.requires.taken) ∙ c.requires.unbarred in
    waits_turn c.args.tables.now c.args.locks.now (setting_of c.args.setting) message state party stands c.grouped.result
    (parties.Grouping (record { quiet = c.args.self; threshold = c.in-BeginGroupRequest.threshold; items = [] }))
    (unbarred_decides IsQuiet parties.Quiet c.args.tables.now c.args.locks.now c.args.locks.now c.args.self (setting_of c.args.setting) message state party stands alone taken unbarred
    ∙ ap (λ (request : Pdu). message_decision state party (setting_of c.args.setting) (messages.Pdu request)) c.in-BeginGroupRequest.is)
    c.grouped.ensures.groups c.grouped.ensures.says c.grouped.ensures.differs
    (record {
      represented = alone.represented;
      items = tt;
      grouped = ap (grouping c.args.request) alone.alone ∙ ap (λ (request : Pdu). grouping request None) c.in-BeginGroupRequest.is;
    })
