use Rattle.std.proofs.Common.{◌∷◌, [], ap, ◌∙◌}
use Rattle.vf_elements.specs.Stages.{takes}
use Rattle.vf_elements.specs.declared.message.Message.TheVariants as messages
use Rattle.vf_elements.specs.declared.message.Said.TheVariants as answers
use Rattle.vf_filestore.specs.Aborts.{first_abort}
use Rattle.vf_filestore.specs.Decision.{Ends, message_decision}
use Rattle.vf_filestore.specs.HoldersAfter.{hearing}
use Rattle.vf_filestore.specs.Transition.{met, with_message}
use Rattle.vf_party.specs.Quiets.{IsQuiet}
use Rattle.vf_party_steps.specs.Represents.{IsAssociated}
use Rattle.vf_party.specs.Settings.{setting_of}
use Rattle.vf_party.specs.declared.party.Party.TheVariants as parties
use Rattle.vf_party.specs.declared.quiet.Quiet.TheVariants as quiets
use Rattle.vf_pdu.specs.declared.pdu.Pdu.{Pdu}
use Rattle.vf_pdu.specs.declared.pdu.Pdu.TheVariants.{TerminateResponse}
use Rattle.vf_party.proofs.Bars.{quiet_bars, quiet_stage}
use Rattle.vf_party.proofs.Requests.{left_with_association}
use Rattle.vf_party.proofs.Turning.{associated_party, ends, saying_turn, unbarred_decides}
use Rattle.vf_party.proofs.taking_regime.take_associated.Goals as goal

pub returns-in-TerminateRequest : goal.returns-in-TerminateRequest
returns-in-TerminateRequest c = λ state party stands histories alone.
    let setting = setting_of c.args.setting in
    let message = messages.Pdu c.args.request in
    let quiet = quiets.Associated c.args.associated in
    let taken = ap (λ stage. takes stage message) (quiet_stage quiet party alone.represented) ∙ c.requires.taken in
    let unbarred = ap first_abort (quiet_bars party setting quiet c.args.request alone.represented c.requires.taken) ∙ c.requires.unbarred in
    let decides = unbarred_decides IsQuiet parties.Quiet c.args.tables.now c.args.locks.now c.args.locks.now quiet setting message state party stands alone taken unbarred
    ∙ ap (λ (request : Pdu). message_decision state party setting (messages.Pdu request)) c.in-TerminateRequest.is in
    saying_turn IsAssociated associated_party c.args.tables.now c.args.locks.now c.terminate.new.locks c.args.associated setting message state party stands alone.represented
    (answers.Pdu TerminateResponse ∷ []) c.terminate.result Ends ends decides (ap (met (hearing state party message) (with_message message party) setting message) decides) c.terminate.ensures

pub unreachable-requires : goal.unreachable-requires
unreachable-requires c = left_with_association c.args.request c.requires.taken c.requires.item c.requires.stays c.requires.single c.in_default.not-TerminateRequest c.in_default.not-RecoverRequest
