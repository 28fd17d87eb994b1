use Rattle.std.proofs.Common.{ap, refl, subst, sym, ◌∙◌}
use Rattle.vf_elements.specs.Stages.{takes}
use Rattle.vf_elements.specs.declared.message.Message.TheVariants as messages
use Rattle.vf_filestore.specs.Aborts.{first_abort}
use Rattle.vf_filestore.specs.Decision.{Leaves, message_decision}
use Rattle.vf_filestore.specs.HoldersAfter.{hearing}
use Rattle.vf_filestore.specs.Stage.{grouping}
use Rattle.vf_filestore.specs.Transition.{met, with_message}
use Rattle.vf_filestore.specs.Transition.{leaves as leaves_with}
use Rattle.vf_party.specs.Aborting.{aborts_of_writing}
use Rattle.vf_party_steps.specs.Writes.{IsWriting}
use Rattle.vf_party_steps.specs.Moving.{stage_of_writing}
use Rattle.vf_party.specs.Settings.{setting_of}
use Rattle.vf_party.specs.Turns.{IsTurnOf}
use Rattle.vf_party.specs.declared.party.Party.TheVariants as parties
use Rattle.vf_party.proofs.Bars.{writing_bars, writing_stage}
use Rattle.vf_party_steps.specs.Represents.{IsOpen}
use Rattle.vf_party_steps.specs.Steps.{IsStep}
use Rattle.vf_party.proofs.Turning.{ended_turn, leaves, opened_enters, opened_party, step_turn, unbarred_decides}
use Rattle.vf_pdu.specs.declared.pdu.Pdu.{Pdu}
use Rattle.vf_pdu.specs.declared.pdu.Pdu.TheVariants.{DataEnd, TransferEndRequest, CancelRequest, RestartRequest}
use Rattle.vf_party.proofs.taking_writing.take_request.Goals as goal

pub returns-in-RestartRequest : goal.returns-in-RestartRequest
returns-in-RestartRequest c =
    let setting = setting_of c.args.setting in
    let request = RestartRequest c.in-RestartRequest.point in
    let message = messages.Pdu request in
    let taken = ap (λ (one : Pdu). takes (stage_of_writing c.args.writing) (messages.Pdu one)) (sym c.in-RestartRequest.is) ∙ c.requires.taken in
    let unbarred = ap (λ (one : Pdu). first_abort (aborts_of_writing c.args.writing setting.serial (messages.Pdu one))) (sym c.in-RestartRequest.is) ∙ c.requires.unbarred in
    subst (λ (one : Pdu). IsTurnOf IsWriting parties.Writing c.args.tables.now c.args.locks.now c.concluded.new.locks c.args.writing setting (messages.Pdu one) c.concluded.result) (sym c.in-RestartRequest.is)
    (step_turn IsWriting IsWriting parties.Writing parties.Writing (λ self standing is. is) (λ self standing is. is)
    c.args.tables.now c.args.locks.now c.restart-answer.new.locks c.concluded.new.locks c.args.writing setting message (stage_of_writing c.args.writing)
    (λ party is. writing_stage c.args.writing party.link party.history is) taken
    (λ party is. ap first_abort (writing_bars party setting c.args.writing is message taken) ∙ unbarred)
    (λ trace alone. ap (grouping request) alone) refl 39 (λ diagnostic. refl)
    c.restart-answer.result c.concluded.result (subst (λ (request : Pdu). IsStep IsWriting IsWriting c.args.tables.now c.args.locks.now c.restart-answer.new.locks c.args.writing setting (messages.Pdu request) c.restart-answer.result) c.in-RestartRequest.is c.restart-answer.ensures.consequence) c.restart-answer.ensures.kept c.concluded.ensures)

pub returns-in-DataEnd : goal.returns-in-DataEnd
returns-in-DataEnd c =
    let setting = setting_of c.args.setting in
    let request = DataEnd c.in-DataEnd.diagnostic in
    let message = messages.Pdu request in
    let taken = ap (λ (one : Pdu). takes (stage_of_writing c.args.writing) (messages.Pdu one)) (sym c.in-DataEnd.is) ∙ c.requires.taken in
    let unbarred = ap (λ (one : Pdu). first_abort (aborts_of_writing c.args.writing setting.serial (messages.Pdu one))) (sym c.in-DataEnd.is) ∙ c.requires.unbarred in
    subst (λ (one : Pdu). IsTurnOf IsWriting parties.Writing c.args.tables.now c.args.locks.now c.concluded-in-DataEnd.new.locks c.args.writing setting (messages.Pdu one) c.concluded-in-DataEnd.result) (sym c.in-DataEnd.is)
    (step_turn IsWriting IsWriting parties.Writing parties.Writing (λ self standing is. is) (λ self standing is. is)
    c.args.tables.now c.args.locks.now c.data_end-answer.new.locks c.concluded-in-DataEnd.new.locks c.args.writing setting message (stage_of_writing c.args.writing)
    (λ party is. writing_stage c.args.writing party.link party.history is) taken
    (λ party is. ap first_abort (writing_bars party setting c.args.writing is message taken) ∙ unbarred)
    (λ trace alone. ap (grouping request) alone) refl 34 (λ diagnostic. refl)
    c.data_end-answer.result c.concluded-in-DataEnd.result (subst (λ (request : Pdu). IsStep IsWriting IsWriting c.args.tables.now c.args.locks.now c.data_end-answer.new.locks c.args.writing setting (messages.Pdu request) c.data_end-answer.result) c.in-DataEnd.is c.data_end-answer.ensures.consequence) c.data_end-answer.ensures.kept c.concluded-in-DataEnd.ensures)

pub returns-in-TransferEndRequest : goal.returns-in-TransferEndRequest
returns-in-TransferEndRequest c =
    let setting = setting_of c.args.setting in
    let request = TransferEndRequest in
    let message = messages.Pdu request in
    let taken = ap (λ (one : Pdu). takes (stage_of_writing c.args.writing) (messages.Pdu one)) (sym c.in-TransferEndRequest.is) ∙ c.requires.taken in
    let unbarred = ap (λ (one : Pdu). first_abort (aborts_of_writing c.args.writing setting.serial (messages.Pdu one))) (sym c.in-TransferEndRequest.is) ∙ c.requires.unbarred in
    subst (λ (one : Pdu). IsTurnOf IsWriting parties.Writing c.args.tables.now c.args.locks.now c.concluded-in-TransferEndRequest.new.locks c.args.writing setting (messages.Pdu one) c.concluded-in-TransferEndRequest.result) (sym c.in-TransferEndRequest.is)
    (step_turn IsWriting IsOpen parties.Writing opened_party (λ self standing is. is) opened_enters
    c.args.tables.now c.args.locks.now c.transfer_end-answer.new.locks c.concluded-in-TransferEndRequest.new.locks c.args.writing setting message (stage_of_writing c.args.writing)
    (λ party is. writing_stage c.args.writing party.link party.history is) taken
    (λ party is. ap first_abort (writing_bars party setting c.args.writing is message taken) ∙ unbarred)
    (λ trace alone. ap (grouping request) alone) refl 35 (λ diagnostic. refl)
    c.transfer_end-answer.result c.concluded-in-TransferEndRequest.result (subst (λ (request : Pdu). IsStep IsWriting IsOpen c.args.tables.now c.args.locks.now c.transfer_end-answer.new.locks c.args.writing setting (messages.Pdu request) c.transfer_end-answer.result) c.in-TransferEndRequest.is c.transfer_end-answer.ensures.consequence) c.transfer_end-answer.ensures.kept c.concluded-in-TransferEndRequest.ensures)

pub returns-in-CancelRequest : goal.returns-in-CancelRequest
returns-in-CancelRequest c =
    let setting = setting_of c.args.setting in
    let request = CancelRequest c.in-CancelRequest.diagnostic in
    let message = messages.Pdu request in
    let taken = ap (λ (one : Pdu). takes (stage_of_writing c.args.writing) (messages.Pdu one)) (sym c.in-CancelRequest.is) ∙ c.requires.taken in
    let unbarred = ap (λ (one : Pdu). first_abort (aborts_of_writing c.args.writing setting.serial (messages.Pdu one))) (sym c.in-CancelRequest.is) ∙ c.requires.unbarred in
    subst (λ (one : Pdu). IsTurnOf IsWriting parties.Writing c.args.tables.now c.args.locks.now c.concluded-in-CancelRequest.new.locks c.args.writing setting (messages.Pdu one) c.concluded-in-CancelRequest.result) (sym c.in-CancelRequest.is)
    (step_turn IsWriting IsOpen parties.Writing opened_party (λ self standing is. is) opened_enters
    c.args.tables.now c.args.locks.now c.cancel-answer.new.locks c.concluded-in-CancelRequest.new.locks c.args.writing setting message (stage_of_writing c.args.writing)
    (λ party is. writing_stage c.args.writing party.link party.history is) taken
    (λ party is. ap first_abort (writing_bars party setting c.args.writing is message taken) ∙ unbarred)
    (λ trace alone. ap (grouping request) alone) refl 37 (λ diagnostic. refl)
    c.cancel-answer.result c.concluded-in-CancelRequest.result (subst (λ (request : Pdu). IsStep IsWriting IsOpen c.args.tables.now c.args.locks.now c.cancel-answer.new.locks c.args.writing setting (messages.Pdu request) c.cancel-answer.result) c.in-CancelRequest.is c.cancel-answer.ensures.consequence) c.cancel-answer.ensures.kept c.concluded-in-CancelRequest.ensures)

pub returns-in-UserAbort : goal.returns-in-UserAbort
returns-in-UserAbort c = λ state party stands histories alone.
    let setting = setting_of c.args.setting in
    let message = messages.Pdu c.args.request in
    let taken = ap (λ stage. takes stage message) (writing_stage c.args.writing party.link party.history alone.represented) ∙ c.requires.taken in
    let unbarred = ap first_abort (writing_bars party setting c.args.writing alone.represented message c.requires.taken) ∙ c.requires.unbarred in
    let decides = unbarred_decides IsWriting parties.Writing c.args.tables.now c.args.locks.now c.args.locks.now c.args.writing setting message state party stands alone taken unbarred
    ∙ ap (λ (one : Pdu). message_decision state party setting (messages.Pdu one)) c.in-UserAbort.is in
    ended_turn IsWriting parties.Writing c.args.tables.now c.args.locks.now c.ended.new.locks c.args.writing setting message state party stands alone.represented
    c.new.result.items c.ended.result Leaves leaves decides
    (ap (met (hearing state party message) (with_message message party) setting message) decides ∙ (λ i. leaves_with (hearing state party message) (with_message message party) (sym c.new.ensures.items i)))
    c.ended.ensures

pub returns-in-ProviderAbort : goal.returns-in-ProviderAbort
returns-in-ProviderAbort c = λ state party stands histories alone.
    let setting = setting_of c.args.setting in
    let message = messages.Pdu c.args.request in
    let taken = ap (λ stage. takes stage message) (writing_stage c.args.writing party.link party.history alone.represented) ∙ c.requires.taken in
    let unbarred = ap first_abort (writing_bars party setting c.args.writing alone.represented message c.requires.taken) ∙ c.requires.unbarred in
    let decides = unbarred_decides IsWriting parties.Writing c.args.tables.now c.args.locks.now c.args.locks.now c.args.writing setting message state party stands alone taken unbarred
    ∙ ap (λ (one : Pdu). message_decision state party setting (messages.Pdu one)) c.in-ProviderAbort.is in
    ended_turn IsWriting parties.Writing c.args.tables.now c.args.locks.now c.ended-in-ProviderAbort.new.locks c.args.writing setting message state party stands alone.represented
    c.new-in-ProviderAbort.result.items c.ended-in-ProviderAbort.result Leaves leaves decides
    (ap (met (hearing state party message) (with_message message party) setting message) decides ∙ (λ i. leaves_with (hearing state party message) (with_message message party) (sym c.new-in-ProviderAbort.ensures.items i)))
    c.ended-in-ProviderAbort.ensures
