use Rattle.std.proofs.Common.{ap, refl, subst, sym, ◌∙◌}
use Rattle.vf_elements.specs.Stages.{takes}
use Rattle.vf_elements.specs.declared.message.Message.{Message}
use Rattle.vf_elements.specs.declared.message.Message.TheVariants as messages
use Rattle.vf_filestore.specs.Aborts.{first_abort}
use Rattle.vf_filestore.specs.Decision.{Leaves, message_decision}
use Rattle.vf_filestore.specs.HoldersAfter.{hearing}
use Rattle.vf_filestore.specs.Transition.{met, with_message}
use Rattle.vf_filestore.specs.Transition.{leaves as leaves_with}
use Rattle.vf_party.specs.Aborting.{aborts_of_writing}
use Rattle.vf_party_steps.specs.Writes.{IsWriting}
use Rattle.vf_party_steps.specs.Moving.{stage_of_writing}
use Rattle.vf_party.specs.Settings.{setting_of}
use Rattle.vf_party.specs.Turns.{IsTurnOf}
use Rattle.vf_party.specs.declared.party.Party.TheVariants as parties
use Rattle.vf_party.proofs.Bars.{writing_bars, writing_stage}
use Rattle.vf_party.proofs.Turning.{ended_turn, leaves, step_turn, unbarred_decides}
use Rattle.vf_party.proofs.taking_writing.take_unbarred.Goals as goal

pub returns-in-Element : goal.returns-in-Element
returns-in-Element c =
    let setting = setting_of c.args.setting in
    let message = messages.Element c.in-Element.element in
    let taken = ap (λ (one : Message). takes (stage_of_writing c.args.writing) one) (sym c.in-Element.is) ∙ c.requires.taken in
    let unbarred = ap (λ (one : Message). first_abort (aborts_of_writing c.args.writing setting.serial one)) (sym c.in-Element.is) ∙ c.requires.unbarred in
    subst (λ (one : Message). IsTurnOf IsWriting parties.Writing c.args.tables.now c.args.locks.now c.concluded.new.locks c.args.writing setting one c.concluded.result) (sym c.in-Element.is)
    (step_turn IsWriting IsWriting parties.Writing parties.Writing (λ self standing is. is) (λ self standing is. is)
    c.args.tables.now c.args.locks.now c.element-answer.new.locks c.concluded.new.locks c.args.writing setting message (stage_of_writing c.args.writing)
    (λ party is. writing_stage c.args.writing party.link party.history is) taken
    (λ party is. ap first_abort (writing_bars party setting c.args.writing is message taken) ∙ unbarred)
    (λ trace alone. alone) refl 33 (λ diagnostic. refl)
    c.element-answer.result c.concluded.result c.element-answer.ensures.consequence c.element-answer.ensures.kept c.concluded.ensures)

pub returns-in-Check : goal.returns-in-Check
returns-in-Check c =
    let setting = setting_of c.args.setting in
    let message = messages.Check in
    let taken = ap (λ (one : Message). takes (stage_of_writing c.args.writing) one) (sym c.in-Check.is) ∙ c.requires.taken in
    let unbarred = ap (λ (one : Message). first_abort (aborts_of_writing c.args.writing setting.serial one)) (sym c.in-Check.is) ∙ c.requires.unbarred in
    subst (λ (one : Message). IsTurnOf IsWriting parties.Writing c.args.tables.now c.args.locks.now c.concluded-in-Check.new.locks c.args.writing setting one c.concluded-in-Check.result) (sym c.in-Check.is)
    (step_turn IsWriting IsWriting parties.Writing parties.Writing (λ self standing is. is) (λ self standing is. is)
    c.args.tables.now c.args.locks.now c.check-answer.new.locks c.concluded-in-Check.new.locks c.args.writing setting message (stage_of_writing c.args.writing)
    (λ party is. writing_stage c.args.writing party.link party.history is) taken
    (λ party is. ap first_abort (writing_bars party setting c.args.writing is message taken) ∙ unbarred)
    (λ trace alone. alone) refl 33 (λ diagnostic. refl)
    c.check-answer.result c.concluded-in-Check.result c.check-answer.ensures.consequence c.check-answer.ensures.kept c.concluded-in-Check.ensures)

pub returns-in-Restart : goal.returns-in-Restart
returns-in-Restart c =
    let setting = setting_of c.args.setting in
    let message = messages.Restart c.in-Restart.point in
    let taken = ap (λ (one : Message). takes (stage_of_writing c.args.writing) one) (sym c.in-Restart.is) ∙ c.requires.taken in
    let unbarred = ap (λ (one : Message). first_abort (aborts_of_writing c.args.writing setting.serial one)) (sym c.in-Restart.is) ∙ c.requires.unbarred in
    subst (λ (one : Message). IsTurnOf IsWriting parties.Writing c.args.tables.now c.args.locks.now c.concluded-in-Restart.new.locks c.args.writing setting one c.concluded-in-Restart.result) (sym c.in-Restart.is)
    (step_turn IsWriting IsWriting parties.Writing parties.Writing (λ self standing is. is) (λ self standing is. is)
    c.args.tables.now c.args.locks.now c.restart_after-answer.new.locks c.concluded-in-Restart.new.locks c.args.writing setting message (stage_of_writing c.args.writing)
    (λ party is. writing_stage c.args.writing party.link party.history is) taken
    (λ party is. ap first_abort (writing_bars party setting c.args.writing is message taken) ∙ unbarred)
    (λ trace alone. alone) refl 39 (λ diagnostic. refl)
    c.restart_after-answer.result c.concluded-in-Restart.result c.restart_after-answer.ensures.consequence c.restart_after-answer.ensures.kept c.concluded-in-Restart.ensures)

pub returns : goal.returns
returns c = λ state party stands histories alone.
    let setting = setting_of c.args.setting in
    let message = c.args.message in
    let taken = ap (λ stage. takes stage message) (writing_stage c.args.writing party.link party.history alone.represented) ∙ c.requires.taken in
    let unbarred = ap first_abort (writing_bars party setting c.args.writing alone.represented message c.requires.taken) ∙ c.requires.unbarred in
    let decides = unbarred_decides IsWriting parties.Writing c.args.tables.now c.args.locks.now c.args.locks.now c.args.writing setting message state party stands alone taken unbarred
    ∙ ap (λ (one : Message). message_decision state party setting one) c.in-Break.is in
    ended_turn IsWriting parties.Writing c.args.tables.now c.args.locks.now c.ended.new.locks c.args.writing setting message state party stands alone.represented
    c.new.result.items c.ended.result Leaves leaves decides
    (ap (met (hearing state party message) (with_message message party) setting message) decides ∙ (λ i. leaves_with (hearing state party message) (with_message message party) (sym c.new.ensures.items i)))
    c.ended.ensures
