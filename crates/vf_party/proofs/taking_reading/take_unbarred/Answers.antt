use Rattle.std.proofs.Common.{ap, refl, subst, sym, ◌∙◌}
use Rattle.vf_elements.specs.Stages.{takes}
use Rattle.vf_elements.specs.declared.message.Message.{Message}
use Rattle.vf_elements.specs.declared.message.Message.TheVariants as messages
use Rattle.vf_filestore.specs.Aborts.{first_abort}
use Rattle.vf_filestore.specs.Decision.{Leaves, message_decision}
use Rattle.vf_filestore.specs.HoldersAfter.{hearing}
use Rattle.vf_filestore.specs.Transition.{met, with_message}
use Rattle.vf_filestore.specs.Transition.{leaves as leaves_with}
use Rattle.vf_party.specs.Aborting.{aborts_of_reading}
use Rattle.vf_party_steps.specs.Reads.{IsReading, stage_of}
use Rattle.vf_party.specs.Settings.{setting_of}
use Rattle.vf_party.specs.Turns.{IsTurnOf}
use Rattle.vf_party.specs.declared.party.Party.TheVariants as parties
use Rattle.vf_party.proofs.Bars.{reading_bars}
use Rattle.vf_party_steps.proofs.ReadsOn.{reading_stage}
use Rattle.vf_party.proofs.Turning.{ended_turn, leaves, step_turn, unbarred_decides}
use Rattle.vf_party.proofs.taking_reading.take_unbarred.Goals as goal

pub returns-in-Acknowledge : goal.returns-in-Acknowledge
returns-in-Acknowledge c =
    let setting = setting_of c.args.setting in
    let message = messages.Acknowledge c.in-Acknowledge.point in
    let taken = ap (λ (one : Message). takes (stage_of c.args.reading) one) (sym c.in-Acknowledge.is) ∙ c.requires.taken in
    let unbarred = ap (λ (one : Message). first_abort (aborts_of_reading c.args.reading setting.serial one)) (sym c.in-Acknowledge.is) ∙ c.requires.unbarred in
    subst (λ (one : Message). IsTurnOf IsReading parties.Reading c.args.tables.now c.args.locks.now c.concluded.new.locks c.args.reading setting one c.concluded.result) (sym c.in-Acknowledge.is)
    (step_turn IsReading IsReading parties.Reading parties.Reading (λ self standing is. is) (λ self standing is. is)
    c.args.tables.now c.args.locks.now c.acknowledge-answer.new.locks c.concluded.new.locks c.args.reading setting message (stage_of c.args.reading)
    (λ party is. reading_stage c.args.reading party.link party.history is) taken
    (λ party is. ap first_abort (reading_bars party setting c.args.reading is message taken) ∙ unbarred)
    (λ trace alone. alone) refl 32 (λ diagnostic. refl)
    c.acknowledge-answer.result c.concluded.result c.acknowledge-answer.ensures.consequence c.acknowledge-answer.ensures.kept c.concluded.ensures)

pub returns-in-Restart : goal.returns-in-Restart
returns-in-Restart c =
    let setting = setting_of c.args.setting in
    let message = messages.Restart c.in-Restart.point in
    let taken = ap (λ (one : Message). takes (stage_of c.args.reading) one) (sym c.in-Restart.is) ∙ c.requires.taken in
    let unbarred = ap (λ (one : Message). first_abort (aborts_of_reading c.args.reading setting.serial one)) (sym c.in-Restart.is) ∙ c.requires.unbarred in
    subst (λ (one : Message). IsTurnOf IsReading parties.Reading c.args.tables.now c.args.locks.now c.concluded-in-Restart.new.locks c.args.reading setting one c.concluded-in-Restart.result) (sym c.in-Restart.is)
    (step_turn IsReading IsReading parties.Reading parties.Reading (λ self standing is. is) (λ self standing is. is)
    c.args.tables.now c.args.locks.now c.restart-answer.new.locks c.concluded-in-Restart.new.locks c.args.reading setting message (stage_of c.args.reading)
    (λ party is. reading_stage c.args.reading party.link party.history is) taken
    (λ party is. ap first_abort (reading_bars party setting c.args.reading is message taken) ∙ unbarred)
    (λ trace alone. alone) refl 39 (λ diagnostic. refl)
    c.restart-answer.result c.concluded-in-Restart.result c.restart-answer.ensures.session c.restart-answer.ensures.kept c.concluded-in-Restart.ensures)

pub returns : goal.returns
returns c = λ state party stands histories alone.
    let setting = setting_of c.args.setting in
    let message = c.args.message in
    let taken = ap (λ stage. takes stage message) (reading_stage c.args.reading party.link party.history alone.represented) ∙ c.requires.taken in
    let unbarred = ap first_abort (reading_bars party setting c.args.reading alone.represented message c.requires.taken) ∙ c.requires.unbarred in
    let decides = unbarred_decides IsReading parties.Reading c.args.tables.now c.args.locks.now c.args.locks.now c.args.reading setting message state party stands alone taken unbarred
    ∙ ap (λ (one : Message). message_decision state party setting one) c.in-Break.is in
    ended_turn IsReading parties.Reading c.args.tables.now c.args.locks.now c.ended.new.locks c.args.reading setting message state party stands alone.represented
    c.new.result.items c.ended.result Leaves leaves decides
    (ap (met (hearing state party message) (with_message message party) setting message) decides ∙ (λ i. leaves_with (hearing state party message) (with_message message party) (sym c.new.ensures.items i)))
    c.ended.ensures
