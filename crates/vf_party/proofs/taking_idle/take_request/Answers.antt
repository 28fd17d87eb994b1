use Rattle.std.proofs.Common.{subst, sym}
use Rattle.vf_elements.specs.declared.message.Message.TheVariants as messages
use Rattle.vf_party_steps.specs.Represents.{IsAssociated, IsIdle}
use Rattle.vf_party.specs.Settings.{setting_of}
use Rattle.vf_party_steps.specs.Steps.{IsStep}
use Rattle.vf_party.specs.Turns.{IsTurnOf}
use Rattle.vf_party.specs.declared.party.Party.TheVariants as parties
use Rattle.vf_party.proofs.IdleTurns.{idle_turn}
use Rattle.vf_pdu.specs.declared.pdu.Pdu.{Pdu}
use Rattle.vf_pdu.specs.declared.pdu.Pdu.TheVariants.{InitializeRequest}
use Rattle.vf_party.proofs.taking_idle.take_request.Goals as goal

pub returns-in-InitializeRequest : goal.returns-in-InitializeRequest
returns-in-InitializeRequest c =
    let setting = setting_of c.args.setting in
    let asks = c.in-InitializeRequest in
    let request = InitializeRequest asks.units asks.identity asks.password asks.window in
    subst (λ (one : Pdu). IsTurnOf IsIdle parties.Idle c.args.tables.now c.args.locks.now c.associated.new.locks c.args.idle setting (messages.Pdu one) c.associated.result) (sym asks.is)
    (idle_turn c.args.tables.now c.args.locks.now c.initialize-answer.new.locks c.associated.new.locks c.args.idle setting asks.units asks.identity asks.password asks.window
    c.initialize-answer.result c.associated.result
    (subst (λ (one : Pdu). IsStep IsIdle IsAssociated c.args.tables.now c.args.locks.now c.initialize-answer.new.locks c.args.idle setting (messages.Pdu one) c.initialize-answer.result) asks.is c.initialize-answer.ensures.consequence)
    c.initialize-answer.ensures.kept c.associated.ensures)
