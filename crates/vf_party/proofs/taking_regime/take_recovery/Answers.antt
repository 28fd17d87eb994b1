use Rattle.std.proofs.Common.{ap, refl, ◌∙◌}
use Rattle.vf_elements.specs.Stages.{takes}
use Rattle.vf_elements.specs.declared.message.Message.TheVariants as messages
use Rattle.vf_elements.specs.declared.stage.Stage.TheVariants as stages
use Rattle.vf_filestore.specs.Diagnostics.{wrong_state}
use Rattle.vf_filestore.specs.Stage.{grouping}
use Rattle.vf_party.specs.Quiets.{IsQuiet}
use Rattle.vf_party_steps.specs.Recoveries.{IsRecovered}
use Rattle.vf_party_steps.specs.Represents.{IsAssociated}
use Rattle.vf_party.specs.Settings.{setting_of}
use Rattle.vf_party.specs.Turns.{party_of_recovered}
use Rattle.vf_party.specs.declared.party.Party.TheVariants as parties
use Rattle.vf_party.specs.declared.quiet.Quiet.TheVariants as quiets
use Rattle.vf_party.proofs.Bars.{quiet_stage}
use Rattle.vf_party.proofs.Turning.{aborted_turn, associated_alone, associated_enters, associated_party, kept_step_turn, recovered_enters, unbarred_decides}
use Rattle.vf_pdu.specs.declared.pdu.Pdu.TheVariants.{RecoverRequest}
use Rattle.vf_party.proofs.taking_regime.take_recovery.Goals as goal

pub returns-then-not-token : goal.returns-then-not-token
returns-then-not-token c = λ state party stands histories alone.
    let setting = setting_of c.args.setting in
    let message = messages.Pdu (RecoverRequest c.args.activity c.args.number c.args.point) in
    let quiet = quiets.Associated c.args.associated in
    let decides = unbarred_decides IsQuiet parties.Quiet c.args.tables.now c.args.locks.now c.args.locks.now quiet setting message state party stands alone
    (ap (λ stage. takes stage message) (quiet_stage quiet party alone.represented)) refl
    ∙ c.in-Ok.ensures.aborts state party setting stands alone.represented c.if-reads.true c.if-not-token.true in
    aborted_turn IsAssociated associated_party c.args.tables.now c.args.locks.now c.aborted.new.locks c.args.associated setting message state party stands alone.represented
    wrong_state c.aborted.result decides c.aborted.ensures

pub returns : goal.returns
returns c =
    let setting = setting_of c.args.setting in
    let request = RecoverRequest c.args.activity c.args.number c.args.point in
    let message = messages.Pdu request in
    let quiet = quiets.Associated c.args.associated in
    λ state party stands histories alone. kept_step_turn IsAssociated IsRecovered associated_party party_of_recovered associated_enters recovered_enters
    c.args.tables.now c.args.locks.now c.recover-answer.new.locks c.concluded.new.locks c.args.associated setting message stages.Associated
    (λ party is. quiet_stage quiet party is) refl (λ party is. refl)
    (λ trace alone. ap (grouping request) alone) refl 26 (λ diagnostic. refl)
    c.recover-answer.result c.concluded.result c.recover-answer.ensures.consequence c.recover-answer.ensures.kept c.concluded.ensures state party stands histories (associated_alone c.args.associated party alone)
