use Rattle.std.proofs.Common.{◌≡◌, ◌==◌, ◌||◌, ℕ, true, [], ap, sym, ◌∙◌}
use Rattle.vf_elements.specs.Stages.{takes}
use Rattle.vf_elements.specs.declared.message.Message.TheVariants as messages
use Rattle.vf_filestore.specs.Aborts.{first_abort}
use Rattle.vf_filestore.specs.Decision.{Leaves}
use Rattle.vf_filestore.specs.HoldersAfter.{hearing}
use Rattle.vf_filestore.specs.Stage.{grouping}
use Rattle.vf_filestore.specs.Transition.{met, with_message}
use Rattle.vf_party.specs.Hearing.{outcome_in, turn_in}
use Rattle.vf_party.specs.Items.{is_item}
use Rattle.vf_party.specs.Quiets.{IsQuiet, stage_of}
use Rattle.vf_party.specs.Refusals.{refusal_numbered}
use Rattle.vf_party.specs.Settings.{setting_of}
use Rattle.vf_party.specs.declared.party.Party.TheVariants as parties
use Rattle.vf_party.proofs.Bars.{begins_none, item_begins_none, leaving_decides, quiet_bars, quiet_stage, quiet_stays, unassociating}
use Rattle.vf_party.proofs.Refused.{refused_by_number}
use Rattle.vf_party.proofs.Turning.{barred_turn, ended_turn, leaves, step_turn, unbarred_decides}
use Rattle.vf_party.proofs.taking_quiet.take_request.Goals as goal

pub returns-in-Some : goal.returns-in-Some
returns-in-Some c = λ state party stands histories alone.
    let message = messages.Pdu c.args.request in
    barred_turn IsQuiet parties.Quiet c.args.tables.now c.args.locks.now c.abort_quiet.new.locks c.args.quiet (setting_of c.args.setting) message state party stands alone c.in-Some.number (turn_in c.abort_quiet.new.party c.abort_quiet.result)
    (ap (λ stage. takes stage message) (quiet_stage c.args.quiet party alone.represented) ∙ c.requires)
    (ap first_abort (quiet_bars party (setting_of c.args.setting) c.args.quiet c.args.request alone.represented c.requires) ∙ sym c.aborted_in_quiet-bar.ensures ∙ c.in-Some.is) c.abort_quiet.ensures

pub take_item-answer-requires-clause-item : goal.take_item-answer-requires-clause-item
take_item-answer-requires-clause-item c = sym c.is_item-is_item.ensures ∙ c.if-is_item.true

pub take_item-answer-requires-clause-taken : goal.take_item-answer-requires-clause-taken
take_item-answer-requires-clause-taken c = c.requires

pub take_other-requires-clause-taken : goal.take_other-requires-clause-taken
take_other-requires-clause-taken c = c.requires

pub take_other-requires-clause-item : goal.take_other-requires-clause-item
take_other-requires-clause-item c = sym c.is_item-is_item.ensures ∙ c.if-is_item.false

pub take_other-requires-clause-stays : goal.take_other-requires-clause-stays
take_other-requires-clause-stays c = (λ i. sym c.number-number.ensures i == 4 || sym c.number-number.ensures i == 5) ∙ sym c.is_leaving.ensures ∙ c.if-is_leaving.false

pub take_other-requires-clause-unbarred : goal.take_other-requires-clause-unbarred
take_other-requires-clause-unbarred c = sym c.aborted_in_quiet-bar.ensures ∙ c.in_default.is

pub returns : goal.returns
returns c = c.take_other.ensures

pub returns-then-is_item : goal.returns-then-is_item
returns-then-is_item c =
    let item : is_item c.args.request ≡ true = sym c.is_item-is_item.ensures ∙ c.if-is_item.true in
    step_turn IsQuiet IsQuiet parties.Quiet parties.Quiet (λ self standing is. is) (λ self standing is. is)
    c.args.tables.now c.args.locks.now c.take_item-answer.new.locks c.conclude.new.locks c.args.quiet (setting_of c.args.setting) (messages.Pdu c.args.request) (stage_of c.args.quiet)
    (λ party is. quiet_stage c.args.quiet party is) c.requires
    (λ party is. ap first_abort (quiet_bars party (setting_of c.args.setting) c.args.quiet c.args.request is c.requires) ∙ sym c.aborted_in_quiet-bar.ensures ∙ c.in_default.is)
    (λ trace alone. ap (grouping c.args.request) alone ∙ begins_none c.args.request (item_begins_none c.args.request item)) (unassociating c.args.request (stage_of c.args.quiet) (quiet_stays c.args.quiet) c.requires)
    c.number-number.result (λ diagnostic. refused_by_number diagnostic c.args.request ∙ ap (λ (n : ℕ). refusal_numbered n diagnostic) (sym c.number-number.ensures))
    c.take_item-answer.result (turn_in c.conclude.new.party c.conclude.result) c.take_item-answer.ensures.consequence c.take_item-answer.ensures.kept c.conclude.ensures

pub returns-then-is_leaving : goal.returns-then-is_leaving
returns-then-is_leaving c = λ state party stands histories alone.
    let setting = setting_of c.args.setting in
    let message = messages.Pdu c.args.request in
    let taken = ap (λ stage. takes stage message) (quiet_stage c.args.quiet party alone.represented) ∙ c.requires in
    let unbarred = ap first_abort (quiet_bars party setting c.args.quiet c.args.request alone.represented c.requires) ∙ sym c.aborted_in_quiet-bar.ensures ∙ c.in_default.is in
    let decides = unbarred_decides IsQuiet parties.Quiet c.args.tables.now c.args.locks.now c.args.locks.now c.args.quiet setting message state party stands alone taken unbarred
    ∙ leaving_decides state party setting c.args.request ((λ i. sym c.number-number.ensures i == 4 || sym c.number-number.ensures i == 5) ∙ sym c.is_leaving.ensures ∙ c.if-is_leaving.true) in
    ended_turn IsQuiet parties.Quiet c.args.tables.now c.args.locks.now c.end_quiet.new.locks c.args.quiet setting message state party stands alone.represented
    [] (outcome_in c.args.party.now c.end_quiet.result) Leaves leaves decides
    (ap (met (hearing state party message) (with_message message party) setting message) decides)
    (c.end_quiet.ensures c.args.party.now)
