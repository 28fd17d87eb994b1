use Rattle.std.proofs.Common.{ℕ, ap, refl, ◌∙◌}
use Rattle.vf_elements.specs.declared.message.Message.TheVariants as messages
use Rattle.vf_elements.specs.declared.stage.Stage.TheVariants as stages
use Rattle.vf_filestore.specs.Aborts.{first_abort}
use Rattle.vf_filestore.specs.Stage.{grouping}
use Rattle.vf_party_steps.specs.Represents.{IsOpen}
use Rattle.vf_party_steps.specs.Reads.{IsReading}
use Rattle.vf_party.specs.Settings.{setting_of}
use Rattle.vf_party_steps.specs.Writes.{IsWriting}
use Rattle.vf_party.specs.declared.party.Party.TheVariants as parties
use Rattle.vf_party.specs.declared.quiet.Quiet.TheVariants as quiets
use Rattle.vf_pdu.specs.PduNumbers.{number_of}
use Rattle.vf_party.specs.Refusals.{refusal_numbered}
use Rattle.vf_party.proofs.Bars.{begins_none, no_begin, quiet_bars, quiet_stage, unassociating}
use Rattle.vf_party.proofs.Refused.{refused_by_number}
use Rattle.vf_party.proofs.Turning.{opened_alone, opened_enters, opened_party, step_turn}
use Rattle.vf_party.proofs.taking_regime.take_open.Goals as goal

pub returns-in-LocateRequest : goal.returns-in-LocateRequest
returns-in-LocateRequest c =
    let regimes = quiets.Open c.args.regimes in
    λ state party stands histories alone. step_turn IsOpen IsOpen opened_party opened_party opened_enters opened_enters
    c.args.tables.now c.args.locks.now c.locate-answer.new.locks c.concluded.new.locks c.args.regimes (setting_of c.args.setting) (messages.Pdu c.args.request) stages.Opened
    (λ party is. quiet_stage regimes party is) c.requires.taken
    (λ party is. ap first_abort (quiet_bars party (setting_of c.args.setting) regimes c.args.request is c.requires.taken) ∙ c.requires.unbarred)
    (λ trace alone. ap (grouping c.args.request) alone ∙ begins_none c.args.request (no_begin c.args.request c.requires.single)) (unassociating c.args.request stages.Opened refl c.requires.taken)
    28 (λ diagnostic. refused_by_number diagnostic c.args.request ∙ ap (λ (n : ℕ). refusal_numbered n diagnostic) (ap number_of c.in-LocateRequest.is))
    c.locate-answer.result c.concluded.result c.locate-answer.ensures.consequence c.locate-answer.ensures.kept c.concluded.ensures state party stands histories (opened_alone c.args.regimes party alone)

pub returns-in-EraseRequest : goal.returns-in-EraseRequest
returns-in-EraseRequest c =
    let regimes = quiets.Open c.args.regimes in
    λ state party stands histories alone. step_turn IsOpen IsOpen opened_party opened_party opened_enters opened_enters
    c.args.tables.now c.args.locks.now c.erase-answer.new.locks c.concluded-in-EraseRequest.new.locks c.args.regimes (setting_of c.args.setting) (messages.Pdu c.args.request) stages.Opened
    (λ party is. quiet_stage regimes party is) c.requires.taken
    (λ party is. ap first_abort (quiet_bars party (setting_of c.args.setting) regimes c.args.request is c.requires.taken) ∙ c.requires.unbarred)
    (λ trace alone. ap (grouping c.args.request) alone ∙ begins_none c.args.request (no_begin c.args.request c.requires.single)) (unassociating c.args.request stages.Opened refl c.requires.taken)
    30 (λ diagnostic. refused_by_number diagnostic c.args.request ∙ ap (λ (n : ℕ). refusal_numbered n diagnostic) (ap number_of c.in-EraseRequest.is))
    c.erase-answer.result c.concluded-in-EraseRequest.result c.erase-answer.ensures.consequence c.erase-answer.ensures.kept c.concluded-in-EraseRequest.ensures state party stands histories (opened_alone c.args.regimes party alone)

pub returns-in-ReadRequest : goal.returns-in-ReadRequest
returns-in-ReadRequest c =
    let regimes = quiets.Open c.args.regimes in
    λ state party stands histories alone. step_turn IsOpen IsReading opened_party parties.Reading opened_enters (λ self standing is. is)
    c.args.tables.now c.args.locks.now c.read-answer.new.locks c.concluded-in-ReadRequest.new.locks c.args.regimes (setting_of c.args.setting) (messages.Pdu c.args.request) stages.Opened
    (λ party is. quiet_stage regimes party is) c.requires.taken
    (λ party is. ap first_abort (quiet_bars party (setting_of c.args.setting) regimes c.args.request is c.requires.taken) ∙ c.requires.unbarred)
    (λ trace alone. ap (grouping c.args.request) alone ∙ begins_none c.args.request (no_begin c.args.request c.requires.single)) (unassociating c.args.request stages.Opened refl c.requires.taken)
    32 (λ diagnostic. refused_by_number diagnostic c.args.request ∙ ap (λ (n : ℕ). refusal_numbered n diagnostic) (ap number_of c.in-ReadRequest.is))
    c.read-answer.result c.concluded-in-ReadRequest.result c.read-answer.ensures.consequence c.read-answer.ensures.kept c.concluded-in-ReadRequest.ensures state party stands histories (opened_alone c.args.regimes party alone)

pub returns-in-WriteRequest : goal.returns-in-WriteRequest
returns-in-WriteRequest c =
    let regimes = quiets.Open c.args.regimes in
    λ state party stands histories alone. step_turn IsOpen IsWriting opened_party parties.Writing opened_enters (λ self standing is. is)
    c.args.tables.now c.args.locks.now c.write-answer.new.locks c.concluded-in-WriteRequest.new.locks c.args.regimes (setting_of c.args.setting) (messages.Pdu c.args.request) stages.Opened
    (λ party is. quiet_stage regimes party is) c.requires.taken
    (λ party is. ap first_abort (quiet_bars party (setting_of c.args.setting) regimes c.args.request is c.requires.taken) ∙ c.requires.unbarred)
    (λ trace alone. ap (grouping c.args.request) alone ∙ begins_none c.args.request (no_begin c.args.request c.requires.single)) (unassociating c.args.request stages.Opened refl c.requires.taken)
    33 (λ diagnostic. refused_by_number diagnostic c.args.request ∙ ap (λ (n : ℕ). refusal_numbered n diagnostic) (ap number_of c.in-WriteRequest.is))
    c.write-answer.result c.concluded-in-WriteRequest.result c.write-answer.ensures.consequence c.write-answer.ensures.kept c.concluded-in-WriteRequest.ensures state party stands histories (opened_alone c.args.regimes party alone)
