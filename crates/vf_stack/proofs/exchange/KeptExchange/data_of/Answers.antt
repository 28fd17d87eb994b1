use Rattle.std.proofs.Common.{◌≡◌, ℕ, List, true, ap, subst, sym, ◌∙◌}
use Rattle.vf_session.specs.Units.{user_data}
use Rattle.vf_session.specs.declared.parameters.SayParameters.{SayParameters}
use Rattle.vf_stack.specs.Represents.{standing_of}
use Rattle.vf_stack.specs.Sends.{unit_kept}
use Rattle.vf_stack.proofs.OutcomeLemmas.{if-ok}
use Rattle.vf_stack.proofs.SendLemmas.{is_plain, plain-data, plain-if, resync-data, resynced-data, sequenced}
use Rattle.vf_stack.proofs.exchange.KeptExchange.data_of.Goals as goal

pub returns-in-Resync : goal.returns-in-Resync
returns-in-Resync c =
    let kept = c.args.self.now in
    let request = c.args.request.now in
    let octets = c.in_ok-octets.octets in
    let same = resync-data kept.session.side (standing_of kept) request c.in-Resync.kind c.in-Resync.serial c.in-Resync.token (sym c.requires.unit ∙ c.in-Resync.is) in
    if-ok c.in_sequence.result (λ (made : List ℕ). made ≡ sequenced octets) (λ (made : List ℕ). made ≡ user_data (unit_kept kept request)) c.in_sequence.ensures
    (λ made e. e ∙ ap sequenced c.in_ok-octets.ensures ∙ sym same)

pub returns-in-Resynced : goal.returns-in-Resynced
returns-in-Resynced c =
    let kept = c.args.self.now in
    let request = c.args.request.now in
    let octets = c.in_ok-octets.octets in
    let same = resynced-data kept.session.side (standing_of kept) request c.in-Resynced.serial c.in-Resynced.token (sym c.requires.unit ∙ c.in-Resynced.is) in
    if-ok c.in_sequence-in-Resynced.result (λ (made : List ℕ). made ≡ sequenced octets) (λ (made : List ℕ). made ≡ user_data (unit_kept kept request)) c.in_sequence-in-Resynced.ensures
    (λ made e. e ∙ ap sequenced c.in_ok-octets.ensures ∙ sym same)

pub returns-in_default : goal.returns-in_default
returns-in_default c =
    let kept = c.args.self.now in
    let P : SayParameters → Type 0 = λ p. is_plain p ≡ true in
    let plain = subst P c.requires.unit (plain-if c.args.parameters c.in_default.not-Resync c.in_default.not-Resynced) in
    c.in_ok-octets.ensures ∙ sym (plain-data kept.session.side (standing_of kept) c.args.request.now plain)
