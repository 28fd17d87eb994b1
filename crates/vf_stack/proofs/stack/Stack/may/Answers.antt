use Rattle.std.proofs.Common.{subst, sym, ◌∙◌}
use Rattle.std.specs.Prelude.{IsTrue}
use Rattle.vf_stack.specs.Represents.{Kept, side_of, standing_of}
use Rattle.vf_stack.specs.Sending.{IsSendable}
use Rattle.vf_stack.specs.Sends.{IsPermitted, unit_kept}
use Rattle.vf_stack.proofs.MayLemmas.{may-associated}
use Rattle.vf_stack.proofs.stack.Stack.may.Goals as goal
use Rattle.vf_tpkt.specs.Sending.{stands}

pub returns-then-stands-clause-association : goal.returns-then-stands-clause-association
returns-then-stands-clause-association c a rep =
    let kept : Kept = c.args.self.now in
    let request = c.args.request.now in
    let T : Kept → Type 0 = λ k. IsTrue (stands k.transport) in
    let M : Kept → Type 0 = λ k.
    (IsTrue c.may.result → IsPermitted k.exchange (unit_kept k.exchange request) × IsSendable (side_of k) (standing_of k.exchange) request)
    × (IsPermitted k.exchange (unit_kept k.exchange request) × IsSendable (side_of k) (standing_of k.exchange) request → IsTrue c.may.result) in
    may-associated kept a request c.may.result rep (subst T c.self.view_is (sym c.stands.ensures ∙ c.if-stands.true)) (subst M c.self.view_is c.may.ensures)
