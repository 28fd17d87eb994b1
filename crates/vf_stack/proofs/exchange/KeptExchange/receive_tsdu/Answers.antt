use Rattle.std.proofs.Common.{◌≡◌, Err, List, ℕ, subst}
use Rattle.vf_session_spdu.specs.Reading.{reading}
use Rattle.vf_stack.specs.Faults.{of_form}
use Rattle.vf_stack.specs.Receiving.{read_received}
use Rattle.vf_stack.specs.Represents.{Receives, Refuses}
use Rattle.vf_stack.proofs.OutcomeLemmas.{on-ok}
use Rattle.vf_stack.proofs.SpduLemmas.{receives-unread}
use Rattle.vf_stack.proofs.exchange.KeptExchange.receive_tsdu.Goals as goal

pub returns-in_ok-told-in-Err : goal.returns-in_ok-told-in-Err
returns-in_ok-told-in-Err c =
    let kept = c.args.self.now in
    let out = c.args.out.now.items in
    let kept2 = c.refuse.new.self in
    let out2 = c.refuse.new.out.items in
    let tsdu = c.args.tsdu.now in
    let fault = c.in-Err.fault in
    let told = c.in_ok-told-in-Err.told in
    let named = c.in_ok-told-in-Err.ensures.ok in
    let N : List ℕ → Type 0 = λ octets. reading octets ≡ Err fault → told ≡ of_form octets fault in
    on-ok c.refuse.result (Refuses kept out told kept2 out2) (Receives kept out (λ own x. read_received own x tsdu (reading tsdu)) kept2 out2) c.refuse.ensures
    (λ r. receives-unread kept kept2 out out2 tsdu fault told named.0 c.in-Err.ensures.exact (subst N c.as_slice-in-Err.ensures named.1) r)
