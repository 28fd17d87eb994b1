use Rattle.std.proofs.Common.{◌≡◌, ℕ, zero, suc, ◌-◌, List, [], ◌∷◌, ◌++◌, length, min, take, drop, refl, ap, sym, subst, ◌∙◌, append_assoc, length-append, arith}
use Rattle.std.proofs.lemmas.List.{take_all, take-append-le}
use Rattle.vf_base.specs.declared.element.Element.{Element}
use Rattle.vf_transfer.specs.Checks.{Receiver, RepresentsReceived}
use Rattle.vf_transfer.specs.Transfer.{front, joined, point, standing}
use Rattle.vf_party_steps.proofs.received.Received.front.Goals as goal

parts : (k : ℕ) (closed : List (List Element)) → joined closed ≡ joined (take k closed) ++ joined (drop k closed)
parts zero closed = refl
parts (suc k) [] = refl
parts (suc k) (values ∷ closed) = ap (λ (all : List Element). values ++ all) (parts k closed) ∙ sym (append_assoc values (joined (take k closed)) (joined (drop k closed)))

first_of : (first later values : List Element) (n : ℕ) → values ≡ first ++ later → n ≡ length first → take (min n (length values)) values ≡ first
first_of first later values n is counted =
    let least : min n (length values) ≡ length first = omega (arith, counted, ap length is, length-append first later) in
    ap (λ m. take m values) least ∙ ap (take (length first)) is ∙ take-append-le (length first) first later (omega arith) ∙ take_all (length first) first (omega arith)

pub returns : goal.returns
returns c = λ entries represents.
    let receiver = c.self.inside.receiving in
    let kept : RepresentsReceived receiver entries = subst (λ (one : Receiver). RepresentsReceived one entries) (sym c.self.view_is) represents in
    let start = receiver.checks.start in
    let left = standing start entries in
    let k = point start entries - start in
    c.split_at.ensures.front ∙ (λ i. take (c.min.ensures i) c.values-values.result.now)
    ∙ (λ i. take (min c.front.result (length (c.values-values.ensures i))) (c.values-values.ensures i))
    ∙ first_of (joined (take k left.closed)) (joined (drop k left.closed) ++ left.after) receiver.values c.front.result
    (kept.values ∙ ap (λ (all : List Element). all ++ left.after) (parts k left.closed) ∙ append_assoc (joined (take k left.closed)) (joined (drop k left.closed)) left.after)
    (c.front.ensures entries kept)
    ∙ (λ i. front (c.self.invariant.0 i) entries)
