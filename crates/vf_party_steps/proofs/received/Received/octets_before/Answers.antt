use Rattle.std.proofs.Common.{◌≡◌, ℕ, ◌-◌, List, ◌++◌, length, min, take, ap, sym, subst, ◌∙◌, append-nil, arith}
use Rattle.std.proofs.lemmas.List.{take_all}
use Rattle.vf_base.specs.declared.element.Element.{Element}
use Rattle.vf_transfer.proofs.Cuts.{cut_there, length_counts, mark_there, take_least}
use Rattle.vf_transfer.specs.Checks.{Receiver, RepresentsReceived, mark}
use Rattle.vf_transfer.specs.Transfer.{counts_from, joined, standing, survivors}
use Rattle.vf_tree.specs.FileTree.{octets_of_unit}
use Rattle.vf_party_steps.proofs.received.Received.octets_before.Goals as goal

-- what a restart leaves of these values, where so many are before its check
left_of : (closed : List (List Element)) (after values : List Element) (marks : List ℕ) (check n : ℕ) → marks ≡ counts_from 0 closed → values ≡ joined closed ++ after → n ≡ mark (min check (length marks)) marks
    → take (min n (length values)) values ≡ joined (take check closed)
left_of closed after values marks check n marked all counted =
    let long : length marks ≡ length closed = ap length marked ∙ length_counts 0 closed in
    let k = min check (length marks) in
    let number : n ≡ length (joined (take k closed)) = counted ∙ ap (mark k) marked ∙ mark_there k closed (omega (arith, long)) in
    take_least n (length values) values
    ∙ ap (take n) (take_all (length values) values (omega arith))
    ∙ (λ i. take (number i) (all i))
    ∙ cut_there k closed after
    ∙ ap joined (take_least check (length marks) closed ∙ ap (take check) (take_all (length marks) closed (omega (arith, long))))

pub returns : goal.returns
returns c = λ entries represents.
    let receiver = c.self.inside.receiving in
    let kept : RepresentsReceived receiver entries = subst (λ (one : Receiver). RepresentsReceived one entries) (sym c.self.view_is) represents in
    let left = standing 0 entries in
    let check = c.args.check in
    let whole : check - 0 ≡ check = omega arith in
    let count : c.count_before.result ≡ mark (min check (length receiver.checks.marks)) receiver.checks.marks
    = c.count_before.ensures ∙ ap (λ (one : Receiver). mark (min check (length one.checks.marks)) one.checks.marks) (sym c.self.view_is) in
    let stays =
    c.split_at.ensures.front ∙ (λ i. take (c.min.ensures i) c.values-values.result.now)
    ∙ (λ i. take (min c.count_before.result (length (c.values-values.ensures i))) (c.values-values.ensures i))
    ∙ left_of left.closed left.after receiver.values receiver.checks.marks check c.count_before.result
    (kept.checks.marked ∙ (λ i. counts_from 0 (standing (c.self.invariant.0 i) entries).closed)) (kept.values ∙ (λ i. survivors (c.self.invariant.0 i) entries)) count
    ∙ (λ i. joined (take (sym whole i) left.closed))
    ∙ sym (append-nil (joined (take (check - 0) left.closed))) in
    ap octets_of_unit (sym stays) ∙ sym c.in_ok-octets.ensures
