use Rattle.std.proofs.Common.{◌≡◌, ℕ, List, ◌++◌, length, append_assoc, ap, sym, subst, ◌∙◌, rules}
use Rattle.vf_upper.specs.PlainData.{IsPlain, front}
use Rattle.vf_upper.proofs.PlainStrings.{data_spelled}
use Rattle.vf_upper.proofs.plain.put_front.Goals as goal

pub returns-clause-done : goal.returns-clause-done
returns-clause-done c = λ octets e.
    let id = c.in-Some.id in
    let before = c.args.out.now.items in
    let is : IsPlain c.args.context id c.args.class c.args.count = record { id_is = search rules; some = search rules; low = search rules; many = search rules; few = search rules } in
    let spelled = data_spelled c.args.context id c.args.class octets (subst (λ (n : ℕ). IsPlain c.args.context id c.args.class n) (sym e) is) in
    rw (c.in_ok-extend_from_slice.ensures.items, c.front.ensures)
    (append_assoc before (front id c.args.class c.args.count) octets ∙ ap (λ (n : ℕ). before ++ (front id c.args.class n ++ octets)) (sym e) ∙ ap (λ (o : List ℕ). before ++ o) (sym spelled))
