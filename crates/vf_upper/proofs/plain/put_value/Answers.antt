use Rattle.std.proofs.Common.{◌≡◌, ℕ, List, [], ◌∷◌, ◌++◌, length, ap, sym, ◌∙◌, rules}
use Rattle.vf_ber.specs.Spelling.{spell}
use Rattle.vf_ber.specs.Tree.{Tree, plain}
use Rattle.vf_ber.specs.Views.{tree_of}
use Rattle.vf_upper.specs.PlainData.{IsPlain}
use Rattle.vf_upper.specs.Written.{pdv_list, universal, user_data}
use Rattle.vf_upper.proofs.PlainStrings.{data_spelled}
use Rattle.vf_upper.proofs.plain.put_value.Goals as goal

pub returns-clause-done : goal.returns-clause-done
returns-clause-done c =
    let context = c.args.carried.now.context in
    let id = c.in-Some.id in
    let class = c.in-Some-class_of.class in
    let octets : List ℕ = c.in-Plain.octets in
    let is : IsPlain context id class (length octets) = record { id_is = search rules; some = search rules; low = search rules; many = search rules; few = search rules } in
    let tree-is : tree_of c.args.carried.now.value ≡ plain (universal class) octets =
    ap tree_of c.in-Plain.is ∙ (λ i. plain (record { class = c.in-Some-class_of.ensures.0 i; number = c.in-Some-class_of.ensures.1 i }) octets) in
    rw (c.in_ok-put_string.ensures.ok, c.as_slice.ensures)
    (ap (λ (o : List ℕ). c.args.out.now.items ++ o) (sym (data_spelled context id class octets is) ∙ ap (λ (tree : Tree). spell (user_data (pdv_list context tree ∷ []))) (sym tree-is)))
