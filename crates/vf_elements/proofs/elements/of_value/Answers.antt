use Rattle.std.proofs.Common.{ap, ◌∙◌, sym, subst, ◌≡◌, true}
use Rattle.vf_ber.specs.declared.value.Value.{Value}
use Rattle.vf_ber.specs.Tree.{Tag, root}
use Rattle.vf_ber.specs.Views.{tag_of, tree_of, trees_in}
use Rattle.vf_elements.specs.ElementFaults.{is_descriptor}
use Rattle.vf_elements.proofs.Descriptors.{meaning_of, fault_of}
use Rattle.vf_elements.proofs.elements.of_value.Goals as goal

pub returns-else-not-is_descriptor-clause-meaning : goal.returns-else-not-is_descriptor-clause-meaning
returns-else-not-is_descriptor-clause-meaning c =
    let same : tag_of c.tag-tag.result ≡ tag_of c.in-Built.tag = c.tag-tag.ensures ∙ ap (λ (v : Value). root (tree_of v)) c.in-Built.is in
    let D : Tag → Type 0 = λ x. is_descriptor x ≡ true in
    let is : is_descriptor (tag_of c.in-Built.tag) ≡ true = subst D same (sym c.is_descriptor.ensures ∙ c.if-not-is_descriptor.false) in
    meaning_of (tree_of c.args.value.now) (tag_of c.in-Built.tag) c.in-Built.parts (trees_in c.as_slice.result.now) c.descriptor_in.result
    (ap tree_of c.in-Built.is) c.as_slice.ensures.values is c.descriptor_in.ensures.read c.descriptor_in.ensures.kind

pub returns-else-not-is_descriptor-clause-faults : goal.returns-else-not-is_descriptor-clause-faults
returns-else-not-is_descriptor-clause-faults c =
    let same : tag_of c.tag-tag.result ≡ tag_of c.in-Built.tag = c.tag-tag.ensures ∙ ap (λ (v : Value). root (tree_of v)) c.in-Built.is in
    let D : Tag → Type 0 = λ x. is_descriptor x ≡ true in
    let is : is_descriptor (tag_of c.in-Built.tag) ≡ true = subst D same (sym c.is_descriptor.ensures ∙ c.if-not-is_descriptor.false) in
    fault_of (tree_of c.args.value.now) (tag_of c.in-Built.tag) c.in-Built.parts (trees_in c.as_slice.result.now) c.descriptor_in.result
    (ap tree_of c.in-Built.is) c.as_slice.ensures.values is c.descriptor_in.ensures.read
