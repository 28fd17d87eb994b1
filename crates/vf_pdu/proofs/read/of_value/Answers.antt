use Rattle.std.proofs.Common.{◌≡◌, ◌≤◌, ap, refl, arith}
use Rattle.vf_ber.specs.Views.{tag_of, tree_of, trees_in}
use Rattle.vf_pdu_fields.specs.Meaning.{context}
use Rattle.vf_pdu.proofs.Answering.{meaning_of, fault_of, ok_in_range}
use Rattle.vf_pdu.proofs.Found.{found_of}
use Rattle.vf_pdu_fields.proofs.Plain.{tag_is}
use Rattle.vf_pdu.proofs.read.of_value.Goals as goal

pub returns-clause-meaning : goal.returns-clause-meaning
returns-clause-meaning c =
    let class : c.in-Built.tag.class ≡ 2 = grind (arith, c.if-tag-ne2.false) in
    let tag : tag_of c.in-Built.tag ≡ context c.in-Built.tag.number = tag_is (tag_of c.in-Built.tag) 2 c.in-Built.tag.number class refl in
    meaning_of (tree_of c.args.value.now) (tag_of c.in-Built.tag) c.in-Built.parts (trees_in c.as_slice.result.now) c.in-Built.tag.number c.read_fields.result
    (ap tree_of c.in-Built.is) c.as_slice.ensures.values tag c.read_fields.ensures

pub returns-clause-range : goal.returns-clause-range
returns-clause-range c =
    let class : c.in-Built.tag.class ≡ 2 = grind (arith, c.if-tag-ne2.false) in
    let tag : tag_of c.in-Built.tag ≡ context c.in-Built.tag.number = tag_is (tag_of c.in-Built.tag) 2 c.in-Built.tag.number class refl in
    ok_in_range (tree_of c.args.value.now) c.read_fields.result
    (meaning_of (tree_of c.args.value.now) (tag_of c.in-Built.tag) c.in-Built.parts (trees_in c.as_slice.result.now) c.in-Built.tag.number c.read_fields.result
    (ap tree_of c.in-Built.is) c.as_slice.ensures.values tag c.read_fields.ensures)

pub returns-clause-faults : goal.returns-clause-faults
returns-clause-faults c =
    let class : c.in-Built.tag.class ≡ 2 = grind (arith, c.if-tag-ne2.false) in
    let tag : tag_of c.in-Built.tag ≡ context c.in-Built.tag.number = tag_is (tag_of c.in-Built.tag) 2 c.in-Built.tag.number class refl in
    let known : c.in-Built.tag.number ≤ 40 = grind (arith, c.if-tag-gt40.false) in
    fault_of (tree_of c.args.value.now) (tag_of c.in-Built.tag) c.in-Built.parts (trees_in c.as_slice.result.now) c.in-Built.tag.number c.read_fields.result
    (ap tree_of c.in-Built.is) c.as_slice.ensures.values tag known c.read_fields.ensures

pub returns-clause-read : goal.returns-clause-read
returns-clause-read c =
    let class : c.in-Built.tag.class ≡ 2 = grind (arith, c.if-tag-ne2.false) in
    let tag : tag_of c.in-Built.tag ≡ context c.in-Built.tag.number = tag_is (tag_of c.in-Built.tag) 2 c.in-Built.tag.number class refl in
    let known : c.in-Built.tag.number ≤ 40 = grind (arith, c.if-tag-gt40.false) in
    found_of (tree_of c.args.value.now) (tag_of c.in-Built.tag) c.in-Built.parts (trees_in c.as_slice.result.now) c.in-Built.tag.number c.read_fields.result
    (ap tree_of c.in-Built.is) c.as_slice.ensures.values tag known c.read_fields.ensures
