use Rattle.std.proofs.Common.{[], ◌∷◌, rules, subst, sym}
use Rattle.std.specs.Prelude.{ℤ}
use Rattle.vf_elements.specs.ElementValue.{value}
use Rattle.vf_upper.specs.CarriedCode.{Carried}
use Rattle.vf_upper.specs.Laws.{Measures, in_context}
use Rattle.vf_upper.specs.declared.primitive.Primitive.TheVariants.{Data}
use Rattle.vf_stack.proofs.CountLemmas.{element-is, element-long, handed}
use Rattle.vf_stack.proofs.PduLemmas.{element-shallow}
use Rattle.vf_stack.proofs.may.element_octets.Goals as goal
use mir.Syntax.{w64}
use mir.Val.{SFits}

pub returns-in-Some : goal.returns-in-Some
returns-in-Some c =
    let element = c.args.element.now in
    let contexts = c.args.contexts.now in
    let P : ℤ → Type 0 = λ id. Measures (Data (in_context id (value element) ∷ [])) contexts c.data_length.result in
    let V : Carried → Type 0 = λ v. Measures (Data (v ∷ [])) contexts c.data_length.result in
    let fits : SFits w64 c.element_id.result = search rules in
    subst V (element-is contexts element)
    (subst P c.element_id.ensures (handed P c.element_id.result fits (c.data_length.ensures (value element) contexts (element-shallow element) (sym c.in-Some.ensures))))

pub returns-in-None : goal.returns-in-None
returns-in-None c = element-long c.args.contexts.now c.args.element.now c.in-None.ensures
