use Rattle.std.proofs.Common.{List, [], ◌∷◌, ap, subst}
use Rattle.vf_stack.specs.Lengths.{needs_length}
use Rattle.vf_stack.specs.Requests.{element_carried}
use Rattle.vf_stack.specs.declared.indication.Item.{Item as ItemOf}
use Rattle.vf_stack.specs.declared.request.Request.TheVariants.{Item}
use Rattle.vf_upper.specs.Laws.{Measures}
use Rattle.vf_upper.specs.declared.contexts.ContextEntry.{ContextEntry}
use Rattle.vf_upper.specs.declared.primitive.Primitive.TheVariants.{Data}
use Rattle.vf_stack.proofs.CountLemmas.{element-request, few-counts}
use Rattle.vf_stack.proofs.exchange.KeptExchange.item_in.Goals as goal

pub returns-in-Element : goal.returns-in-Element
returns-in-Element c =
    let kept = c.args.self.now in
    let element = c.in-Element.element in
    let K : List ContextEntry → Type 0 = λ contexts. Measures (Data (element_carried contexts element ∷ [])) contexts c.element_octets.result in
    element-request kept (Item c.args.item.now) element c.element_octets.result (ap (λ (i : ItemOf). Item i) c.in-Element.is) c.requires.placed
    (subst K c.as_slice-contexts.ensures c.element_octets.ensures)

pub returns-in-Pdu : goal.returns-in-Pdu
returns-in-Pdu c = few-counts c.args.self.now (Item c.args.item.now) c.requires.carried c.requires.placed (ap (λ (i : ItemOf). needs_length (Item i)) c.in-Pdu.is)
