use Rattle.std.proofs.Common.{◌≡◌, ℕ, true, List, [], ◌∷◌, ◌++◌, ap, subst, sym, ◌∙◌, rules}
use Rattle.std.specs.Prelude.{Bool}
use Rattle.std.proofs.lemmas.Int.{to_z-of_z}
use mir.Syntax.{w64}
use mir.Val.{SFits}
use Rattle.vf_ber.specs.Spelling.{spell}
use Rattle.vf_stack.specs.Requests.{element_carried}
use Rattle.vf_stack.proofs.StringLemmas.{string-put}
use Rattle.vf_stack.proofs.exchange.KeptExchange.put_before.Goals as goal
use Rattle.vf_upper.specs.PlainData.{PutsFront, string_data}
use Rattle.vf_upper.specs.declared.contexts.ContextEntry.{ContextEntry}

pub returns-then-branch : goal.returns-then-branch
returns-then-branch c =
    let element = c.in-Some.element.now in
    let class = c.in-Some-string_of.class in
    let string : List ℕ = c.in-Some-string_of.octets.now in
    let context = c.element_id-context.result in
    let before : List ℕ = c.args.head.now.items in
    let middle : List ℕ = c.extend_from_slice.new.self.items in
    let after : List ℕ = c.put_front.new.out.items in
    let P : Bool → Type 0 = λ done. PutsFront context class c.len.result done middle after in
    let fits : SFits w64 context = search rules in
    let done : P c.in_ok-put_front.field-0 = rw (to_z-of_z w64 context fits) at c.in_ok-put_front.ensures.done in
    let front : P true = subst P c.if-branch.true done in
    let put = front string (sym c.len.ensures) in
    let middle-is : middle ≡ before ++ 1 ∷ 0 ∷ 1 ∷ 0 ∷ [] =
    c.in_ok-extend_from_slice.ensures.items ∙ ap (λ (o : List ℕ). o ++ 1 ∷ 0 ∷ 1 ∷ 0 ∷ []) c.in_ok-reserve.ensures.items in
    let context-is = c.element_id-context.ensures ∙ ap (λ (contexts : List ContextEntry). (element_carried contexts element).context) c.as_slice.ensures in
    string-put c.args.self.now c.args.request.now element class context string before after c.in-Some.ensures c.in-Some-string_of.ensures context-is
    (put ∙ ap (λ (o : List ℕ). o ++ spell (string_data context class string)) middle-is)
