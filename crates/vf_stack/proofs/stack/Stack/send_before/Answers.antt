use Rattle.std.proofs.Common.{ℕ, List, subst, refl, rules, sym, ◌≡◌, ◌++◌}
use Rattle.std.specs.Prelude.{true}
use Rattle.vf_stack.specs.Represents.{Kept}
use Rattle.vf_stack.specs.Sends.{PutsHead}
use Rattle.vf_stack.proofs.StringLemmas.{string-sent}
use Rattle.vf_stack.proofs.stack.Stack.send_before.Goals as goal

pub returns-clause-front : goal.returns-clause-front
returns-clause-front c = λ a rep.
    let inside : Kept = record { transport = c.self.inside.transport; exchange = c.self.inside.exchange } in
    let kept' : Kept = record { transport = c.self.inside.transport; exchange = c.join_data.new.self } in
    let string : List ℕ = c.in-Some.string.now in
    let head : List ℕ = c.put_before.new.head.items in
    let told : PutsHead inside.exchange c.args.request.now string c.new-head.result.items head = rw c.in-Some.is at c.in_ok-string.ensures in
    let puts = subst (λ (before : List ℕ). PutsHead inside.exchange c.args.request.now string before head) c.new-head.ensures.items told in
    let one : c.in_ok-wrap_front.field-0 ≡ true = search rules in
    string-sent inside c.args.self.now kept' a c.args.request.now string head c.args.out.now.items (c.wrap_front.new.out.items ++ string) c.self.view_is rep c.requires.permitted puts
    c.join_data.ensures.joined c.join_data.ensures.end refl (rw c.as_slice.ensures.value at (c.in_ok-wrap_front.ensures.front one string (sym c.len.ensures)))
