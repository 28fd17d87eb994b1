use Rattle.std.proofs.Common.{◌≡◌, ◌≤◌, length, subst, arith}
use Rattle.std.proofs.lemmas.Grind.{common_steps}
use Rattle.vf_stack.specs.Represents.{Kept}
use Rattle.vf_tpkt.specs.Wanting.{TellsOnce}
use Rattle.vf_stack.proofs.OnwardLemmas.{feeds-few, feeds-rest}
use Rattle.vf_stack.proofs.stack.Stack.feed.Goals as goal

pub loop-rest-preserved : goal.loop-rest-preserved
loop-rest-preserved c =
    let some : 1 ≤ c.min.result = grind (arith, common_steps) in
    let few : c.min.result ≤ c.wanted-wanted.result = grind (arith, common_steps) in
    let T : Kept → Type 0 = λ k. TellsOnce k.transport c.wanted-wanted.result in
    let once : T c.loop-rest.self = subst T c.self.view_is c.wanted-wanted.ensures.once in
    feeds-few c.args.self.now c.loop-rest.self c.feed_few.new.self c.wanted-wanted.result c.min.result c.args.out.now.items c.loop-rest.out.items c.feed_few.new.out.items c.args.answers.now.items c.loop-rest.answers.items c.feed_few.new.answers.items c.args.piece.now c.loop-rest.rest.now c.split_at.result.0.now c.split_at.result.1.now some few c.split_at.ensures.front_len c.split_at.ensures.front c.split_at.ensures.back c.loop-rest.invariant c.in_ok-feed_few.ensures.end once c.in_ok-feed_few.ensures.received

pub returns : goal.returns
returns c =
    let none : length c.loop-rest.rest.now ≡ 0 = grind (arith, common_steps) in
    record {
      received = feeds-rest c.args.self.now c.loop-rest.self c.args.out.now.items c.loop-rest.out.items c.args.answers.now.items c.loop-rest.answers.items c.args.piece.now c.loop-rest.rest.now none c.loop-rest.invariant;
      end = c.loop-rest.invariant.0;
    }
