use Rattle.std.proofs.Common.{◌≡◌, [], List, false, refl, sym, ◌∙◌, subst}
use Rattle.vf_stack.specs.Association.{is_ended}
use Rattle.vf_stack.specs.Receiving.{piece_received, stopped_by}
use Rattle.vf_stack.specs.Represents.{Feeds, Kept, Listens, Receives, side_of}
use Rattle.vf_stack.proofs.FeedLemmas.{feeds-all}
use Rattle.vf_stack.proofs.OutcomeLemmas.{on-ok}
use Rattle.vf_tpkt.specs.Receiving.{onward}
use Rattle.vf_tpkt.specs.declared.unit.Unit.{Unit as Told}
use Rattle.vf_stack.proofs.stack.Stack.feed_few.Goals as goal

pub returns-clause-received : goal.returns-clause-received
returns-clause-received c a rep =
    let kept = c.args.self.now in
    let kept1 : Kept = record { transport = c.self-2.inside.transport; exchange = c.self-2.inside.exchange } in
    let kept' : Kept = record { transport = c.self-2.inside.transport; exchange = c.stop.new.self } in
    let out = c.args.out.now.items in
    let out2 = c.receive_all.new.out.items in
    let out' = c.stop.new.out.items in
    let answers = c.args.answers.now.items in
    let answers' = c.listen.new.answers.items in
    let units = c.listen.new.units.items in
    let fault = c.in_ok-fault.fault in
    let x2 = c.receive_all.new.self in
    let r = onward kept.transport c.args.piece.now in
    let goes : is_ended kept.exchange.ending ≡ false = sym c.ended.ensures.state ∙ c.if-ended.false in
    let U : List Told → Type 0 = λ before. Listens kept r before answers c.listen.new.self units answers' fault in
    let L : Kept → Type 0 = λ k. Listens kept r [] answers k units answers' fault in
    let listens : L kept1 = subst L (sym c.self-2.view_is) (subst U c.new-units.ensures.items c.in_ok-fault.ensures) in
    on-ok c.stop.result (Receives x2 out2 (λ own x. stopped_by x fault) kept'.exchange out') (Feeds (piece_received (side_of kept) a c.args.piece.now) out answers kept' out' answers') c.stop.ensures
    (λ stop. feeds-all kept kept1 kept' x2 a c.args.piece.now out out2 out' answers answers' units fault rep goes listens c.in_ok-receive_all.ensures refl stop)
