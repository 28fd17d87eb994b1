use Rattle.std.proofs.Common.{◌≡◌, [], ◌∷◌, ◌++◌, List, take, subst, arith}
use Rattle.std.proofs.lemmas.List.{take_all}
use Rattle.vf_base.specs.declared.element.Element.{Element}
use Rattle.vf_party_steps.specs.Recoveries.{IsFilled}
use Rattle.vf_party_steps.proofs.Refilled.{with_check}
use Rattle.vf_party_steps.proofs.recovered_write.take_piece.Goals as goal

pub returns : goal.returns
returns c = λ pieces filled.
    let index = c.loop-element.element-index in
    let all : take index c.args.piece.now ≡ c.args.piece.now = take_all index c.args.piece.now (omega (arith, c.loop-element-test.false)) in
    subst (λ (values : List Element). IsFilled c.check.new.self (pieces ++ values ∷ []) []) all
    (with_check c.loop-element.received c.check.new.self pieces (take index c.args.piece.now) c.in_ok-check.ensures.ok c.in_ok-check.ensures.start (c.loop-element.invariant pieces filled))
