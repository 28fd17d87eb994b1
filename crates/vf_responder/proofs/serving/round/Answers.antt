use Rattle.std.proofs.Common.{ℕ, List, [], sym, subst}
use Rattle.std.proofs.lemmas.Result.{err_from_is_err_and}
use Rattle.vf_responder.proofs.Rounds.{goes_round, stops_with}
use Rattle.vf_responder.specs.Represents.{Answers}
use Rattle.vf_responder.specs.Run.{trail}
use Rattle.vf_responder.specs.Sends.{SendsAll}
use Rattle.vf_responder.specs.declared.event.Reply.{Reply}
use Rattle.vf_responder.proofs.serving.round.Goals as goal

pub returns-in_err-answer-clause-round : goal.returns-in_err-answer-clause-round
returns-in_err-answer-clause-round g c = λ meant traffic serving event told represents fresh.
    stops_with g.D.Disk.shown g.D.Disk.may_leave g.D.Disk.moment g.D.Disk.left_since g.met.D.Disk.only_now c.from_residual.result meant serving _ _ traffic _
    c.from_residual.ensures.0 told (c.answer.ensures.any_moment meant event serving represents)

pub returns-in_err-lost-clause-round : goal.returns-in_err-lost-clause-round
returns-in_err-lost-clause-round g c = λ meant traffic serving event told represents fresh.
    stops_with g.D.Disk.shown g.D.Disk.may_leave g.D.Disk.moment g.D.Disk.left_since g.met.D.Disk.only_now c.from_residual-in_err-lost.result meant serving _ _ traffic _
    c.from_residual-in_err-lost.ensures.0 told (c.answer.ensures.any_moment meant event serving represents)

pub returns-clause-round : goal.returns-clause-round
returns-clause-round g c = λ meant traffic serving event told represents fresh.
    let lost : List ℕ = c.as_slice-2.result.now in
    let answers : Answers (trail meant serving) serving [] c.answer.new.responder c.answer.new.replies.items =
    subst (λ (replies : List Reply). Answers (trail meant serving) serving replies c.answer.new.responder c.answer.new.replies.items) c.new-replies.ensures.items
    (c.in_ok-answer.ensures.answers meant event serving represents) in
    let sends : SendsAll (g.L.Links.told c.args.links.now) (g.L.Links.told c.send_all.new.links) c.answer.new.replies.items lost =
    subst (λ (lost : List ℕ). SendsAll (g.L.Links.told c.args.links.now) (g.L.Links.told c.send_all.new.links) c.answer.new.replies.items lost) (sym c.as_slice-2.ensures.value)
    (subst (λ (replies : List Reply). SendsAll (g.L.Links.told c.args.links.now) (g.L.Links.told c.send_all.new.links) replies c.send_all.new.lost.items) c.as_slice.ensures.value c.send_all.ensures.sends) in
    goes_round g.D.Disk.shown g.D.Disk.may_leave g.D.Disk.moment g.D.Disk.left_since g.met.D.Disk.only_now meant serving c.args.responder.now c.answer.new.responder c.end_all.new.responder
    traffic (g.L.Links.told c.args.links.now) (g.L.Links.told c.send_all.new.links) c.answer.new.replies.items lost answers told fresh sends c.end_all.ensures.answers
    (c.in_ok-answer.ensures.represented serving represents) c.end_all.ensures.represented (c.answer.ensures.any_moment meant event serving represents) c.end_all.ensures.any_moment

pub returns-in_err-answer-clause-full : goal.returns-in_err-answer-clause-full
returns-in_err-answer-clause-full g c = λ meant event serving represents.
    let p = err_from_is_err_and c.from_residual.result c.from_residual.ensures.1 in
    rw (p.1, p.2) (c.in_err-answer.ensures.full meant event serving represents)

pub returns-in_err-lost-clause-full : goal.returns-in_err-lost-clause-full
returns-in_err-lost-clause-full g c = λ meant event serving represents.
    let p = err_from_is_err_and c.from_residual-in_err-lost.result c.from_residual-in_err-lost.ensures.1 in
    rw (p.1, p.2, c.in_err-lost.ensures.cause) tt
