use Rattle.std.proofs.Common.{refl}
use Rattle.std.proofs.lemmas.Result.{IfOk-weaker}
use Rattle.vf_initiator.proofs.Saying.{say_one}
use Rattle.vf_initiator.proofs.initiator.Initiator.say_next.Goals as goal

pub returns-clause-said : goal.returns-clause-said
returns-clause-said c = λ talk rest lags.
    IfOk-weaker c.send_one.result _ _
    (λ done sends. say_one c.args.self.now _ talk rest c.args.out.now.items c.send_one.new.out.items c.in-Some.request c.pop_front.new.self.items c.in-Some.ensures.items refl c.send_one.ensures.end refl refl refl refl lags sends)
    (c.send_one.ensures.sent lags.now lags.holds.association lags.holds.side)
