use Rattle.std.proofs.Common.{refl, sym, ◌∙◌}
use Rattle.std.proofs.lemmas.Result.{IfOk-weaker}
use Rattle.vf_initiator.proofs.Answering.{heard_by, waits_by}
use Rattle.vf_initiator.proofs.initiator.Initiator.hear.Goals as goal

pub returns-then-may_wait : goal.returns-then-may_wait
returns-then-may_wait c = λ talk holds waits.
    waits_by c.args.self.now _ talk c.args.indication c.next_serial.result c.token.result c.of-heard.result c.new-said.result.items c.hear.new.said.items c.as_slice.result.now c.args.out.now.items holds
    (c.next_serial.ensures.association talk.association holds.association) (c.token.ensures.association talk.association holds.association) c.of-heard.ensures c.new-said.ensures.items c.as_slice.ensures.value
    c.in_ok-hear.ensures.0 c.in_ok-hear.ensures.1 (sym c.may_wait.ensures ∙ c.if-may_wait.true) c.from_vec.ensures.items refl refl refl refl

pub returns : goal.returns
returns c = λ talk holds waits.
    IfOk-weaker c.send_all.result _ _
    (λ done sends. heard_by c.args.self.now _ talk c.args.indication c.next_serial.result c.token.result c.of-heard.result c.new-said.result.items c.hear.new.said.items c.as_slice-2.result.now c.args.out.now.items c.send_all.new.out.items holds
    (c.next_serial.ensures.association talk.association holds.association) (c.token.ensures.association talk.association holds.association) c.of-heard.ensures c.new-said.ensures.items c.as_slice-2.ensures.value
    c.in_ok-hear.ensures.0 c.in_ok-hear.ensures.1 sends c.send_all.ensures.end refl refl refl waits)
    (c.send_all.ensures.sent talk.association holds.association holds.side)
