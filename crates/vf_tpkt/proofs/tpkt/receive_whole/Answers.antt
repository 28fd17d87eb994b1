use Rattle.std.proofs.Common.{◌≡◌, ◌-◌, List, [], ℕ, arith, drop, take, length, length-drop, ◌∙◌, ap}
use Rattle.std.proofs.lemmas.List.{take_all}
use Rattle.vf_tpkt.specs.Receiving.{first_packet, bad, whole}
use Rattle.vf_tpkt.specs.Steps.{WantsSome}
use Rattle.vf_tpkt.proofs.StepLemmas.{looks-bad, looks-part, looks-whole, looks-received, looks-refused}
use Rattle.vf_tpkt.proofs.tpkt.receive_whole.Goals as goal
use Rattle.vf_tpkt.proofs.tpkt.receive_whole.Goals.{After-receive}

pub returns-in-Err : goal.returns-in-Err
returns-in-Err c = λ rest.
    let wrong : first_packet c.place.result c.deref.result.now ≡ bad c.in-Err.fault = c.in-Err.ensures.wants in
    looks-bad c.args.connection.now c.place.result c.args.packet.now.items rest c.args.units.now.items c.args.answers.now.items c.in-Err.fault c.place.ensures (rw c.deref.ensures.value at wrong)

-- the packet is whole
is_whole : (c : After-receive) →
    (let d = c.deref-2.result.now in first_packet c.args.connection.now.place c.args.packet.now.items ≡ whole (take (length d - 4) (drop 4 d)) [])
is_whole c =
    let d = c.deref-2.result.now in
    let packet = c.args.packet.now.items in
    let tpdu : take (length d - 4) (drop 4 d) ≡ drop 4 packet =
    take_all (length d - 4) (drop 4 d) (omega (arith, length-drop 4 d)) ∙ ap (λ (o : List ℕ). drop 4 o) c.deref-2.ensures.value in
    let wants : WantsSome c.place.result c.deref.result.now c.in-Ok.lacks = c.in-Ok.ensures.wants in
    looks-whole c.args.connection.now c.place.result c.in-Ok.lacks packet (take (length d - 4) (drop 4 d)) c.place.ensures (rw c.deref.ensures.value at wants) (omega arith) tpdu

pub returns-in-Ok-receive : goal.returns-in-Ok-receive
returns-in-Ok-receive c = λ rest.
    let d = c.deref-2.result.now in
    rw c.clear.ensures.items (looks-received c.args.connection.now c.receive.new.self c.args.packet.now.items (take (length d - 4) (drop 4 d)) rest c.args.units.now.items c.receive.new.units.items c.args.answers.now.items c.receive.new.answers.items (is_whole (goal.at.returns-in-Ok-receive c).After-receive) c.in-Ok-receive.ensures)

pub returns-in-Err-receive : goal.returns-in-Err-receive
returns-in-Err-receive c = λ rest.
    let d = c.deref-2.result.now in
    looks-refused c.args.connection.now c.receive.new.self c.args.packet.now.items (take (length d - 4) (drop 4 d)) rest c.args.units.now.items c.receive.new.units.items c.args.answers.now.items c.receive.new.answers.items c.in-Err-receive.fault (is_whole (goal.at.returns-in-Err-receive c).After-receive) c.in-Err-receive.ensures

pub returns-then-lacks-gt0 : goal.returns-then-lacks-gt0
returns-then-lacks-gt0 c = λ rest.
    let wants : WantsSome c.place.result c.deref.result.now c.in-Ok.lacks = c.in-Ok.ensures.wants in
    looks-part c.args.connection.now c.place.result c.in-Ok.lacks c.args.packet.now.items rest c.args.units.now.items c.args.answers.now.items c.place.ensures (rw c.deref.ensures.value at wants) c.if-lacks-gt0.true
