use Rattle.std.proofs.Common.{◌≡◌, ◌++◌, arith, Ok, Err}
use Rattle.std.proofs.lemmas.Grind.{common_steps}
use Rattle.std.proofs.lemmas.List.{take-append-drop}
use Rattle.vf_tpkt.specs.Receiving.{first_packet, part}
use Rattle.vf_tpkt.specs.Steps.{WantsSome, Looks}
use Rattle.vf_tpkt.proofs.StepLemmas.{moves-received, moves-refused, part-wants}
use Rattle.vf_tpkt.proofs.tpkt.advance.Goals as goal
use Rattle.vf_tpkt.proofs.tpkt.advance.Goals.{After-receive_whole}

extended : (c : After-receive_whole) → c.extend_from_slice.new.self.items ≡ c.args.packet.now.items ++ c.split_at.result.0.now
extended c = grind (arith, common_steps)

cut : (c : After-receive_whole) → c.split_at.result.0.now ++ c.split_at.result.1.now ≡ c.args.piece.now
cut c = rw (c.split_at.ensures.front, c.split_at.ensures.back) (take-append-drop c.min.result c.args.piece.now)

pub returns-in-Ok-receive_whole : goal.returns-in-Ok-receive_whole
returns-in-Ok-receive_whole c =
    let s = (goal.at.returns-in-Ok-receive_whole c).After-receive_whole in
    let wants : WantsSome c.place-place.result c.deref.result.now c.in-Ok.lacks = c.in-Ok.ensures.wants in
    let begun : first_packet c.place-place.result c.deref.result.now ≡ part = rw (c.place-place.ensures, c.deref.ensures.value) c.requires.begun in
    let some = part-wants c.place-place.result c.in-Ok.lacks c.deref.result.now begun wants in
    let looks : Looks c.args.connection.now c.extend_from_slice.new.self.items c.args.units.now.items c.args.answers.now.items c.receive_whole.new.connection c.receive_whole.new.packet.items c.receive_whole.new.units.items c.receive_whole.new.answers.items (Ok tt) = c.in-Ok-receive_whole.ensures in (
      moves-received c.args.connection.now c.receive_whole.new.connection c.args.packet.now.items c.split_at.result.0.now c.split_at.result.1.now c.args.piece.now c.receive_whole.new.packet.items c.args.units.now.items c.receive_whole.new.units.items c.args.answers.now.items c.receive_whole.new.answers.items (cut s) (rw (extended s) at looks),
      omega arith,
    )

pub returns-in-Err-receive_whole : goal.returns-in-Err-receive_whole
returns-in-Err-receive_whole c =
    let s = (goal.at.returns-in-Err-receive_whole c).After-receive_whole in
    let looks : Looks c.args.connection.now c.extend_from_slice.new.self.items c.args.units.now.items c.args.answers.now.items c.receive_whole.new.connection c.receive_whole.new.packet.items c.receive_whole.new.units.items c.receive_whole.new.answers.items (Err c.in-Err-receive_whole.fault) = c.in-Err-receive_whole.ensures in
    moves-refused c.args.connection.now c.receive_whole.new.connection c.args.packet.now.items c.split_at.result.0.now c.split_at.result.1.now c.args.piece.now c.receive_whole.new.packet.items c.args.units.now.items c.receive_whole.new.units.items c.args.answers.now.items c.receive_whole.new.answers.items c.in-Err-receive_whole.fault (cut s) (rw (extended s) at looks)
