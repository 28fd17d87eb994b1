use Rattle.std.proofs.Common.{◌≡◌, ◌∙◌, ℕ, List, [], ◌∷◌, OnOk, subst, sym}
use Rattle.vf_disk.specs.Disk.{LeavesOnly}
use Rattle.vf_journal.specs.declared.error.JournalError.TheVariants.{NoMemory}
use Rattle.vf_responder.specs.Along.{RepresentsAlong}
use Rattle.vf_responder.specs.Full.{IsFullAt, WhereFull}
use Rattle.vf_responder.specs.Represents.{Represents}
use Rattle.vf_responder.specs.Run.{trail}
use Rattle.vf_session.specs.declared.units.TokenSide.TheVariants.{Initiator}
use Rattle.vf_stack.specs.Represents.{side_of}
use Rattle.vf_stack.specs.Sending.{octets_sent, with_request}
use Rattle.vf_stack.specs.Sends.{Sends}
use Rattle.vf_cli_generate.proofs.Going.{goes_no_further, stays}
use Rattle.vf_cli_generate.proofs.Saying.{calls_after, front_none, goes_left_out, goes_sent, may_ask, may_send, not_true, octets_are, when_ok}
use Rattle.vf_cli_generate.specs.Generating.{Both, HasSaid, IsCalling, SaysFront, after_event, coming}
use Rattle.vf_cli_generate.proofs.peer.Peer.say.Goals as goal

pub returns-then-not-may-clause-says : goal.returns-then-not-may-clause-says
returns-then-not-may-clause-says g c = λ both represents is stands.
    let stack = c.args.self.now.stack in
    goes_left_out g.D.Disk.shown g.D.Disk.may_leave g.D.Disk.moment g.D.Disk.left_since g.met.D.Disk.only_now c.args.self.now.link c.args.request.now both c.args.responder.now stack
    (λ may. not_true c.may.result c.if-not-may.true ((c.may.ensures.association both.calling is.represents).1 (may_ask stack both.calling c.args.request.now is may))) is represents stands

pub returns-then-is_err-clause-says : goal.returns-then-is_err-clause-says
returns-then-is_err-clause-says g c = λ both represents is stands.
    let said = c.args.request.now ∷ [] in
    goes_no_further g.D.Disk.shown g.D.Disk.may_leave g.D.Disk.moment g.D.Disk.left_since (HasSaid c.args.self.now.link said both c.send.new.self) (SaysFront c.args.self.now.link said both) both.serving
    c.args.responder.now c.args.responder.now NoMemory
    (stays g.D.Disk.shown g.D.Disk.may_leave g.D.Disk.moment g.D.Disk.left_since g.met.D.Disk.only_now (SaysFront c.args.self.now.link said both) both.serving c.args.responder.now
    (front_none c.args.self.now.link said both) represents stands) tt

pub returns-clause-says : goal.returns-clause-says
returns-clause-says g c = λ both represents is stands.
    let stack = c.args.self.now.stack in
    let link = c.args.self.now.link in
    let request = c.args.request.now in
    let sends : Sends (side_of stack) both.calling request [] c.send.new.self c.send.new.out.items =
    subst (λ (out : List ℕ). Sends (side_of stack) both.calling request out c.send.new.self c.send.new.out.items) c.new-octets.ensures.items
    (when_ok c.send.result _ (sym c.is_err.ensures.value ∙ c.if-is_err.false) (c.send.ensures.sent both.calling is.represents)) in
    let after : Both = record both { calling = with_request Initiator both.calling request } in
    let calls : IsCalling c.send.new.self (with_request Initiator both.calling request) = calls_after stack c.send.new.self both.calling request c.send.new.out.items is c.send.ensures.end sends in
    let octets : c.as_slice.result.now ≡ octets_sent Initiator both.calling request = c.as_slice.ensures.value ∙ octets_are stack c.send.new.self both.calling request c.send.new.out.items is sends in
    goes_sent g.D.Disk.shown g.D.Disk.may_leave g.D.Disk.moment g.D.Disk.left_since g.met.D.Disk.only_now link request both c.args.responder.now c.send-2.new.responder c.send-2.new.self.stack c.send-2.result
    (may_send stack both.calling request is ((c.may.ensures.association both.calling is.represents).0 c.if-not-may.false))
    (subst (λ (o : List ℕ). LeavesOnly g.D.Disk.moment g.D.Disk.left_since c.args.responder.now.store.disk c.send-2.new.responder.store.disk (RepresentsAlong both.serving (trail (coming link o) both.serving)))
    octets (c.send-2.ensures.any_moment both.serving represents stands))
    (subst (λ (o : List ℕ). WhereFull c.send-2.result (λ place. IsFullAt (trail (coming link o) both.serving) both.serving c.send-2.new.responder.store place)) octets
    (c.send-2.ensures.full both.serving represents))
    (subst (λ (o : List ℕ). OnOk c.send-2.result (Represents c.send-2.new.responder (after_event (coming link o) after).serving)) octets (c.send-2.ensures.heard after represents))
    (subst (λ (o : List ℕ). OnOk c.send-2.result (IsCalling c.send-2.new.self.stack (after_event (coming link o) after).calling)) octets (c.send-2.ensures.hears after represents calls))
    (c.send-2.ensures.represented both.serving represents stands)
