use Rattle.std.proofs.Common.{◌≡◌, ◌∙◌, Err, inl, refl, subst, sym}
use Rattle.vf_base.specs.declared.events.ScriptEvent.{ScriptEvent}
use Rattle.vf_base.specs.declared.events.ScriptEvent.TheVariants.{Arrived, Octets}
use Rattle.vf_disk.specs.Disk.{LeavesOnly}
use Rattle.vf_responder.specs.Along.{RepresentsAlong}
use Rattle.vf_journal.specs.declared.error.JournalError.{JournalError}
use Rattle.vf_responder.specs.Full.{AtFull, IsFullAt, WhereFull}
use Rattle.vf_responder.specs.Represents.{Represents}
use Rattle.vf_responder.specs.Run.{trail}
use Rattle.vf_responder.specs.Serving.{Serving}
use Rattle.vf_stack.specs.Association.{beginning}
use Rattle.vf_tpkt.specs.Tpdu.{packet, request}
use Rattle.vf_cli_generate.proofs.Going.{goes_no_further, goes_stops, stays}
use Rattle.vf_cli_generate.proofs.Making.{HasCome, goes_called, goes_come}
use Rattle.vf_cli_generate.specs.Generating.{Answer, ArrivalFront, Both, HasCalled, IsCalling, IsFullOf, after_event, coming, good}
use Rattle.vf_cli_generate.proofs.peer.Peer.arrive.Goals as goal

-- before anything has come
begun : Serving → Both
begun serving = record { serving = serving; calling = beginning }

pub returns-in-Err-clause-arrives : goal.returns-in-Err-clause-arrives
returns-in-Err-clause-arrives g c = λ serving represents stands.
    goes_no_further g.D.Disk.shown g.D.Disk.may_leave g.D.Disk.moment g.D.Disk.left_since (λ events serving'. Unit {0}) (ArrivalFront c.args.link) serving c.args.responder.now c.args.responder.now c.in-Err.error
    (stays g.D.Disk.shown g.D.Disk.may_leave g.D.Disk.moment g.D.Disk.left_since g.met.D.Disk.only_now (ArrivalFront c.args.link) serving c.args.responder.now (inl refl) represents stands)
    (subst (λ (e : JournalError). AtFull e (IsFullOf (ArrivalFront c.args.link) serving c.args.responder.now.store)) (sym c.in-Err.ensures.cause) tt)

pub returns-in-Err-come-clause-arrives : goal.returns-in-Err-come-clause-arrives
returns-in-Err-come-clause-arrives g c = λ serving represents stands.
    let link = c.args.link in
    let failed : Answer = Err c.in-Err-come.error in
    goes_stops g.D.Disk.shown g.D.Disk.may_leave g.D.Disk.moment g.D.Disk.left_since (HasCome link serving) (λ events serving'. Unit {0}) (ArrivalFront link) (ArrivalFront link) serving
    c.args.responder.now c.come.new.responder c.in-Err-come.error
    (goes_come g.D.Disk.shown g.D.Disk.may_leave g.D.Disk.moment g.D.Disk.left_since link serving c.args.responder.now c.come.new.responder failed (c.come.ensures.any_moment serving represents stands)
    (c.in-Err-come.ensures.full serving represents) tt tt)
    (λ events front. front)

pub returns-in-Err-send-clause-arrives : goal.returns-in-Err-send-clause-arrives
unfolding begun
returns-in-Err-send-clause-arrives g c = λ serving represents stands.
    let link = c.args.link in
    let failed : Answer = Err c.in-Err-send.error in
    let both : Both = after_event (Arrived link) (begun serving) in
    let here : Represents c.come.new.responder both.serving = c.in-Ok-come.ensures.heard (begun serving) represents in
    let standing = c.in-Ok-come.ensures.represented serving represents stands in
    let links = c.come.ensures.link in
    let greets = c.as_slice.ensures.value ∙ c.in-Ok.ensures.greeting in
    let event : Octets c.come.new.self.link 0 c.as_slice.result.now ≡ coming link (packet request) = λ i. Octets (links i) 0 (greets i) in
    goes_stops g.D.Disk.shown g.D.Disk.may_leave g.D.Disk.moment g.D.Disk.left_since (HasCalled link serving c.send.new.self.stack) (λ events serving'. Unit {0}) (ArrivalFront link) (ArrivalFront link) serving
    c.args.responder.now c.send.new.responder c.in-Err-send.error
    (goes_called g.D.Disk.shown g.D.Disk.may_leave g.D.Disk.moment g.D.Disk.left_since link serving c.args.responder.now c.come.new.responder c.send.new.responder c.send.new.self.stack failed
    (goes_come g.D.Disk.shown g.D.Disk.may_leave g.D.Disk.moment g.D.Disk.left_since link serving c.args.responder.now c.come.new.responder good (c.come.ensures.any_moment serving represents stands) tt here standing)
    (subst (λ (e : ScriptEvent). LeavesOnly g.D.Disk.moment g.D.Disk.left_since c.come.new.responder.store.disk c.send.new.responder.store.disk (RepresentsAlong both.serving (trail e both.serving))) event
    (c.send.ensures.any_moment both.serving here standing))
    (subst (λ (e : ScriptEvent). WhereFull failed (λ place. IsFullAt (trail e both.serving) both.serving c.send.new.responder.store place)) event (c.in-Err-send.ensures.full both.serving here)) tt tt tt)
    (λ events front. front)

pub returns-clause-arrives : goal.returns-clause-arrives
unfolding begun
returns-clause-arrives g c = λ serving represents stands.
    let link = c.args.link in
    let both : Both = after_event (Arrived link) (begun serving) in
    let here : Represents c.come.new.responder both.serving = c.in-Ok-come.ensures.heard (begun serving) represents in
    let calls : IsCalling c.come.new.self.stack both.calling = c.in-Ok-come.ensures.hears (begun serving) represents c.in-Ok.ensures.ok in
    let standing = c.in-Ok-come.ensures.represented serving represents stands in
    let links = c.come.ensures.link in
    let greets = c.as_slice.ensures.value ∙ c.in-Ok.ensures.greeting in
    let event : Octets c.come.new.self.link 0 c.as_slice.result.now ≡ coming link (packet request) = λ i. Octets (links i) 0 (greets i) in (
      c.send.ensures.link ∙ c.come.ensures.link,
      goes_called g.D.Disk.shown g.D.Disk.may_leave g.D.Disk.moment g.D.Disk.left_since link serving c.args.responder.now c.come.new.responder c.send.new.responder c.send.new.self.stack good
          (goes_come g.D.Disk.shown g.D.Disk.may_leave g.D.Disk.moment g.D.Disk.left_since link serving c.args.responder.now c.come.new.responder good (c.come.ensures.any_moment serving represents stands) tt here standing)
          (subst (λ (e : ScriptEvent). LeavesOnly g.D.Disk.moment g.D.Disk.left_since c.come.new.responder.store.disk c.send.new.responder.store.disk (RepresentsAlong both.serving (trail e both.serving))) event
          (c.send.ensures.any_moment both.serving here standing)) tt
          (subst (λ (e : ScriptEvent). Represents c.send.new.responder (after_event e both).serving) event (c.in-Ok-send.ensures.heard both here))
          (subst (λ (e : ScriptEvent). IsCalling c.send.new.self.stack (after_event e both).calling) event (c.in-Ok-send.ensures.hears both here calls))
          (c.in-Ok-send.ensures.represented both.serving here standing),
    )
