use Rattle.std.proofs.Common.{◌≡◌, ◌∙◌, ℕ, List, ◌++◌, OnOk, ap, subst}
use Rattle.vf_base.specs.declared.events.ScriptEvent.TheVariants.{Octets}
use Rattle.vf_responder.specs.Answers.{at_end, octets_heard, spoken_in}
use Rattle.std.proofs.lemmas.Result.{err_from_is_err_and}
use Rattle.vf_responder.specs.Full.{AtFull, IsFullAt}
use Rattle.vf_responder.specs.Represents.{KeepsAlong, Represents}
use Rattle.vf_responder.specs.Run.{trail}
use Rattle.vf_responder.specs.declared.event.Reply.{Reply}
use Rattle.vf_cli_generate.proofs.Going.{ok_of, where_none_full}
use Rattle.vf_cli_generate.specs.Generating.{IsCalling, hears}
use Rattle.vf_cli_generate.proofs.peer.Peer.send.Goals as goal

pub returns-clause-heard : goal.returns-clause-heard
returns-clause-heard g c = λ both represents.
    let link = c.args.self.now.link in
    let octets = c.args.octets.now in
    ok_of c.hear.result (Represents c.deliver.new.self (at_end both.serving (octets_heard 0 link both.serving octets)))
    (subst (λ (moment : ℕ). Represents c.deliver.new.self (at_end both.serving (octets_heard moment link both.serving octets))) c.first_moment.ensures
    (c.in_ok-deliver.ensures.answers both.serving represents).represents)

pub returns-clause-hears : goal.returns-clause-hears
returns-clause-hears g c = λ both represents is.
    let link = c.args.self.now.link in
    let octets = c.args.octets.now in
    let answers = c.in_ok-deliver.ensures.answers both.serving represents in
    let said : List Reply = spoken_in (octets_heard c.first_moment.result link both.serving octets) in
    let spoken : c.deliver.new.replies.items ≡ spoken_in (octets_heard 0 link both.serving octets) =
    answers.spoken ∙ ap (λ (replies : List Reply). replies ++ said) c.new-replies.ensures.items
    ∙ ap (λ (moment : ℕ). spoken_in (octets_heard moment link both.serving octets)) c.first_moment.ensures in
    subst (λ (replies : List Reply). OnOk c.hear.result (IsCalling c.hear.new.self.stack (hears both.calling replies))) (c.as_slice.ensures.value ∙ spoken) (c.hear.ensures.hears both.calling is)

pub returns-clause-any_moment : goal.returns-clause-any_moment
returns-clause-any_moment g c =
    subst (λ (moment : ℕ). KeepsAlong (trail (Octets c.args.self.now.link moment c.args.octets.now)) g.D.Disk.shown g.D.Disk.may_leave g.D.Disk.moment g.D.Disk.left_since c.args.responder.now c.deliver.new.self)
    c.first_moment.ensures c.deliver.ensures.any_moment

pub returns-in_err-deliver-clause-full : goal.returns-in_err-deliver-clause-full
returns-in_err-deliver-clause-full g c = λ serving represents.
    let p = err_from_is_err_and c.from_residual.result c.from_residual.ensures.1 in
    rw (p.1, p.2)
    (subst (λ (moment : ℕ). AtFull c.in_err-deliver.field-0.0 (λ place. IsFullAt (trail (Octets c.args.self.now.link moment c.args.octets.now) serving) serving c.deliver.new.self.store place))
    c.first_moment.ensures (c.in_err-deliver.ensures.full serving represents))

pub returns-clause-full : goal.returns-clause-full
returns-clause-full g c = λ serving represents.
    where_none_full c.hear.result (λ place. IsFullAt (trail (Octets c.args.self.now.link 0 c.args.octets.now) serving) serving c.deliver.new.self.store place) c.hear.ensures.cause
