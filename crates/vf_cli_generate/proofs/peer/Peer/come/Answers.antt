use Rattle.std.proofs.Common.{◌≡◌, ◌∙◌, List, ◌++◌, OnOk, ap, subst}
use Rattle.vf_base.specs.declared.events.ScriptEvent.TheVariants.{Arrived}
use Rattle.vf_responder.specs.Answers.{at_end, spoken_in}
use Rattle.std.proofs.lemmas.Result.{err_from_is_err_and}
use Rattle.vf_responder.specs.Full.{IsFullAt}
use Rattle.vf_responder.specs.Represents.{Represents}
use Rattle.vf_responder.specs.Run.{trail}
use Rattle.vf_responder.specs.declared.event.Reply.{Reply}
use Rattle.vf_cli_generate.proofs.Going.{ok_of, where_none_full}
use Rattle.vf_cli_generate.specs.Generating.{IsCalling, hears}
use Rattle.vf_cli_generate.proofs.peer.Peer.come.Goals as goal

pub returns-clause-heard : goal.returns-clause-heard
returns-clause-heard g c = λ both represents.
    ok_of c.hear.result (Represents c.deliver.new.self (at_end both.serving (trail (Arrived c.args.self.now.link) both.serving))) (c.in_ok-deliver.ensures.answers both.serving represents).represents

pub returns-clause-hears : goal.returns-clause-hears
returns-clause-hears g c = λ both represents is.
    let answers = c.in_ok-deliver.ensures.answers both.serving represents in
    let said : List Reply = spoken_in (trail (Arrived c.args.self.now.link) both.serving) in
    let spoken : c.deliver.new.replies.items ≡ said = answers.spoken ∙ ap (λ (replies : List Reply). replies ++ said) c.new-replies.ensures.items in
    subst (λ (replies : List Reply). OnOk c.hear.result (IsCalling c.hear.new.self.stack (hears both.calling replies))) (c.as_slice.ensures.value ∙ spoken) (c.hear.ensures.hears both.calling is)

pub returns-in_err-deliver-clause-full : goal.returns-in_err-deliver-clause-full
returns-in_err-deliver-clause-full g c = λ serving represents.
    let p = err_from_is_err_and c.from_residual.result c.from_residual.ensures.1 in
    rw (p.1, p.2) (c.in_err-deliver.ensures.full serving represents)

pub returns-clause-full : goal.returns-clause-full
returns-clause-full g c = λ serving represents.
    where_none_full c.hear.result (λ place. IsFullAt (trail (Arrived c.args.self.now.link) serving) serving c.deliver.new.self.store place) c.hear.ensures.cause
