use Rattle.std.proofs.Common.{◌≡◌, ◌∙◌, ℕ, List, ◌++◌, Option, None, Some, ap, refl, subst, sym}
use Rattle.std.specs.Prelude.{IfNone}
use Rattle.vf_cli_calling.specs.Calling.{Calling}
use Rattle.vf_cli_calling.specs.declared.caller.Caller.{Caller}
use Rattle.vf_cli_replay.specs.Hearing.{AreEnds}
use Rattle.vf_cli_replay.specs.Saying.{SaysLine}
use Rattle.vf_cli_replay.specs.Standing.{SpeaksOn}
use Rattle.vf_cli_replay.specs.declared.links.Links.{Links}
use Rattle.vf_cli_replay.proofs.CallerEnds.{no_end, one_end, others_stay}
use Rattle.vf_cli_replay.proofs.links.Links.speak.Goals as goal

pub returns-in_default-clause-spoken : goal.returns-in_default-clause-spoken
returns-in_default-clause-spoken c = λ running stands.
    let old = c.args.self.now in
    let none = no_end c.args.link old.callers.entries running.ends stands.callers (sym c.swap_remove.ensures.value ∙ c.in_default.is) in
    let same = subst (λ (o : Option Caller). IfNone o (c.swap_remove.new.self.entries ≡ old.callers.entries)) c.in_default.is c.swap_remove.ensures.unchanged in
    let links : Links = record { responder = old.responder; callers = c.swap_remove.new.self } in
    subst (λ (caller : Option Calling). SpeaksOn running c.args.link c.args.act.now caller None links) (sym none)
    (refl, record { responder = stands.responder; stored = stands.stored; callers = subst (λ (l : List (ℕ × Caller)). AreEnds l running.ends) (sym same) stands.callers })

pub returns-clause-spoken : goal.returns-clause-spoken
returns-clause-spoken c = λ running stands.
    let link = c.args.link in
    let old = c.args.self.now in
    let one = one_end link c.in-Some.caller old.callers.entries running.ends stands.callers (sym c.swap_remove.ensures.value ∙ c.in-Some.is) in
    let others = others_stay link old.callers.entries c.swap_remove.new.self.entries running.ends stands.callers c.swap_remove.ensures.updates.2 in
    let spoken = c.in_ok-say.ensures one.one one.represents in
    let are = c.in_ok-put.ensures running.ends spoken.later others spoken.represents in
    let octets : c.say.new.octets.items ≡ spoken.octets = spoken.sent ∙ ap (λ (l : List ℕ). l ++ spoken.octets) c.new-octets.ensures.items in
    let says : SaysLine one.one c.args.act.now c.say.new.octets.items spoken.later =
    subst (λ (l : List ℕ). SaysLine one.one c.args.act.now l spoken.later) (sym octets) spoken.says in
    let links : Links = record { responder = old.responder; callers = c.put.new.callers } in
    subst (λ (caller : Option Calling). SpeaksOn running link c.args.act.now caller (Some c.say.new.octets.items) links) (sym one.is)
    (spoken.later, (says, record { responder = stands.responder; stored = stands.stored; callers = are }))
