use Rattle.std.proofs.Common.{◌≡◌, ℕ, ◌+◌, List, Option, None, length, refl, ap, sym, subst, ◌∙◌}
use Rattle.std.specs.Prelude.{IfNone, is_some, if◌then◌else◌}
use Rattle.vf_base.specs.declared.events.ScriptEvent.TheVariants as script
use Rattle.vf_responder.specs.Represents.{Answers, kept_of, link_of}
use Rattle.vf_responder.specs.Run.{trail}
use Rattle.vf_responder.specs.declared.link.Link.{Link}
use Rattle.vf_responder.proofs.ArriveLemmas.{ended-none, ended-one}
use Rattle.vf_responder.proofs.MoveLemmas.{out-by, out-numbered}
use Rattle.vf_responder.proofs.keeping.Keeping.end.Goals as goal

pub returns-in_default-clause-answers : goal.returns-in_default-clause-answers
returns-in_default-clause-answers g c = λ replies serving represents.
    let none : link_of c.args.number c.args.self.now.links.entries ≡ None = sym c.swap_remove.ensures.value ∙ c.in_default.is in
    let same = subst (λ (o : Option Link). IfNone o (c.swap_remove.new.self.entries ≡ c.args.self.now.links.entries)) c.in_default.is c.swap_remove.ensures.unchanged in
    subst (λ (links : List (ℕ × Link)). Answers (trail (script.Ended c.args.number) serving) serving replies (record (kept_of c.args.self.now) { links = links }) replies) (sym same)
    (ended-none c.args.number (kept_of c.args.self.now) serving replies represents none)

pub returns-clause-answers : goal.returns-clause-answers
returns-clause-answers g c = λ replies serving represents.
    let kept = kept_of c.args.self.now in
    let rest = record (kept_of c.args.self.now) { links = c.swap_remove.new.self.entries } in
    let count : length c.swap_remove.new.self.entries + 1 ≡ length c.args.self.now.links.entries =
    sym (ap (λ (o : Option Link). length c.swap_remove.new.self.entries + (if is_some o then 1 else 0)) c.in-Some.is) ∙ c.swap_remove.ensures.len in
    let out = out-by c.args.number c.in-Some.link kept rest refl refl (sym c.swap_remove.ensures.value ∙ c.in-Some.is) c.swap_remove.ensures.updates.0 count c.swap_remove.ensures.unique in
    ended-one c.args.number c.in-Some.link kept rest (record rest { locks = c.end.new.locks }) serving replies represents out c.end.ensures refl refl
    (out-numbered c.args.number c.in-Some.link kept rest serving represents out)
