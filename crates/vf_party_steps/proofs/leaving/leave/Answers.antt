use Rattle.std.proofs.Common.{ℕ, Option, sym, subst, ◌∙◌}
use Rattle.vf_party_steps.specs.Leaving.{LeavesFile}
use Rattle.vf_party_steps.proofs.Departures.{may_always, passed_follows, released_follows}
use Rattle.vf_party_steps.proofs.leaving.leave.Goals as goal

pub returns-in_default : goal.returns-in_default
returns-in_default c =
    subst (λ (activity : Option ℕ). LeavesFile c.args.selected activity c.args.locks.now c.release.new.self) (sym c.in_default.is)
    (released_follows c.args.selected c.args.locks.now c.release.new.self c.release.ensures)

pub returns-then-may_pass : goal.returns-then-may_pass
returns-then-may_pass c =
    subst (λ (activity : Option ℕ). LeavesFile c.args.selected activity c.args.locks.now c.pass.new.self) (sym c.in-Some.is)
    (passed_follows c.args.selected c.args.locks.now c.pass.new.self c.in-Some.activity c.pass.ensures)

pub returns : goal.returns
returns c =
    subst (λ (activity : Option ℕ). LeavesFile c.args.selected activity c.args.locks.now c.args.locks.now) (sym c.in-Some.is)
    (may_always c.args.selected c.args.locks.now c.args.locks.now c.in-Some.activity (sym c.may_pass.ensures ∙ c.if-may_pass.false))
