use Rattle.std.proofs.Common.{◌∙◌, ◌≤◌, Bool, Option, Some, None, Ok, ap, arith, length, refl, sym}
use Rattle.vf_cli_script.specs.Readings.{if_good, progress_of}
use Rattle.vf_cli_script.specs.Scripts.{begun, script_from, with_statement}
use Rattle.vf_cli_script.specs.declared.line.Statement.{Statement}
use Rattle.vf_cli_script.specs.declared.script.Script.{Script}
use Rattle.vf_cli_script.proofs.Tellings.{script_bad, script_more, script_whole}
use Rattle.vf_cli_script.proofs.script.told_from.Goals as goal

pub returns-in_default : goal.returns-in_default
returns-in_default c =
    let statements = c.loop-place.statements in
    script_bad (script_from begun 0 c.args.statements.now) (progress_of c.loop-place.reading) c.loop-place.place statements statements None c.loop-place.invariant c.in_default.ensures.out refl refl

pub returns-then-not-good : goal.returns-then-not-good
returns-then-not-good c =
    let before = progress_of c.loop-place.reading in
    let statement : Option Statement = Some c.in-Some.statement in
    script_bad (script_from begun 0 c.args.statements.now) before c.loop-place.place c.loop-place.statements c.take_out.new.statements statement c.loop-place.invariant
    c.in-Some.ensures.out c.in-Some.ensures.later
    (ap (with_statement before statement) (sym c.split_at.ensures.back) ∙ c.in_ok-good.ensures ∙ ap (λ (b : Bool). if_good b (progress_of c.take.new.self)) c.if-not-good.true)

pub loop-place-preserved : goal.loop-place-preserved
loop-place-preserved c =
    let before = progress_of c.loop-place.reading in
    let statement : Option Statement = Some c.in-Some.statement in
    script_more (script_from begun 0 c.args.statements.now) before (progress_of c.take.new.self) c.loop-place.place c.loop-place.statements c.take_out.new.statements statement c.loop-place.invariant
    c.in-Some.ensures.out c.in-Some.ensures.later
    (ap (with_statement before statement) (sym c.split_at.ensures.back) ∙ c.in_ok-good.ensures ∙ ap (λ (b : Bool). if_good b (progress_of c.take.new.self)) c.if-not-good.false)

pub returns : goal.returns
returns c =
    let all : length c.loop-place.statements ≤ c.loop-place.place = omega arith in
    script_whole (script_from begun 0 c.args.statements.now) (progress_of c.loop-place.reading) c.loop-place.place c.loop-place.statements c.loop-place.invariant all
    ∙ ap (λ (script : Script). Ok script) (sym c.in_ok-script.ensures)
