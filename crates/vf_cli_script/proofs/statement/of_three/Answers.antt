use Rattle.std.specs.Prelude.{if◌then◌else◌}
use Rattle.std.proofs.Common.{◌∙◌, Option, ap}
use Rattle.vf_cli_script.specs.Statements.{act_of_three as three_act, form_of as form, life_of as life, on_link as on, user_of as user}
use Rattle.vf_cli_script.specs.declared.line.Act.{Act}
use Rattle.vf_cli_script.proofs.statement.of_three.Goals as goal

pub returns : goal.returns
returns c =
    let name = c.args.name.now in
    let first = c.args.first.now in
    let second = c.args.second.now in
    c.on_link.ensures ∙ ap (λ (act : Option Act). on first act) c.act_of_three.ensures
    ∙ (λ i. if c.if-is.ensures i then user first second else if c.if-is-2.ensures i then life first (form second) else on first (three_act name second))
