use Rattle.std.specs.Prelude.{if◌then◌else◌, codes}
use Rattle.std.proofs.Common.{◌∙◌, List, ℕ, Option, ap}
use Rattle.vf_disk.specs.declared.crash_form.CrashForm.{CrashForm}
use Rattle.vf_cli_script.specs.Statements.{act_of_four as four_act, filled_form as filled, is as is_named, life_of as life, octets_act as octets, on_link as on, said_act as said}
use Rattle.vf_cli_script.specs.declared.line.Act.{Act}
use Rattle.vf_cli_script.specs.declared.line.Statement.{Statement}
use Rattle.vf_cli_script.proofs.statement.of_four.Goals as goal

-- what a line of four words says that is none of the first ones
abbrev others : List ℕ → List ℕ → List ℕ → List ℕ → Option Statement
others name first second third = if is_named name (codes "said") then on first (said second third) else on first (four_act name second third)

abbrev later : List ℕ → List ℕ → List ℕ → List ℕ → Option Statement
later name first second third = if is_named name (codes "octets") then on first (octets second third) else others name first second third

pub returns-then-is : goal.returns-then-is
returns-then-is c =
    let name = c.args.name.now in
    let first = c.args.first.now in
    let second = c.args.second.now in
    let third = c.args.third.now in
    c.life_of.ensures ∙ ap (λ (form : Option CrashForm). life first form) c.filled_form.ensures
    ∙ (λ i. if c.if-is.ensures i then life first (filled second third) else later name first second third)

pub returns-then-is-2 : goal.returns-then-is-2
returns-then-is-2 c =
    let name = c.args.name.now in
    let first = c.args.first.now in
    let second = c.args.second.now in
    let third = c.args.third.now in
    c.on_link.ensures ∙ ap (λ (act : Option Act). on first act) c.in_ok-act.ensures
    ∙ (λ i. if c.if-is.ensures i then life first (filled second third) else if c.if-is-2.ensures i then on first (octets second third) else others name first second third)

pub returns-then-is-3 : goal.returns-then-is-3
returns-then-is-3 c =
    let name = c.args.name.now in
    let first = c.args.first.now in
    let second = c.args.second.now in
    let third = c.args.third.now in
    c.on_link-then-is-3.ensures ∙ ap (λ (act : Option Act). on first act) c.in_ok-act-2.ensures
    ∙ (λ i. if c.if-is.ensures i then life first (filled second third) else if c.if-is-2.ensures i then on first (octets second third)
    else if c.if-is-3.ensures i then on first (said second third) else on first (four_act name second third))

pub returns : goal.returns
returns c =
    let name = c.args.name.now in
    let first = c.args.first.now in
    let second = c.args.second.now in
    let third = c.args.third.now in
    c.on_link-2.ensures ∙ ap (λ (act : Option Act). on first act) c.act_of_four.ensures
    ∙ (λ i. if c.if-is.ensures i then life first (filled second third) else if c.if-is-2.ensures i then on first (octets second third)
    else if c.if-is-3.ensures i then on first (said second third) else on first (four_act name second third))
