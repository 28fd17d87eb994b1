use Rattle.std.proofs.Common.{◌∙◌, List, Option, subst}
use Rattle.vf_cli_script.specs.Scripts.{IsTold, begun, script_from}
use Rattle.vf_cli_script.specs.declared.input.TheConstants.{INPUT_LIMIT}
use Rattle.vf_cli_script.specs.declared.line.Statement.{Statement}
use Rattle.vf_cli_script.proofs.Tellings.{whole_told}
use Rattle.vf_cli_script.proofs.script.told_by.Goals as goal

pub returns-clause-told : goal.returns-clause-told
returns-clause-told c =
    subst (λ (l : List (Option Statement)). IsTold (script_from begun 0 l) c.in_ok-told.told) (c.as_mut_slice.ensures.value ∙ c.in_ok-statements.ensures) c.in_ok-told.ensures

pub returns-clause-whole : goal.returns-clause-whole
returns-clause-whole c =
    whole_told INPUT_LIMIT c.args.octets.now c.in_ok-told.told
    (subst (λ (l : List (Option Statement)). IsTold (script_from begun 0 l) c.in_ok-told.told) (c.as_mut_slice.ensures.value ∙ c.in_ok-statements.ensures) c.in_ok-told.ensures)
