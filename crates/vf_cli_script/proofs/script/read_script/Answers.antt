use Rattle.std.proofs.Common.{◌≡◌, ◌∙◌, ◌≤◌, ◌⊎◌, List, ℕ, Option, ap, length, subst, ⊎_elim}
use Rattle.vf_base.specs.Streams.{IsAtEnd}
use Rattle.vf_cli_script.specs.Inputs.{IsFront}
use Rattle.vf_cli_script.specs.Scripts.{IsTold, begun, script_from, statements_in}
use Rattle.vf_cli_script.specs.declared.input.TheConstants.{INPUT_LIMIT}
use Rattle.vf_cli_script.specs.declared.line.Statement.{Statement}
use Rattle.vf_cli_script.proofs.Feeds.{front_same}
use Rattle.vf_cli_script.proofs.Tellings.{if_script}
use Rattle.vf_cli_script.proofs.script.read_script.Goals as goal

-- what is read says what all octets say
same : (octets all : List ℕ) → IsFront octets all → statements_in octets ≡ statements_in all
same octets all is = ⊎_elim (λ one. ap statements_in one) (λ some. front_same INPUT_LIMIT octets some.0 all some.1 some.2) is

pub returns-clause-told : goal.returns-clause-told
returns-clause-told g c = λ octets is.
    subst (λ (l : List (Option Statement)). IsTold (script_from begun 0 l) c.in_ok-told.told)
    (ap statements_in c.as_slice.ensures.value ∙ same c.in_ok-octets.octets.items octets (c.in_ok-octets.ensures.octets octets is)) c.in_ok-told.ensures.told

pub returns-clause-some : goal.returns-clause-some
returns-clause-some g c = (c.as_slice.result.now, c.in_ok-told.ensures.told)

pub returns-clause-end : goal.returns-clause-end
returns-clause-end g c =
    if_script c.in_ok-told.told (length c.as_slice.result.now ≤ INPUT_LIMIT) (IsAtEnd (g.I.Source.left c.read_all.new.input))
    (λ short. c.in_ok-octets.ensures.end (subst (λ (l : List ℕ). length l ≤ INPUT_LIMIT) c.as_slice.ensures.value short)) c.in_ok-told.ensures.whole
