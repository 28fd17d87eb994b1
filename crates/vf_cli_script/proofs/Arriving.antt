-- Which links arrive, one statement after another.
use Rattle.std.proofs.Common.{ℕ, List, Option}
use Rattle.std.specs.Option.{option_or}
use Rattle.vf_cli_script.specs.Scripts.{arrivals_of, kind_in}
use Rattle.vf_cli_script.specs.declared.line.LinkKind.{LinkKind}
use Rattle.vf_cli_script.specs.declared.line.Statement.{Statement}

-- the end that a link arrived with before these statements, or arrives with in them
abbrev pub kind_from : (ℕ → Option LinkKind) → List (Option Statement) → ℕ → Option LinkKind
kind_from before statements link = option_or (before link) (kind_in (arrivals_of statements) link)
