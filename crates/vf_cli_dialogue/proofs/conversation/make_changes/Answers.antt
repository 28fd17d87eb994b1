use Rattle.std.proofs.Common.{List, length, ap, sym, ◌∙◌}
use Rattle.std.specs.Prelude.{nat_eq}
use Rattle.vf_tables.specs.declared.change.Change.{Change}
use Rattle.vf_cli_dialogue.proofs.ChangeLemmas.{unchanged}
use Rattle.vf_cli_dialogue.proofs.conversation.make_changes.Goals as goal

pub returns-then-is_empty : goal.returns-then-is_empty
returns-then-is_empty c =
    unchanged c.args.changes c.args.tables.now
    (ap (λ (items : List Change). nat_eq (length items) 0) (sym c.as_slice.ensures) ∙ sym c.is_empty.ensures ∙ c.if-is_empty.true)
