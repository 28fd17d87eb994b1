use Rattle.std.proofs.Common.{List, ℕ, sym, subst}
use Rattle.vf_ber_scan.specs.Scanned.{HasTaken}
use Rattle.vf_cli_dialogue.proofs.conversation.Conversation.new.Goals as goal

pub returns-clause-stands : goal.returns-clause-stands
returns-clause-stands c = (
  c.new.ensures,
  subst (λ (l : List ℕ). HasTaken c.new-3.result l) (sym c.new-2.ensures.items) c.new-3.ensures,
)
