use Rattle.std.proofs.Common.{inl, inr, ⊎_elim}
use Rattle.vf_cli_dialogue.proofs.answering.dialogue.Goals as goal

pub returns-in-Ok-clause-ends : goal.returns-in-Ok-clause-ends
returns-in-Ok-clause-ends g c = ⊎_elim (λ zero. inl zero) (λ rest. inr (⊎_elim (λ seven. inl seven) (λ eleven. inr (inl eleven)) rest)) c.in-Ok.ensures.ends.0
