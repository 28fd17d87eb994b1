-- What the code owes that takes a message: a step of the table, or none.
use Rattle.std.specs.Prelude.{◌≡◌, Bool, true, false, List, ◌++◌, Option, None, Some}
use Rattle.vf_initiator.specs.Rows.{Step}
use Rattle.vf_initiator.specs.declared.conduct.Conduct.{Conduct}
use Rattle.vf_stack.specs.declared.request.Request.{Request}

-- The requests of the step were appended, and it leads to this.
abbrev pub Follows : Step → List Request → List Request → Conduct → Type 0
Follows step out out' c = (out' ≡ out ++ step.said) × (c ≡ step.conduct)

-- The message has a row, which was followed; or it has none, and nothing was done.
abbrev pub Answers : Option Step → List Request → List Request → Conduct → Conduct → Bool → Type 0
Answers (Some step) out out' c c' true = Follows step out out' c'
Answers None out out' c c' false = (out' ≡ out) × (c' ≡ c)
Answers step out out' c c' is_good = ⊥
