-- Which end it is, and whether it proposes sync, stays.
use Rattle.std.proofs.Common.{◌≡◌, ap, ◌∙◌}
use Rattle.vf_session.specs.Kept.{Kept as SessionKept}
use Rattle.vf_stack.specs.Represents.{IsSame}
use Rattle.vf_stack.specs.declared.exchange.KeptExchange.{KeptExchange}

-- what session keeps is the same
pub same-session : (kept kept' : KeptExchange) → kept'.session ≡ kept.session → IsSame kept kept'
same-session kept kept' e = (ap (λ (s : SessionKept). s.side) e, ap (λ (s : SessionKept). s.offer) e)

-- by one step and the next
pub same-then : (kept kept' kept'' : KeptExchange) → IsSame kept kept' → IsSame kept' kept'' → IsSame kept kept''
same-then kept kept' kept'' first second = (second.0 ∙ first.0, second.1 ∙ first.1)
