use Rattle.std.proofs.Common.{subst}
use Rattle.vf_session.specs.declared.units.TokenSide.{TokenSide}
use Rattle.vf_stack.specs.Pieces.{TellOnce}
use Rattle.vf_initiator.proofs.initiator.Initiator.wanted.Goals as goal

pub returns-clause-once : goal.returns-clause-once
returns-clause-once c = λ talk first second is few.
    subst (λ (side : TokenSide). TellOnce side talk.association first second) is.holds.side (c.wanted.ensures.once talk.association first second is.holds.association few)
