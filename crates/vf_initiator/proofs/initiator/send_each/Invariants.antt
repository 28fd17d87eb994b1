use Rattle.std.proofs.Common.{◌≡◌, drop}
use Rattle.vf_initiator.specs.Owed.{IsSameEnd, SendsOnward}
use Rattle.vf_session.specs.declared.units.TokenSide.TheVariants as sides
use Rattle.vf_stack.specs.Association.{Association}
use Rattle.vf_stack.specs.Represents.{Represents as IsStackOf, offer_of, side_of}
use Rattle.vf_initiator.proofs.initiator.send_each.Given as goal

-- the requests that are left send the rest
abbrev pub invariant-loop-request : goal.invariant-loop-request
invariant-loop-request l =
    IsSameEnd l.initial.stack l.stack
    × ((a : Association) → IsStackOf l.initial.stack a → side_of l.initial.stack ≡ sides.Initiator
    → SendsOnward (offer_of l.initial.stack) a l.requests l.initial.out.items l.stack l.out.items (drop l.request-index l.requests))
