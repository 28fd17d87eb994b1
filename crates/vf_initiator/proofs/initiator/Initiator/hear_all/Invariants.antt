use Rattle.std.proofs.Common.{◌≡◌, []}
use Rattle.vf_initiator.specs.Owed.{LagsOnward}
use Rattle.vf_initiator.specs.Represents.{Holds}
use Rattle.vf_initiator.specs.Talking.{Talk}
use Rattle.vf_initiator.proofs.initiator.Initiator.hear_all.Given as goal

-- what is left to be heard has the other answers
abbrev pub invariant-loop-indication : goal.invariant-loop-indication
invariant-loop-indication l =
    (talk : Talk) → Holds l.fn.self talk → l.fn.self.waiting.items ≡ [] → LagsOnward l.fn.self talk l.fn.told.items l.fn.out.items l.self l.out.items l.indication-iterator.rest.items
