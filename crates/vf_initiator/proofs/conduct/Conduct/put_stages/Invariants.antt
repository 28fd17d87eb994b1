use Rattle.std.proofs.Common.{◌≡◌, ◌++◌}
use Rattle.vf_initiator.specs.Keeping.{stages_from}
use Rattle.vf_initiator.proofs.conduct.Conduct.put_stages.Given as goal

-- what stands, and the pieces that are left
abbrev pub invariant-loop-place : goal.invariant-loop-place
invariant-loop-place l =
    l.changes ++ stages_from l.activity l.place l.self.gathered.pieces ≡ l.initial.changes ++ stages_from l.activity l.standing l.self.gathered.pieces
