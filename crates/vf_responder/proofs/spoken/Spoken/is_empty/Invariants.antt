use Rattle.std.proofs.Common.{◌≡◌, drop}
use Rattle.vf_responder.specs.Spoken.{joined}
use Rattle.vf_responder.proofs.spoken.Spoken.is_empty.Given as goal

-- there are none in the parts so far
abbrev pub invariant-loop-part : goal.invariant-loop-part
invariant-loop-part l = joined (drop l.part-index l.part-items) l.self-inside.last.items ≡ joined l.part-items l.self-inside.last.items
