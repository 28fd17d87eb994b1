use Rattle.std.proofs.Common.{◌≡◌, ◌++◌, drop}
use Rattle.vf_responder.specs.Spoken.{joined}
use Rattle.vf_responder.proofs.spoken.Spoken.append_to.Given as goal

-- those of the parts so far are appended
abbrev pub invariant-loop-part : goal.invariant-loop-part
invariant-loop-part l = l.out.items ++ joined (drop l.part-index l.part-items) l.self-inside.last.items ≡ l.fn.out.items ++ joined l.part-items l.self-inside.last.items
