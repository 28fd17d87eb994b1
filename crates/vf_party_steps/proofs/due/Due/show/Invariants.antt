use Rattle.std.proofs.Common.{◌*◌, None, drop}
use Rattle.vf_filestore.specs.Due.{due}
use Rattle.vf_party_steps.specs.Dues.{Onward, progress_at}
use Rattle.vf_party_steps.proofs.due.Due.show.Given as goal

-- what was due at first, and what is left of it
abbrev pub invariant-loop-place : goal.invariant-loop-place
invariant-loop-place l =
    Onward (due l.window None (progress_at l.fn.self (8 * l.fn.self.check)) (drop (8 * l.fn.self.check) l.elements)) l.fn.self (due l.window None (progress_at l.self l.place) (drop l.place l.elements)) l.self
