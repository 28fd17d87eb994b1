use Rattle.std.proofs.Common.{◌≡◌, List, ℕ, length}
use Rattle.vf_ber_scan.specs.Continuation.{after}
use Rattle.vf_ber_scan.proofs.step.after_value.Given as goal

abbrev pub invariant-loop-frame : goal.invariant-loop-frame
invariant-loop-frame l = (more : List ℕ) → after l.initial.frames more ≡ after l.frames more

abbrev pub decreases-loop-frame : goal.decreases-loop-frame
decreases-loop-frame l = length l.frames
