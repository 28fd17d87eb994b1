use Rattle.std.proofs.Common.{◌≡◌, map, take}
use Rattle.vf_filestore.specs.Replies.{grant_of}
use Rattle.vf_regime_effects.proofs.terms.grants.Given as goal

-- the grants so far are of the terms so far
abbrev pub invariant-loop-term : goal.invariant-loop-term
invariant-loop-term l = l.shown ≡ map grant_of (take l.term-index l.terms)
