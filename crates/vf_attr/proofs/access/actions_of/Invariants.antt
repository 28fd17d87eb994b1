use Rattle.std.proofs.Common.{◌≡◌, drop}
use Rattle.vf_attr.proofs.Sets.{joined}
use Rattle.vf_attr.specs.Access.{terms_of}
use Rattle.vf_attr.proofs.access.actions_of.Given as goal

-- the set so far, with the terms that are left, is that of all
abbrev pub invariant-loop-term : goal.invariant-loop-term
invariant-loop-term l = joined l.value (terms_of l.who (drop l.term-index l.terms)) ≡ joined 0 (terms_of l.who l.terms)
