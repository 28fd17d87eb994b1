use Rattle.std.proofs.Common.{◌≡◌, drop, option_copied}
use Rattle.vf_attr.proofs.Sets.{joined}
use Rattle.vf_attr.specs.Access.{open_terms}
use Rattle.vf_attr.proofs.access.open_actions_of.Given as goal

-- the set so far, with the terms that are left, is that of all
abbrev pub invariant-loop-term : goal.invariant-loop-term
invariant-loop-term l =
    joined l.value (open_terms l.who (option_copied l.password) (drop l.term-index l.terms))
    ≡ joined 0 (open_terms l.who (option_copied l.password) l.terms)
