use Rattle.std.proofs.Common.{◌≡◌, drop, not}
use Rattle.std.specs.List.{list_all}
use Rattle.vf_tables.proofs.validity.differs_from_all.Given as goal

-- what is left decides
abbrev pub invariant-loop-other : goal.invariant-loop-other
invariant-loop-other g l =
    list_all (λ other. not (g.T.Keyed.same_key l.entry other)) (drop l.other-index l.others) ≡ list_all (λ other. not (g.T.Keyed.same_key l.entry other)) l.others
