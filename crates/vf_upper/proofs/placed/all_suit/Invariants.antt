use Rattle.std.proofs.Common.{◌≡◌, drop, map}
use Rattle.std.specs.List.{list_all}
use Rattle.vf_upper.specs.Carried.{carried_of}
use Rattle.vf_upper.specs.Written.{accepted, suits_in}
use Rattle.vf_upper_grammar.specs.declared.labels.NumberLabel.TheVariants.{AnyContext}
use Rattle.vf_upper.proofs.placed.all_suit.Given as goal

abbrev pub invariant-loop-value : goal.invariant-loop-value
invariant-loop-value l = list_all (λ value. suits_in (accepted l.contexts) AnyContext value.context) (map carried_of l.fn.values) ≡ list_all (λ value. suits_in (accepted l.contexts) AnyContext value.context) (map carried_of (drop l.value-index l.fn.values))
