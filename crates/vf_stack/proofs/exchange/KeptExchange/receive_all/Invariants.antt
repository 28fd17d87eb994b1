use Rattle.vf_stack.specs.Receiving.{received_next}
use Rattle.vf_stack.specs.Represents.{Onward}
use Rattle.vf_stack.proofs.exchange.KeptExchange.receive_all.Given as goal

abbrev pub invariant-loop-unit : goal.invariant-loop-unit
invariant-loop-unit l = Onward l.fn.self l.fn.out.items received_next l.fn.units.items l.self l.out.items l.unit-iterator.rest.items
