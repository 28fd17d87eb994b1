use Rattle.std.specs.List.{AllByRecursion}
use Rattle.vf_session_spdu.specs.Fields.{IsReadable}
use Rattle.vf_stack.proofs.FoldLemmas.{Places}
use Rattle.vf_stack.proofs.exchange.KeptExchange.receive_spdus.Given as goal

abbrev pub invariant-loop-spdu : goal.invariant-loop-spdu
invariant-loop-spdu l = record {
  received : Places l.fn.self l.fn.out.items l.fn.after l.fn.spdus.items l.self l.out.items l.place l.spdu-iterator.rest.items;
  readable : AllByRecursion IsReadable l.spdu-iterator.rest.items;
}
