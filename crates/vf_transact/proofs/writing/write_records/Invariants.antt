use Rattle.std.proofs.Common.{◌≡◌, drop, false}
use Rattle.vf_transact.specs.Writing.{records_from}
use Rattle.vf_transact.proofs.Passing.{Written}
use Rattle.vf_transact.proofs.writing.write_records.Given as goal

-- What the elements so far give was written or waits.
abbrev pub invariant-loop-element : goal.invariant-loop-element
invariant-loop-element g l =
    let sink = g.O.Sink in
    record {
      written : Written (records_from false l.elements) (records_from l.has_begun (drop l.element-index l.elements)) l.block.items (sink.taken l.fn.out) (sink.taken l.out);
      count : sink.fault_count l.out ≡ sink.fault_count l.fn.out;
    }
