use Rattle.std.proofs.Common.{◌≡◌, drop}
use Rattle.std.specs.List.{flat_map}
use Rattle.vf_transact.specs.Writing.{string_given}
use Rattle.vf_transact.proofs.Passing.{Written}
use Rattle.vf_transact.proofs.writing.write_strings.Given as goal

-- What the elements so far give was written or waits.
abbrev pub invariant-loop-element : goal.invariant-loop-element
invariant-loop-element g l =
    let sink = g.O.Sink in
    record {
      written : Written (flat_map (string_given l.is_text) l.elements) (flat_map (string_given l.is_text) (drop l.element-index l.elements)) l.block.items (sink.taken l.fn.out) (sink.taken l.out);
      count : sink.fault_count l.out ≡ sink.fault_count l.fn.out;
    }
