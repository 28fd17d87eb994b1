use Rattle.std.proofs.Common.{◌≡◌, ◌-◌, ◌+◌, ◌≤◌, length}
use Rattle.vf_base.specs.Streams.{HasRead}
use Rattle.vf_transact.proofs.reading.read_blocks.Given as goal

-- the octets so far were read without a fault
abbrev pub invariant-loop-input : goal.invariant-loop-input
invariant-loop-input g l =
    let source = g.I.Source in
    record {
      room : 65535 ≤ length l.block.items;
      read : HasRead (source.left l.fn.input) (source.left l.input) l.octets.items;
      count : source.fault_count l.input ≡ source.fault_count l.fn.input;
    }

abbrev pub decreases-loop-input : goal.decreases-loop-input
decreases-loop-input g l = l.limit + 1 - length l.octets.items
