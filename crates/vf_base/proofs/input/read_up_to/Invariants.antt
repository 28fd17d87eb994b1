use Rattle.std.proofs.Common.{◌≡◌, ◌-◌, ◌+◌, length}
use Rattle.vf_base.specs.Streams.{HasRead}
use Rattle.vf_base.proofs.input.read_up_to.Given as goal

-- the octets so far were read without a fault
abbrev pub invariant-loop-piece : goal.invariant-loop-piece
invariant-loop-piece g l =
    let source = g.S.Source in
    record {
      read : HasRead (source.left l.fn.source) (source.left l.source) l.octets.items;
      count : source.fault_count l.source ≡ source.fault_count l.fn.source;
    }

abbrev pub decreases-loop-piece : goal.decreases-loop-piece
decreases-loop-piece g l = l.limit + 1 - length l.octets.items
