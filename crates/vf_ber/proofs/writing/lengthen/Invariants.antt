use Rattle.std.proofs.Common.{◌≡◌, ◌+◌, length, take}
use Rattle.vf_ber.proofs.writing.lengthen.Given as goal

-- what was there stays before the room so far
abbrev pub invariant-loop-left : goal.invariant-loop-left
invariant-loop-left l = record {
  len : l.len ≡ length l.fn.out.items;
  room : length l.out.items + l.left ≡ length l.fn.out.items + l.count;
  kept : take (length l.fn.out.items) l.out.items ≡ l.fn.out.items;
}

abbrev pub decreases-loop-left : goal.decreases-loop-left
decreases-loop-left l = l.left
