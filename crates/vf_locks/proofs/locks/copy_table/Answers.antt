use Rattle.std.specs.Map.Iter.{deref_pair}
use Rattle.std.proofs.lemmas.Map.Iter.{rest_more}
use Rattle.vf_locks.proofs.Entries.{entries_more}
use Rattle.vf_locks.proofs.locks.copy_table.Goals as goal

pub loop-name-preserved-in_ok-insert : goal.loop-name-preserved-in_ok-insert
loop-name-preserved-in_ok-insert c = record {
  entries = entries_more _ _ _ _ _ _ _ _ _ c.loop-name.invariant.entries
      (rest_more deref_pair _ _ _ (c.in-Some.name, c.in-Some.holders) c.in-Some.is c.next.ensures.steps)
      c.in_ok-name.ensures c.in_ok-holders.ensures c.loop-name.invariant.distinct c.in_ok-insert.ensures.entries;
  distinct = c.loop-name.invariant.distinct;
}

pub loop-name-preserved : goal.loop-name-preserved
loop-name-preserved c = record {
  entries = entries_more _ _ _ _ _ _ _ _ _ c.loop-name.invariant.entries
      (rest_more deref_pair _ _ _ (c.in-Some.name, c.in-Some.holders) c.in-Some.is c.next.ensures.steps)
      c.in_ok-name.ensures c.in_ok-holders.ensures c.loop-name.invariant.distinct c.in_ok-insert.ensures.entries;
  distinct = c.loop-name.invariant.distinct;
}
