use Rattle.vf_disk.proofs.Settled.{fresh_leaves}
use Rattle.vf_disk.proofs.memory_disk.MemoryDisk.of.Goals as goal

pub returns-clause-synced : goal.returns-clause-synced
returns-clause-synced c = fresh_leaves c.args.octets.now c.in_ok-first.first c.new.result.items c.in_ok-first.ensures c.new.ensures.items
