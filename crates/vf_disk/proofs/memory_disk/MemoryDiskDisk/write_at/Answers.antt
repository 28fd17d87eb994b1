use Rattle.std.specs.Prelude.{is_err, true}
use Rattle.vf_disk.specs.declared.step.Step.TheVariants.{Wrote}
use Rattle.vf_disk.proofs.Kept.{keeps_plan, keeps_state, keeps_time, write_follows, write_long, write_shown, write_size}
use Rattle.vf_disk.proofs.memory_disk.MemoryDiskDisk.write_at.Goals as goal

pub returns-clause-shown : goal.returns-clause-shown
returns-clause-shown c = write_shown c.args.self.now c.write.new.self c.args.at c.args.octets.now c.write.result c.write.ensures.kept

pub returns-clause-size : goal.returns-clause-size
returns-clause-size c = write_size c.args.self.now c.write.new.self c.args.at c.args.octets.now c.write.result c.requires c.write.ensures.kept

pub returns-clause-crash : goal.returns-clause-crash
returns-clause-crash c = write_follows c.args.self.now c.write.new.self c.args.at c.args.octets.now (is_err c.write.result) c.requires c.write.ensures.kept

pub returns-clause-long : goal.returns-clause-long
returns-clause-long c = write_long c.args.self.now c.write.new.self c.args.at c.args.octets.now (is_err c.write.result) c.write.ensures.kept

pub returns-clause-time : goal.returns-clause-time
returns-clause-time c = keeps_time c.args.self.now c.write.new.self (Wrote c.args.at c.args.octets.now true) (is_err c.write.result) c.write.ensures.kept

pub returns-clause-plan : goal.returns-clause-plan
returns-clause-plan c = keeps_plan c.args.self.now c.write.new.self (Wrote c.args.at c.args.octets.now true) (is_err c.write.result) c.write.ensures.plan c.write.ensures.kept

pub returns-clause-state : goal.returns-clause-state
returns-clause-state c = keeps_state c.args.self.now c.write.new.self (Wrote c.args.at c.args.octets.now true) (is_err c.write.result) c.write.ensures.plan c.write.ensures.kept

pub returns-clause-ok : goal.returns-clause-ok
returns-clause-ok c = c.write.ensures.ok

pub returns-clause-falls : goal.returns-clause-falls
returns-clause-falls c = c.write.ensures.falls

pub returns-clause-failed : goal.returns-clause-failed
returns-clause-failed c = c.write.ensures.failed

pub returns-clause-kept : goal.returns-clause-kept
returns-clause-kept c = c.write.ensures.kept
