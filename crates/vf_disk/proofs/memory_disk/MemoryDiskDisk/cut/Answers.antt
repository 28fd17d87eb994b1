use Rattle.std.specs.Prelude.{is_err, true}
use Rattle.vf_disk.specs.declared.step.Step.TheVariants.{CutTo}
use Rattle.vf_disk.proofs.Kept.{cut_follows, cut_shown, cut_size, keeps_plan, keeps_state, keeps_time}
use Rattle.vf_disk.proofs.memory_disk.MemoryDiskDisk.cut.Goals as goal

pub returns-clause-shown : goal.returns-clause-shown
returns-clause-shown c = cut_shown c.args.self.now c.shorten.new.self c.args.to c.shorten.result c.shorten.ensures.kept

pub returns-clause-size : goal.returns-clause-size
returns-clause-size c = cut_size c.args.self.now c.shorten.new.self c.args.to c.shorten.result c.requires c.shorten.ensures.kept

pub returns-clause-crash : goal.returns-clause-crash
returns-clause-crash c = cut_follows c.args.self.now c.shorten.new.self c.args.to (is_err c.shorten.result) c.shorten.ensures.kept

pub returns-clause-time : goal.returns-clause-time
returns-clause-time c = keeps_time c.args.self.now c.shorten.new.self (CutTo c.args.to true) (is_err c.shorten.result) c.shorten.ensures.kept

pub returns-clause-plan : goal.returns-clause-plan
returns-clause-plan c = keeps_plan c.args.self.now c.shorten.new.self (CutTo c.args.to true) (is_err c.shorten.result) c.shorten.ensures.plan c.shorten.ensures.kept

pub returns-clause-state : goal.returns-clause-state
returns-clause-state c = keeps_state c.args.self.now c.shorten.new.self (CutTo c.args.to true) (is_err c.shorten.result) c.shorten.ensures.plan c.shorten.ensures.kept

pub returns-clause-ok : goal.returns-clause-ok
returns-clause-ok c = c.shorten.ensures.ok

pub returns-clause-falls : goal.returns-clause-falls
returns-clause-falls c = c.shorten.ensures.falls

pub returns-clause-failed : goal.returns-clause-failed
returns-clause-failed c = c.shorten.ensures.failed

pub returns-clause-kept : goal.returns-clause-kept
returns-clause-kept c = c.shorten.ensures.kept
