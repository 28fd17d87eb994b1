use Rattle.std.proofs.Common.{◌+◌, ◌≤◌, take, true}
use Rattle.vf_store_commands.specs.Reading.{Takes, most_progress, progress}
use Rattle.vf_store_commands.proofs.user_lines.UserLines.take.Given as goal

abbrev pub invariant-loop-octet : goal.invariant-loop-octet
invariant-loop-octet l = record {
  takes : Takes l.initial.self (take l.octet-index l.block) l.self true;
  more : progress l.initial.self + l.octet-index ≤ progress l.self;
  within : progress l.self ≤ most_progress;
}
