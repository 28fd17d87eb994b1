use Rattle.std.proofs.Common.{◌≡◌, drop}
use Rattle.vf_base.specs.Links.{is_script}
use Rattle.bench_lines.proofs.responder.served.may_come.Given as goal

abbrev pub invariant-loop-event : goal.invariant-loop-event
invariant-loop-event l = is_script l.last (drop l.event-index l.events) ≡ is_script 0 l.events
