use Rattle.vf_cli_transact.proofs.Causes.{disk_by, input_by, lost_by, output_by}
use Rattle.vf_cli_transact.specs.Tasks.{store_limit}
use Rattle.vf_cli_transact.proofs.tasks.do_task.Goals as goal

pub returns-clause-does : goal.returns-clause-does
returns-clause-does g c = record {
  answer = c.transact-disk.result.1;
  between = g.O.Sink.taken c.transact-disk.new.out;
  between_faults = g.O.Sink.fault_count c.transact-disk.new.out;
  printed = c.print_answer-status.ensures.prints;
  broken = c.transact-disk.ensures.broken;
  disk_cause = c.transact-disk.ensures.disk_cause;
  input_cause = c.transact-disk.ensures.input_cause;
  output_cause = c.transact-disk.ensures.output_cause;
  refused = c.transact-disk.ensures.refused;
  does = λ image input output tables calls words shows represents left taken told. c.transact-disk.ensures.does image input output tables calls words shows represents left taken told;
}

pub returns-clause-input_cause : goal.returns-clause-input_cause
returns-clause-input_cause g c = λ e. input_by _ _ c.transact-disk.result.1 (c.print_answer-status.ensures.input_fault e) c.transact-disk.ensures.input_cause

pub returns-clause-output_cause : goal.returns-clause-output_cause
returns-clause-output_cause g c = λ e. output_by _ (g.O.Sink.fault_count c.transact-disk.new.out) _ c.transact-disk.result.1 (c.print_answer-status.ensures.output_fault e) c.transact-disk.ensures.output_cause

pub returns-clause-disk_cause : goal.returns-clause-disk_cause
returns-clause-disk_cause g c = λ e. disk_by _ store_limit _ _ c.transact-disk.result.1 (c.print_answer-status.ensures.disk_fault e) c.transact-disk.ensures.disk_cause

pub returns-clause-lost_cause : goal.returns-clause-lost_cause
returns-clause-lost_cause g c = λ e. lost_by _ _ _ c.transact-disk.result.1 (c.print_answer-status.ensures.broken e) c.transact-disk.ensures.broken
