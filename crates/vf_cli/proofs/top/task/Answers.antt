use Rattle.std.proofs.Common.{◌≡◌, ◌∙◌, Some, inr, refl, subst, sym}
use Rattle.vf_base.specs.Faults.{HasRisenBy}
use Rattle.vf_cli_transact.specs.Tasks.{DoesTask, Ends}
use Rattle.vf_journal.specs.Image.{refusal}
use Rattle.vf_transact.specs.Starting.{connections_of}
use Rattle.vf_transact.specs.declared.words.PlanWords.{PlanWords}
use Rattle.vf_cli.proofs.Completes.{task_ends, task_nine}
use Rattle.vf_cli.proofs.top.task.Goals as goal

same_plan : (one other : PlanWords) → Some one ≡ Some other → one ≡ other
same_plan one other is = cc

pub returns-in-Ok-clause-transacts : goal.returns-in-Ok-clause-transacts
returns-in-Ok-clause-transacts g c = λ plan asked.
    let same : c.in-Ok.plan ≡ plan = same_plan c.in-Ok.plan plan (sym c.in-Ok.ensures ∙ asked) in
    let ends : Ends = record {
      input = g.I.Source.left c.args.input.now;
      input_faults = g.I.Source.fault_count c.args.input.now;
      input_faults' = g.I.Source.fault_count c.do_task.new.input;
      output = g.O.Sink.taken c.args.out.now;
      output' = g.O.Sink.taken c.do_task.new.out;
      output_faults = g.O.Sink.fault_count c.args.out.now;
      dial = g.C.Dial.told c.args.dial.now;
      dial' = g.C.Dial.told c.do_task.new.dial;
      dial_faults = g.C.Dial.fault_count c.args.dial.now;
      dial_faults' = g.C.Dial.fault_count c.do_task.new.dial;
      lost = g.C.Dial.lost_count c.args.dial.now;
      lost' = g.C.Dial.lost_count c.do_task.new.dial;
    } in
    inr (subst (λ (words : PlanWords). DoesTask g.D.Disk.shown g.D.Disk.may_leave g.D.Disk.moment g.D.Disk.left_since words c.args.disk c.do_task.result.0 (g.D.Disk.fault_count c.args.disk)
    (g.D.Disk.fault_count c.do_task.result.0) ends c.do_task.result.1) same c.do_task.ensures.does)

pub returns-in-Ok-clause-lost_cause : goal.returns-in-Ok-clause-lost_cause
returns-in-Ok-clause-lost_cause g c = λ plan asked six.
    let same : c.in-Ok.plan ≡ plan = same_plan c.in-Ok.plan plan (sym c.in-Ok.ensures ∙ asked) in
    subst (λ (words : PlanWords). HasRisenBy (connections_of words) (g.C.Dial.lost_count c.args.dial.now) (g.C.Dial.lost_count c.do_task.new.dial)) same (c.do_task.ensures.lost_cause six)

pub returns-in-Ok-clause-completes : goal.returns-in-Ok-clause-completes
returns-in-Ok-clause-completes g c = λ octets shows input out disk.
    let does = c.do_task.ensures.does in
    task_ends c.do_task.result.1 (λ e. input (c.do_task.ensures.input_cause e)) (λ e. out (c.do_task.ensures.output_cause e)) (λ e. disk (c.do_task.ensures.disk_cause e))
    _ _ octets _ _ _ does.answer does.between _ shows does.printed does.disk_cause (does.refused octets shows)

pub returns-in-Err-clause-completes : goal.returns-in-Err-clause-completes
returns-in-Err-clause-completes g c = λ octets shows input out disk. task_nine (refusal octets) 9 refl
