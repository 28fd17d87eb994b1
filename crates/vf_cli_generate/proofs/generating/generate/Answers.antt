use Rattle.std.proofs.Common.{◌∙◌, ℕ, Err, ap, refl, subst, sym}
use Rattle.vf_base.specs.Faults.{HasRisen}
use Rattle.vf_disk.proofs.Runs.{joined, weaker}
use Rattle.vf_store.specs.Represented.{Represents}
use Rattle.vf_tables.specs.Entries.{no_tables}
use Rattle.vf_tables.specs.declared.tables.Tables.{Tables}
use Rattle.vf_cli_generate.proofs.Ends.{disk_by, making_refuses, makes_by, opening_refuses, opens_by, opens_full}
use Rattle.vf_cli_generate.proofs.Making.{at_first, makes_well}
use Rattle.vf_cli_generate.specs.Generating.{AlongFront, Answer, DoesGenerate, FrontOfFiles, GenerateCauses, IsFullOf, IsFullOn, PrintsMade, store_limit}
use Rattle.vf_cli_generate.proofs.Going.{where_full_to}
use Rattle.vf_cli_generate.proofs.generating.generate.Goals as goal

pub returns-in-Ok-clause-does : goal.returns-in-Ok-clause-does
returns-in-Ok-clause-does g c =
    let number : ℕ = c.args.number in
    let count : ℕ = c.args.count in
    let old = c.in-Ok.responder in
    let new = c.make_files-answer.new.responder in
    let answer : Answer = c.make_files-answer.result in
    let status = c.print_made-status.result in
    let taken = g.O.Sink.taken c.args.out.now in
    let taken' = g.O.Sink.taken c.print_made-status.new.out in
    let does : DoesGenerate g.D.Disk.shown g.D.Disk.size g.D.Disk.may_leave g.D.Disk.moment g.D.Disk.left_since number count c.args.disk new.store.disk (g.D.Disk.fault_count c.args.disk) (g.D.Disk.fault_count new.store.disk) status
    taken taken' = record {
      answer = answer;
      tables = new.store.tables;
      printed = subst (λ (t : Tables). PrintsMade t answer status taken taken') c.tables.ensures c.print_made-status.ensures.prints;
      causes = makes_by store_limit old.store.journal.limit (g.D.Disk.fault_count c.args.disk) (g.D.Disk.fault_count old.store.disk) (g.D.Disk.fault_count new.store.disk) answer
          c.in-Ok.ensures.limit c.in-Ok.ensures.causes c.make_files-answer.ensures.causes;
      refuses = λ image shows. making_refuses image old.store.journal.limit (g.D.Disk.fault_count old.store.disk) (g.D.Disk.fault_count new.store.disk) answer
          (c.in-Ok.ensures.answers image shows) c.make_files-answer.ensures.causes;
      makes = λ image tables serving shows represents begun.
          makes_well g.D.Disk.shown g.D.Disk.may_leave g.D.Disk.moment g.D.Disk.left_since number count serving old new answer
          (c.make_files-answer.ensures.makes serving (c.in-Ok.ensures.begins image tables serving shows represents begun) (c.in-Ok.ensures.represented image tables shows represents).1);
      full = λ image tables serving shows represents begun.
          where_full_to answer (IsFullOf (FrontOfFiles number count serving) serving new.store) (IsFullOn g.D.Disk.size store_limit (FrontOfFiles number count serving) serving new.store.disk)
          (c.make_files-answer.ensures.makes serving (c.in-Ok.ensures.begins image tables serving shows represents begun) (c.in-Ok.ensures.represented image tables shows represents).1).full
          (λ place at. (new.store, record { on = refl; limited = c.make_files-answer.ensures.limit ∙ c.in-Ok.ensures.limit; within = c.lies_within.ensures }, at));
      any_moment = λ image tables serving shows represents leaves begun.
          joined g.D.Disk.moment g.D.Disk.left_since c.args.disk old.store.disk new.store.disk (λ image. Represents image tables) (AlongFront (FrontOfFiles number count serving) serving)
          (AlongFront (FrontOfFiles number count serving) serving) (c.in-Ok.ensures.any_moment tables leaves)
          (c.make_files-answer.ensures.makes serving (c.in-Ok.ensures.begins image tables serving shows represents begun) (c.in-Ok.ensures.represented image tables shows represents).1).any_moment
          (λ image first. at_first number count serving tables image begun first) (λ image along. along);
    } in
    subst (λ disk. DoesGenerate g.D.Disk.shown g.D.Disk.size g.D.Disk.may_leave g.D.Disk.moment g.D.Disk.left_since number count c.args.disk disk (g.D.Disk.fault_count c.args.disk) (g.D.Disk.fault_count disk) status taken taken')
    (sym c.close.ensures) does

pub returns-in-Err-clause-does : goal.returns-in-Err-clause-does
returns-in-Err-clause-does g c = record {
  answer = Err c.in-Err.error;
  tables = no_tables;
  printed = c.print_error-status.ensures.prints;
  causes = opens_by store_limit (g.D.Disk.fault_count c.args.disk) (g.D.Disk.fault_count c.in-Err.disk) c.in-Err.error c.in-Err.ensures.causes;
  refuses = λ image shows. opening_refuses image c.in-Err.error (c.in-Err.ensures.answers image shows);
  makes = λ image tables serving shows represents begun. tt;
  full = λ image tables serving shows represents begun.
      opens_full (IsFullOn g.D.Disk.size store_limit (FrontOfFiles c.args.number c.args.count serving) serving c.in-Err.disk) (g.D.Disk.fault_count c.args.disk) (g.D.Disk.fault_count c.in-Err.disk) c.in-Err.error c.in-Err.ensures.causes;
  any_moment = λ image tables serving shows represents leaves begun.
      weaker g.D.Disk.moment g.D.Disk.left_since c.args.disk c.in-Err.disk (λ image. Represents image tables) (AlongFront (FrontOfFiles c.args.number c.args.count serving) serving)
      (c.in-Err.ensures.any_moment tables leaves) (λ image first. at_first c.args.number c.args.count serving tables image begun first);
}

pub returns-in-Ok-clause-disk_cause : goal.returns-in-Ok-clause-disk_cause
returns-in-Ok-clause-disk_cause g c = λ e.
    let old = c.in-Ok.responder in
    let new = c.make_files-answer.new.responder in
    let answer : Answer = c.make_files-answer.result in
    let causes : GenerateCauses store_limit (g.D.Disk.fault_count c.args.disk) (g.D.Disk.fault_count new.store.disk) answer =
    makes_by store_limit old.store.journal.limit (g.D.Disk.fault_count c.args.disk) (g.D.Disk.fault_count old.store.disk) (g.D.Disk.fault_count new.store.disk) answer
    c.in-Ok.ensures.limit c.in-Ok.ensures.causes c.make_files-answer.ensures.causes in
    subst (λ disk. HasRisen (g.D.Disk.fault_count c.args.disk) (g.D.Disk.fault_count disk)) (sym c.close.ensures)
    (disk_by store_limit (g.D.Disk.fault_count c.args.disk) (g.D.Disk.fault_count new.store.disk) answer (c.print_made-status.ensures.fault e) causes)

pub returns-in-Err-clause-disk_cause : goal.returns-in-Err-clause-disk_cause
returns-in-Err-clause-disk_cause g c = λ e.
    let answer : Answer = Err c.in-Err.error in
    disk_by store_limit (g.D.Disk.fault_count c.args.disk) (g.D.Disk.fault_count c.in-Err.disk) answer (ap (λ error. (let a : Answer = Err error in a)) (c.print_error-status.ensures.fault e))
    (opens_by store_limit (g.D.Disk.fault_count c.args.disk) (g.D.Disk.fault_count c.in-Err.disk) c.in-Err.error c.in-Err.ensures.causes)
