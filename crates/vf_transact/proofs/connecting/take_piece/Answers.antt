-- What the initiator owes of a piece, and that the changes of it lead to the tables with the task as it then stands.
use Rattle.std.proofs.Common.{◌≡◌, inl, inr, refl, sym, ap, subst, ◌∙◌, List, [], ◌∷◌, ◌++◌, is_some}
use Rattle.std.proofs.lemmas.Result.{err_from_is_err_and}
use Rattle.vf_initiator.specs.Keeping.{changes_since, mark_of}
use Rattle.vf_initiator.specs.Says.{doing_of, elements_of}
use Rattle.vf_initiator.specs.declared.doing.Doing.{Doing}
use Rattle.vf_tables.specs.declared.change.Change.{Change}
use Rattle.vf_tables.specs.declared.tables.Tables.{Tables}
use Rattle.vf_transact.specs.Connecting.{KeepsAs, LosesIn, Writes, WritesPart}
use Rattle.vf_transact.specs.Conversation.{tables_at}
use Rattle.vf_transact.specs.Transaction.{AtFull, EndsOn, is_disk}
use Rattle.vf_transact.specs.declared.error.TransactError.{TransactError}
use Rattle.vf_transact.proofs.Full.{full_on, never_written}
use Rattle.vf_transact.proofs.Kept.{goes_on, leads_for}
use Rattle.vf_transact.proofs.Stores.{untouched}
use Rattle.vf_transact.proofs.Talks.{if_err, part_of_all}
use Rattle.vf_transact.proofs.connecting.take_piece.Goals as goal

pub returns-in_err-doing-clause-interrupted : goal.returns-in_err-doing-clause-interrupted
returns-in_err-doing-clause-interrupted g c = λ talk represents stands keeps.
    let p = err_from_is_err_and c.from_residual.result c.from_residual.ensures.1 in
    if_err c.from_residual.result (LosesIn g.D.Disk.shown g.D.Disk.may_leave g.D.Disk.moment g.D.Disk.left_since c.args.initiator.now.given c.args.kind talk c.args.piece.now c.args.store.now c.args.store.now (g.O.Sink.taken c.args.out.now) (g.O.Sink.taken c.args.out.now)) p.0 p.1
    (record {
      next = [];
      loses = inl (refl, refl, p.2);
      keeps = untouched g.D.Disk.shown g.D.Disk.may_leave g.D.Disk.moment g.D.Disk.left_since g.met.D.Disk.only_now c.args.store.now [] c.args.store.now.tables (is_disk p.0) stands refl;
    })

pub returns-in_err-write_ended-clause-interrupted : goal.returns-in_err-write_ended-clause-interrupted
returns-in_err-write_ended-clause-interrupted g c = λ talk represents stands keeps.
    let given = c.args.initiator.now.given in
    let taken = c.in_ok-doing.ensures.taken talk represents in
    let next = tables_at given taken.after.conduct c.args.store.now.tables in
    let p = err_from_is_err_and c.from_residual-in_err-write_ended.result c.from_residual-in_err-write_ended.ensures.1 in
    let part = subst (λ (d : Doing). WritesPart c.args.kind (elements_of taken.after.conduct) d (g.O.Sink.taken c.args.out.now) (g.O.Sink.taken c.write_ended.new.out)) taken.doing_is (c.in_err-write_ended.ensures.front taken.after taken.rest taken.owes) in
    if_err c.from_residual-in_err-write_ended.result (LosesIn g.D.Disk.shown g.D.Disk.may_leave g.D.Disk.moment g.D.Disk.left_since given c.args.kind talk c.args.piece.now c.args.store.now c.args.store.now (g.O.Sink.taken c.args.out.now) (g.O.Sink.taken c.write_ended.new.out)) p.0 p.1
    (record {
      next = next ∷ [];
      loses = inr (
        taken.octets,
        taken.after,
        (
          taken.takes,
          refl,
          part,
          subst (λ (e : TransactError). AtFull e (EndsOn g.D.Disk.shown g.D.Disk.may_leave c.args.store.now.disk c.args.store.now.tables (changes_since given (mark_of given talk.conduct) taken.after.conduct))) (sym p.2)
              (never_written c.in_err-write_ended.field-0.0 (g.O.Sink.fault_count c.args.out.now) (g.O.Sink.fault_count c.write_ended.new.out)
              (EndsOn g.D.Disk.shown g.D.Disk.may_leave c.args.store.now.disk c.args.store.now.tables (changes_since given (mark_of given talk.conduct) taken.after.conduct)) c.in_err-write_ended.ensures.cause),
        ),
      );
      keeps = untouched g.D.Disk.shown g.D.Disk.may_leave g.D.Disk.moment g.D.Disk.left_since g.met.D.Disk.only_now c.args.store.now (next ∷ []) c.args.store.now.tables (is_disk p.0) stands refl;
    })

pub returns-in-Err-clause-interrupted : goal.returns-in-Err-clause-interrupted
returns-in-Err-clause-interrupted g c = λ talk represents stands keeps.
    let given = c.args.initiator.now.given in
    let taken = c.in_ok-doing.ensures.taken talk represents in
    let next = tables_at given taken.after.conduct c.args.store.now.tables in
    let lead = leads_for c.tasks_are_kept.ensures.taken given (is_some given.assignment.activity) talk c.args.piece.now taken.octets taken.after c.args.store.now.tables c.new-changes.result c.take_waiting.new.changes c.new-changes.ensures taken.changed keeps taken.takes in
    let part = part_of_all c.args.kind (elements_of taken.after.conduct) (doing_of taken.after.conduct) (g.O.Sink.taken c.args.out.now) (g.O.Sink.taken c.write_ended.new.out)
    (subst (λ (d : Doing). Writes c.args.kind (elements_of taken.after.conduct) d (g.O.Sink.taken c.args.out.now) (g.O.Sink.taken c.write_ended.new.out)) taken.doing_is (c.in_ok-write_ended.ensures.all taken.after taken.rest taken.owes)) in
    let changed : c.take_waiting.new.changes ≡ changes_since given (mark_of given talk.conduct) taken.after.conduct = taken.changed ∙ ap (λ (l : List Change). l ++ changes_since given (mark_of given talk.conduct) taken.after.conduct) c.new-changes.ensures in
    record {
      next = next ∷ [];
      loses = inr (
        taken.octets,
        taken.after,
        (
          taken.takes,
          refl,
          part,
          full_on g.D.Disk.shown g.D.Disk.may_leave c.args.store.now c.commit.new.store c.take_waiting.new.changes (changes_since given (mark_of given talk.conduct) taken.after.conduct) c.in-Err.error stands changed c.in-Err.ensures.full,
        ),
      );
      keeps = c.in-Err.ensures.kept next lead stands;
    }

pub returns-in-Ok-clause-takes : goal.returns-in-Ok-clause-takes
returns-in-Ok-clause-takes g c = λ talk represents.
    let given = c.args.initiator.now.given in
    let taken = c.in_ok-doing.ensures.taken talk represents in
    let next = tables_at given taken.after.conduct c.args.store.now.tables in (
      taken.after,
      record { octets = taken.octets; rest = taken.rest; takes = taken.takes; owes = taken.owes; given_is = taken.given_is; sent = taken.sent; doing_is = taken.doing_is },
      c.in_ok-write_ended.ensures.all taken.after taken.rest taken.owes,
      λ stands keeps.
          let law = c.tasks_are_kept.ensures.taken in
          let lead = leads_for law given (is_some given.assignment.activity) talk c.args.piece.now taken.octets taken.after c.args.store.now.tables c.new-changes.result c.take_waiting.new.changes c.new-changes.ensures taken.changed keeps taken.takes in
          let kept = c.in-Ok.ensures.kept next lead stands in
          record {
            keeps = kept;
            goes_on = λ going. subst (λ (tables : Tables). KeepsAs given taken.after tables) (sym (kept.stands refl).1)
                (goes_on law given (is_some given.assignment.activity) talk c.args.piece.now taken.octets taken.after c.args.store.now.tables keeps taken.takes (sym taken.doing_is ∙ going));
          },
    )
