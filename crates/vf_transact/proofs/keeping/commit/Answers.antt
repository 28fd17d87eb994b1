-- The store's own clauses say it, of tables to which the changes lead.
use Rattle.std.proofs.Common.{arith, false, [], ◌∷◌}
use Rattle.vf_transact.proofs.Stores.{committed, fitting, lost, none_lead, untouched}
use Rattle.vf_transact.proofs.Full.{commit_full}
use Rattle.vf_transact.proofs.keeping.commit.Goals as goal

pub returns-then-len-eq0-clause-kept : goal.returns-then-len-eq0-clause-kept
returns-then-len-eq0-clause-kept g c = λ tables leads represented.
    let same = none_lead c.args.store.now.tables c.args.changes tables (omega (arith, c.len.ensures, c.if-len-eq0.true)) leads in
    untouched g.D.Disk.shown g.D.Disk.may_leave g.D.Disk.moment g.D.Disk.left_since g.met.D.Disk.only_now c.args.store.now (tables ∷ []) tables false represented same

pub returns-in-Ok-clause-kept : goal.returns-in-Ok-clause-kept
returns-in-Ok-clause-kept g c = λ tables leads represented.
    let fits = fitting c.args.store.now.tables c.args.changes tables leads in
    committed g.D.Disk.shown g.D.Disk.may_leave g.D.Disk.moment g.D.Disk.left_since c.args.store.now c.commit.new.self c.args.changes tables leads
    (c.in-Ok.ensures.any_moment fits represented) (c.in-Ok.ensures.represented fits represented) c.in-Ok.ensures.tables

pub returns-in-Err-clause-kept : goal.returns-in-Err-clause-kept
returns-in-Err-clause-kept g c = λ tables leads represented.
    let fits = fitting c.args.store.now.tables c.args.changes tables leads in
    lost g.D.Disk.shown g.D.Disk.may_leave g.D.Disk.moment g.D.Disk.left_since g.met.D.Disk.counts_now c.args.store.now c.commit.new.self c.args.changes tables
    _ _ _ _ c.in-Err.error leads c.in-Err.ensures.answers (c.in-Err.ensures.any_moment fits represented) represented

pub returns-in-Err-clause-full : goal.returns-in-Err-clause-full
returns-in-Err-clause-full g c = commit_full c.args.store.now c.commit.new.self c.args.changes _ _ _ c.in-Err.error c.in-Err.ensures.answers
