use Rattle.std.proofs.Common.{◌≡◌, inl, inr, ⊎_elim, List, [], ◌∷◌, ℕ, refl, subst, sym}
use Rattle.vf_disk.specs.Disk.{LeavesOnly}
use Rattle.vf_disk.proofs.Runs.{joined}
use Rattle.vf_cli_printing.specs.Printed.{Prints}
use Rattle.vf_journal.specs.Image.{records_of}
use Rattle.vf_journal.specs.JournalState.{JournalState, when_opened}
use Rattle.vf_store.specs.Represented.{Represents, RepresentsEither, read_from}
use Rattle.vf_tables.specs.Entries.{no_tables}
use Rattle.vf_tables.specs.declared.tables.Tables.{Tables}
use Rattle.vf_store_commands.specs.Dropping.{Drops, drop_of, end_of_drop, printed_by_drop, without}
use Rattle.vf_store_commands.specs.declared.limits.TheConstants.{STORE_LIMIT}
use Rattle.vf_store_commands.specs.Making.{IsAsBefore}
use Rattle.vf_tables.specs.Fitting.{stands_in}
use Rattle.vf_store_commands.proofs.Opened.{opened_drop, refused_drop}
use Rattle.vf_store_commands.proofs.Statuses.{among, apart}
use Rattle.vf_store_commands.proofs.dropping.drop_kept.Goals as goal

pub returns-in-Ok-clause-drops : goal.returns-in-Ok-clause-drops
returns-in-Ok-clause-drops g c = λ image tables shows represents good zero.
    let opened = c.in-Ok.ensures.represented image tables shows represents in
    subst (λ (t : Tables). Drops g.D.Disk.shown g.D.Disk.may_leave c.drop_in.result.0 c.args.kept t) opened.0 (c.drop_in.ensures.drops opened.1 good zero)

pub returns-in-Ok-clause-any_moment : goal.returns-in-Ok-clause-any_moment
returns-in-Ok-clause-any_moment g c = λ image tables shows represents leaves good.
    let opened = c.in-Ok.ensures.represented image tables shows represents in
    let kept = c.args.kept in
    let either : List ℕ → Type 0 = RepresentsEither tables (without kept tables) in
    joined g.D.Disk.moment g.D.Disk.left_since c.args.disk c.in-Ok.store.disk c.drop_in.result.0 (λ image. Represents image tables) either either
    (c.in-Ok.ensures.any_moment tables leaves)
    (subst (λ (t : Tables). LeavesOnly g.D.Disk.moment g.D.Disk.left_since c.in-Ok.store.disk c.drop_in.result.0 (RepresentsEither t (without kept t))) opened.0
    (c.drop_in.ensures.any_moment opened.1 good)) (λ image before. inl before) (λ image then. then)

pub returns-in-Ok-clause-prints : goal.returns-in-Ok-clause-prints
returns-in-Ok-clause-prints g c = λ image shows.
    let old = g.O.Sink.taken c.args.out.now in
    let new = g.O.Sink.taken c.drop_in.new.out in
    let kept = c.args.kept in
    let journal = when_opened image STORE_LIMIT in
    let tables = read_from (records_of image) no_tables in
    opened_drop image kept journal tables c.drop_in.result.1 old new (c.in-Ok.ensures.answers image shows)
    (subst (λ (j : JournalState). Prints (4 ∷ 5 ∷ 9 ∷ []) (printed_by_drop (stands_in tables (drop_of kept)) (end_of_drop kept j tables)) c.drop_in.result.1 old new) (c.in-Ok.ensures.journal image shows)
    (subst (λ (t : Tables). Prints (4 ∷ 5 ∷ 9 ∷ []) (printed_by_drop (stands_in t (drop_of kept)) (end_of_drop kept c.in-Ok.store.journal t)) c.drop_in.result.1 old new) (c.in-Ok.ensures.tables image shows)
    c.drop_in.ensures.prints))

pub returns-in-Err-clause-prints : goal.returns-in-Err-clause-prints
returns-in-Err-clause-prints g c = λ image shows.
    refused_drop image c.args.kept (when_opened image STORE_LIMIT) (read_from (records_of image) no_tables) c.print_error-status.result (g.O.Sink.taken c.args.out.now) (g.O.Sink.taken c.print_error-status.new.out)
    c.in-Err.error (c.in-Err.ensures.answers image shows) c.print_error-status.ensures.prints

pub returns-in-Ok-clause-ends : goal.returns-in-Ok-clause-ends
returns-in-Ok-clause-ends g c = among (0 ∷ 1 ∷ 4 ∷ 5 ∷ 9 ∷ 12 ∷ []) (0 ∷ 1 ∷ 4 ∷ 5 ∷ 8 ∷ 9 ∷ 12 ∷ []) c.drop_in.result.1 refl c.drop_in.ensures.ends

pub returns-in-Ok-clause-keeps : goal.returns-in-Ok-clause-keeps
returns-in-Ok-clause-keeps g c = λ is.
    let status = c.drop_in.result.1 in
    let never_eight = λ (eight : status ≡ 8). apart (0 ∷ 1 ∷ 4 ∷ 5 ∷ 9 ∷ 12 ∷ []) (8 ∷ []) status refl c.drop_in.ensures.ends (inl eight) in
    let same = c.drop_in.ensures.keeps (⊎_elim (λ one. inl one) (λ rest. ⊎_elim (λ eight. absurd (never_eight eight)) (λ twelve. inr twelve) rest) is) in
    subst (λ disk. IsAsBefore g.D.Disk.shown g.D.Disk.may_leave c.args.disk disk) (sym same) (c.in-Ok.ensures.looks.same, c.in-Ok.ensures.looks.now)

pub returns-in-Err-clause-ends : goal.returns-in-Err-clause-ends
returns-in-Err-clause-ends g c = among (4 ∷ 5 ∷ 8 ∷ 9 ∷ 12 ∷ []) (0 ∷ 1 ∷ 4 ∷ 5 ∷ 8 ∷ 9 ∷ 12 ∷ []) c.print_error-status.result refl c.print_error-status.ensures.ends

pub returns-in-Err-clause-drops : goal.returns-in-Err-clause-drops
returns-in-Err-clause-drops g c = λ image tables shows represents good zero. absurd (apart (4 ∷ 5 ∷ 8 ∷ 9 ∷ 12 ∷ []) (0 ∷ []) c.print_error-status.result refl c.print_error-status.ensures.ends (inl zero))

pub returns-in-Err-clause-keeps : goal.returns-in-Err-clause-keeps
returns-in-Err-clause-keeps g c = λ is. (c.in-Err.ensures.looks.same, c.in-Err.ensures.looks.now)
