use Rattle.std.proofs.Common.{◌≡◌, ◌∙◌, inl, Bool, true, false, [], ◌∷◌, ap, refl, subst, sym}
use Rattle.vf_disk.specs.Disk.{LeavesOnly}
use Rattle.vf_store.specs.Represented.{RepresentsEither}
use Rattle.vf_store.proofs.Runs.{idle_either}
use Rattle.vf_tables.specs.Fitting.{stands_in}
use Rattle.vf_tables.specs.declared.tables.Tables.{Tables}
use Rattle.vf_store_commands.specs.Dropping.{drop_of, dropped_line, end_of_drop, printed_by_drop, unknown_line, without}
use Rattle.vf_cli_printing.specs.Printed.{Printed, Prints}
use Rattle.vf_store_commands.proofs.Opened.{all_printed, dropped_within, error_dropped, error_ends, error_keeps}
use Rattle.vf_store_commands.proofs.Statuses.{among, apart}
use Rattle.vf_store_commands.proofs.dropping.drop_in.Goals as goal

pub returns-then-not-is_kept-clause-any_moment : goal.returns-then-not-is_kept-clause-any_moment
returns-then-not-is_kept-clause-any_moment g c = λ stands good.
    let tables = c.args.store.tables in
    subst (λ disk. LeavesOnly g.D.Disk.moment g.D.Disk.left_since c.args.store.disk disk (RepresentsEither tables (without c.args.kept tables))) (sym c.close.ensures)
    (idle_either g.D.Disk.shown g.D.Disk.may_leave g.D.Disk.moment g.D.Disk.left_since g.met.D.Disk.only_now c.args.store.disk c.args.store.journal tables (without c.args.kept tables) stands)

pub returns-then-not-is_kept-clause-prints : goal.returns-then-not-is_kept-clause-prints
returns-then-not-is_kept-clause-prints g c =
    let old = g.O.Sink.taken c.args.out.now in
    let new = g.O.Sink.taken c.print-status.new.out in
    let end = end_of_drop c.args.kept c.args.store.journal c.args.store.tables in
    let stands : false ≡ stands_in c.args.store.tables (drop_of c.args.kept) = c.if-not-is_kept.ensures ∙ ap (λ (t : Tables). stands_in t (drop_of c.args.kept)) c.tables.ensures in
    subst (λ (b : Bool). Prints (4 ∷ 5 ∷ 9 ∷ []) (printed_by_drop b end) c.print-status.result old new) stands
    (all_printed unknown_line 1 c.print-status.result old new c.unknown_text.result.now c.unknown_text.ensures c.print-status.ensures.prints)

pub returns-in-Ok-clause-prints : goal.returns-in-Ok-clause-prints
returns-in-Ok-clause-prints g c =
    let old = g.O.Sink.taken c.args.out.now in
    let new = g.O.Sink.taken c.print-status-in-Ok.new.out in
    let end = end_of_drop c.args.kept c.args.store.journal c.args.store.tables in
    let stands : true ≡ stands_in c.args.store.tables (drop_of c.args.kept) = c.if-not-is_kept.ensures ∙ ap (λ (t : Tables). stands_in t (drop_of c.args.kept)) c.tables.ensures in
    subst (λ (b : Bool). Prints (4 ∷ 5 ∷ 9 ∷ []) (printed_by_drop b end) c.print-status-in-Ok.result old new) stands
    (subst (λ (printed : Printed). Prints (4 ∷ 5 ∷ 9 ∷ []) printed c.print-status-in-Ok.result old new) (sym (dropped_within end c.in-Ok.ensures.within))
    (all_printed dropped_line 0 c.print-status-in-Ok.result old new c.dropped_text.result.now c.dropped_text.ensures c.print-status-in-Ok.ensures.prints))

pub returns-in-Err-clause-prints : goal.returns-in-Err-clause-prints
returns-in-Err-clause-prints g c =
    let old = g.O.Sink.taken c.args.out.now in
    let new = g.O.Sink.taken c.print_error-status.new.out in
    let end = end_of_drop c.args.kept c.args.store.journal c.args.store.tables in
    let stands : true ≡ stands_in c.args.store.tables (drop_of c.args.kept) = c.if-not-is_kept.ensures ∙ ap (λ (t : Tables). stands_in t (drop_of c.args.kept)) c.tables.ensures in
    subst (λ (b : Bool). Prints (4 ∷ 5 ∷ 9 ∷ []) (printed_by_drop b end) c.print_error-status.result old new) stands
    (error_dropped end c.in-Err.error c.print_error-status.result old new c.in-Err.ensures.errors c.print_error-status.ensures.prints)

pub returns-then-not-is_kept-clause-ends : goal.returns-then-not-is_kept-clause-ends
returns-then-not-is_kept-clause-ends g c = among (1 ∷ 4 ∷ []) (0 ∷ 1 ∷ 4 ∷ 5 ∷ 9 ∷ 12 ∷ []) c.print-status.result refl c.print-status.ensures.ends

pub returns-then-not-is_kept-clause-drops : goal.returns-then-not-is_kept-clause-drops
returns-then-not-is_kept-clause-drops g c = λ stands good zero. absurd (apart (1 ∷ 4 ∷ []) (0 ∷ []) c.print-status.result refl c.print-status.ensures.ends (inl zero))

pub returns-then-not-is_kept-clause-keeps : goal.returns-then-not-is_kept-clause-keeps
returns-then-not-is_kept-clause-keeps g c = λ is. c.close.ensures

pub returns-then-not-is_kept-clause-disk_cause : goal.returns-then-not-is_kept-clause-disk_cause
returns-then-not-is_kept-clause-disk_cause g c = λ five. absurd (apart (1 ∷ 4 ∷ []) (5 ∷ []) c.print-status.result refl c.print-status.ensures.ends (inl five))

pub returns-in-Ok-clause-ends : goal.returns-in-Ok-clause-ends
returns-in-Ok-clause-ends g c = among (0 ∷ 4 ∷ []) (0 ∷ 1 ∷ 4 ∷ 5 ∷ 9 ∷ 12 ∷ []) c.print-status-in-Ok.result refl c.print-status-in-Ok.ensures.ends

pub returns-in-Ok-clause-drops : goal.returns-in-Ok-clause-drops
returns-in-Ok-clause-drops g c = λ stands good zero. c.in-Ok.ensures.drops stands good

pub returns-in-Ok-clause-keeps : goal.returns-in-Ok-clause-keeps
returns-in-Ok-clause-keeps g c = λ is. absurd (apart (0 ∷ 4 ∷ []) (1 ∷ 12 ∷ []) c.print-status-in-Ok.result refl c.print-status-in-Ok.ensures.ends is)

pub returns-in-Ok-clause-any_moment : goal.returns-in-Ok-clause-any_moment
returns-in-Ok-clause-any_moment g c = c.in-Ok.ensures.any_moment

pub returns-in-Ok-clause-disk_cause : goal.returns-in-Ok-clause-disk_cause
returns-in-Ok-clause-disk_cause g c = λ five. absurd (apart (0 ∷ 4 ∷ []) (5 ∷ []) c.print-status-in-Ok.result refl c.print-status-in-Ok.ensures.ends (inl five))

pub returns-in-Err-clause-ends : goal.returns-in-Err-clause-ends
returns-in-Err-clause-ends g c =
    let old = g.O.Sink.taken c.args.out.now in
    let new = g.O.Sink.taken c.print_error-status.new.out in
    let end = end_of_drop c.args.kept c.args.store.journal c.args.store.tables in
    error_ends end c.in-Err.error c.print_error-status.result old new c.in-Err.ensures.errors c.print_error-status.ensures.prints

pub returns-in-Err-clause-drops : goal.returns-in-Err-clause-drops
returns-in-Err-clause-drops g c = λ stands good zero. absurd (apart (4 ∷ 5 ∷ 8 ∷ 9 ∷ 12 ∷ []) (0 ∷ []) c.print_error-status.result refl c.print_error-status.ensures.ends (inl zero))

pub returns-in-Err-clause-keeps : goal.returns-in-Err-clause-keeps
returns-in-Err-clause-keeps g c =
    let old = g.O.Sink.taken c.args.out.now in
    let new = g.O.Sink.taken c.print_error-status.new.out in
    let end = end_of_drop c.args.kept c.args.store.journal c.args.store.tables in
    error_keeps c.args.store.disk c.in-Err.disk end c.in-Err.error c.print_error-status.result old new c.in-Err.ensures.errors c.in-Err.ensures.keeps c.print_error-status.ensures.prints

pub returns-in-Err-clause-any_moment : goal.returns-in-Err-clause-any_moment
returns-in-Err-clause-any_moment g c = c.in-Err.ensures.any_moment

pub returns-in-Err-clause-disk_cause : goal.returns-in-Err-clause-disk_cause
returns-in-Err-clause-disk_cause g c = λ five. c.in-Err.ensures.cause (c.print_error-status.ensures.fault five)
