use Rattle.std.proofs.Common.{◌≡◌, ◌∙◌, inl, Bool, nat_eq, [], ◌∷◌, refl, subst, sym}
use Rattle.vf_journal.specs.Image.{records_of}
use Rattle.vf_journal.specs.Looking.{IsSyncedAndLookedAt}
use Rattle.vf_store.specs.Represented.{read_from}
use Rattle.vf_store.specs.StoreState.{StoreState}
use Rattle.vf_cli_printing.specs.Printed.{Prints}
use Rattle.vf_tables.specs.Entries.{no_tables}
use Rattle.vf_tables.specs.declared.tables.Tables.{Tables}
use Rattle.vf_store_commands.specs.Dockets.{docket_lines}
use Rattle.vf_store_commands.proofs.Faults.{fault_is_five}
use Rattle.vf_store_commands.proofs.Opened.{lines_printed, refusal_printed}
use Rattle.vf_store_commands.proofs.Statuses.{among, apart, is_not}
use Rattle.vf_store_commands.proofs.docket_listing.dockets.Goals as goal

pub returns-in-Ok-clause-prints : goal.returns-in-Ok-clause-prints
returns-in-Ok-clause-prints g c = λ image shows.
    let status = c.print_dockets-status.result in
    let old = g.O.Sink.taken c.args.out.now in
    let new = g.O.Sink.taken c.print_dockets-status.new.out in
    let tables = read_from (records_of image) no_tables in
    let same : c.tables.result.now ≡ tables = c.tables.ensures ∙ c.in-Ok.ensures.tables image shows in
    lines_printed image status old new (docket_lines tables) (c.in-Ok.ensures.answers image shows)
    (subst (λ (t : Tables). Prints (4 ∷ 9 ∷ []) (record { octets = docket_lines t; status = 0 }) status old new) same c.print_dockets-status.ensures.prints)

pub returns-in-Err-clause-prints : goal.returns-in-Err-clause-prints
returns-in-Err-clause-prints g c = λ image shows.
    refusal_printed image c.print_error-status.result (g.O.Sink.taken c.args.out.now) (g.O.Sink.taken c.print_error-status.new.out)
    (docket_lines (read_from (records_of image) no_tables)) c.in-Err.error (c.in-Err.ensures.answers image shows) c.print_error-status.ensures.prints

pub returns-in-Err-clause-looks : goal.returns-in-Err-clause-looks
returns-in-Err-clause-looks g c =
    subst (λ (b : Bool). IsSyncedAndLookedAt g.D.Disk.shown g.D.Disk.size g.D.Disk.may_leave g.D.Disk.moment g.D.Disk.left_since g.D.Disk.plan g.D.Disk.state g.D.Disk.lack_count b c.args.disk c.in-Err.disk)
    (fault_is_five (StoreState g.row.D.Denot) c.in-Err.error c.print_error-status.result (g.O.Sink.taken c.args.out.now) (g.O.Sink.taken c.print_error-status.new.out) c.print_error-status.ensures.prints)
    c.in-Err.ensures.looks

pub returns-in-Ok-clause-looks : goal.returns-in-Ok-clause-looks
returns-in-Ok-clause-looks g c =
    let not_five = is_not (0 ∷ 4 ∷ 9 ∷ []) c.print_dockets-status.result 5 refl c.print_dockets-status.ensures.ends in
    subst (λ disk. IsSyncedAndLookedAt g.D.Disk.shown g.D.Disk.size g.D.Disk.may_leave g.D.Disk.moment g.D.Disk.left_since g.D.Disk.plan g.D.Disk.state g.D.Disk.lack_count (nat_eq c.print_dockets-status.result 5) c.args.disk disk) (sym c.close.ensures)
    (subst (λ (b : Bool). IsSyncedAndLookedAt g.D.Disk.shown g.D.Disk.size g.D.Disk.may_leave g.D.Disk.moment g.D.Disk.left_since g.D.Disk.plan g.D.Disk.state g.D.Disk.lack_count b c.args.disk c.in-Ok.store.disk) (sym not_five) c.in-Ok.ensures.looks)

pub returns-in-Ok-clause-ends : goal.returns-in-Ok-clause-ends
returns-in-Ok-clause-ends g c = among (0 ∷ 4 ∷ 9 ∷ []) (0 ∷ 4 ∷ 5 ∷ 8 ∷ 9 ∷ 12 ∷ []) c.print_dockets-status.result refl c.print_dockets-status.ensures.ends

pub returns-in-Ok-clause-disk_cause : goal.returns-in-Ok-clause-disk_cause
returns-in-Ok-clause-disk_cause g c = λ five. absurd (apart (0 ∷ 4 ∷ 9 ∷ []) (5 ∷ []) c.print_dockets-status.result refl c.print_dockets-status.ensures.ends (inl five))

pub returns-in-Err-clause-ends : goal.returns-in-Err-clause-ends
returns-in-Err-clause-ends g c = among (4 ∷ 5 ∷ 8 ∷ 9 ∷ 12 ∷ []) (0 ∷ 4 ∷ 5 ∷ 8 ∷ 9 ∷ 12 ∷ []) c.print_error-status.result refl c.print_error-status.ensures.ends
