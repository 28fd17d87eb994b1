use Rattle.std.proofs.Common.{◌≡◌, ◌∙◌, ◌∷◌, [], List, ℕ, refl, subst, sym}
use Rattle.vf_journal.specs.declared.error.JournalError.{JournalError}
use Rattle.vf_cli_printing.specs.Printed.{Prints}
use Rattle.vf_store_commands.specs.ErrorLines.{PrintsError, full_line}
use Rattle.vf_store_commands.proofs.Faults.{more_faults}
use Rattle.vf_store_commands.proofs.error_lines.print_error.Goals as goal

pub returns-in-Ok-clause-prints : goal.returns-in-Ok-clause-prints
returns-in-Ok-clause-prints g c =
    let old = g.O.Sink.taken c.args.out.now in
    let new = g.O.Sink.taken c.print.new.out in
    let line : List ℕ = full_line c.in-Full.length c.in-Full.limit in
    let text : c.as_bytes.result.now ≡ line = c.as_bytes.ensures.value ∙ c.in-Ok.ensures in
    subst (λ (e : JournalError). PrintsError e c.print.result old new) (sym c.in-Full.is)
    (more_faults (4 ∷ []) (4 ∷ 9 ∷ []) (record { octets = line; status = 12 }) c.print.result old new refl
    (subst (λ (l : List ℕ). Prints (4 ∷ []) (record { octets = l; status = 12 }) c.print.result old new) text c.print.ensures.prints))
