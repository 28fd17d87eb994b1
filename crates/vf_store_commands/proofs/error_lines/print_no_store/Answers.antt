use Rattle.std.proofs.Common.{◌≡◌, ◌∙◌, ◌∷◌, [], List, ℕ, refl, subst}
use Rattle.vf_cli_printing.specs.Printed.{Prints}
use Rattle.vf_store_commands.specs.ErrorLines.{no_store_line}
use Rattle.vf_store_commands.proofs.Faults.{more_faults}
use Rattle.vf_store_commands.proofs.error_lines.print_no_store.Goals as goal

pub returns-clause-prints : goal.returns-clause-prints
returns-clause-prints g c =
    let old = g.O.Sink.taken c.args.out.now in
    let new = g.O.Sink.taken c.print.new.out in
    let text : c.as_bytes.result.now ≡ no_store_line c.args.place = c.as_bytes.ensures.value ∙ c.in-Ok.ensures in
    more_faults (4 ∷ []) (4 ∷ 9 ∷ []) (record { octets = no_store_line c.args.place; status = 8 }) c.print.result old new refl
    (subst (λ (l : List ℕ). Prints (4 ∷ []) (record { octets = l; status = 8 }) c.print.result old new) text c.print.ensures.prints)
