use Rattle.std.proofs.Common.{◌≡◌, ◌∙◌, ◌∷◌, [], List, ℕ, subst}
use Rattle.vf_cli_printing.specs.Printed.{Prints}
use Rattle.vf_cli_serve.specs.Served.{served_line}
use Rattle.vf_cli_serve.proofs.Statuses.{with_nine}
use Rattle.vf_cli_serve.proofs.serving.print_counts.Goals as goal

pub returns-clause-prints : goal.returns-clause-prints
returns-clause-prints g c =
    let old = g.O.Sink.taken c.args.out.now in
    let new = g.O.Sink.taken c.print.new.out in
    let line : List ℕ = served_line c.args.served.links c.args.served.events in
    let text : c.as_bytes.result.now ≡ line = c.as_bytes.ensures.value ∙ c.in-Ok.ensures in
    with_nine (record { octets = line; status = 0 }) c.print.result old new
    (subst (λ (l : List ℕ). Prints (4 ∷ []) (record { octets = l; status = 0 }) c.print.result old new) text c.print.ensures.prints)
