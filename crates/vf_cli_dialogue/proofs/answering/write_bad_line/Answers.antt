use Rattle.std.proofs.Common.{◌++◌, List, ℕ, ap, subst, ◌∙◌}
use Rattle.vf_cli_dialogue.specs.Lines.{bad_line}
use Rattle.vf_cli_printing.specs.Printed.{Wrote, WrotePrefix}
use Rattle.vf_cli_dialogue.proofs.LineLemmas.{on_err}
use Rattle.vf_cli_dialogue.proofs.PrintedLemmas.{prefix_nothing}
use Rattle.vf_cli_dialogue.proofs.answering.write_bad_line.Goals as goal

pub returns-in_err-append_bad_line-clause-prefix : goal.returns-in_err-append_bad_line-clause-prefix
returns-in_err-append_bad_line-clause-prefix g c = on_err c.from_residual.result _ (prefix_nothing (bad_line c.args.number) (g.O.Sink.taken c.args.out.now))

pub returns-in_err-write_lines-clause-prefix : goal.returns-in_err-write_lines-clause-prefix
returns-in_err-write_lines-clause-prefix g c =
    let lines = c.as_slice.ensures.value ∙ c.in_ok-append_bad_line.ensures.ok ∙ ap (λ l. l ++ bad_line c.args.number) c.clear.ensures.items in
    on_err c.from_residual-in_err-write_lines.result _
    (subst (λ (l : List ℕ). WrotePrefix l (g.O.Sink.taken c.args.out.now) (g.O.Sink.taken c.write_lines.new.out)) lines c.in_err-write_lines.ensures.prefix)

pub returns-clause-ok : goal.returns-clause-ok
returns-clause-ok g c =
    let lines = c.as_slice.ensures.value ∙ c.in_ok-append_bad_line.ensures.ok ∙ ap (λ l. l ++ bad_line c.args.number) c.clear.ensures.items in
    subst (λ (l : List ℕ). Wrote l (g.O.Sink.taken c.args.out.now) (g.O.Sink.taken c.write_lines.new.out)) lines c.in_ok-write_lines.ensures.ok
