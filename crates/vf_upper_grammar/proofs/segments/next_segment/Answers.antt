use Rattle.std.proofs.Common.{List, ℕ, ap, subst, sym, ◌∙◌}
use Rattle.vf_upper_grammar.specs.HeldViews.{IsIn}
use Rattle.vf_upper_grammar.specs.Parts.{Text}
use Rattle.vf_upper_grammar.specs.Texts.{cut_to}
use Rattle.vf_upper_grammar.specs.Views.{text_of}
use Rattle.vf_upper_grammar.proofs.Standing.{ended-in}
use Rattle.vf_upper_grammar.proofs.segments.next_segment.Goals as goal

pub returns-then-first-eq0-clause-stands : goal.returns-then-first-eq0-clause-stands
returns-then-first-eq0-clause-stands c all s =
    let text = text_of c.args.text in
    let is = c.cut_to.ensures ∙ ap (λ (o : List ℕ). cut_to text o) c.without_first.ensures in
    subst (λ (t : Text). IsIn all t) (sym is) (ended-in all text c.in-Some.first c.in-Some.after.now s c.in-Some.ensures)
