use Rattle.std.proofs.Common.{subst, sym}
use Rattle.vf_upper_grammar.specs.HeldViews.{IsIn}
use Rattle.vf_upper_grammar.specs.Parts.{Text}
use Rattle.vf_upper_grammar.specs.Views.{header_of, text_of}
use Rattle.vf_upper_grammar.proofs.Standing.{header-in}
use Rattle.vf_upper_grammar.proofs.segments.constructed.Goals as goal

pub returns-in-Some-clause-stands : goal.returns-in-Some-clause-stands
returns-in-Some-clause-stands c all s =
    subst (λ (text : Text). IsIn all text) (sym c.cut_to.ensures) (header-in all (text_of c.args.text) (header_of c.in-Some.header) s c.in-Some.ensures)
