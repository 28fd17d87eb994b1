use Rattle.std.proofs.Common.{List, ℕ, subst, sym}
use Rattle.vf_upper_grammar.specs.HeldViews.{Stands}
use Rattle.vf_upper_grammar.specs.Views.{part_of}
use Rattle.vf_upper_grammar.proofs.Standing.{explicit-in}
use Rattle.vf_upper_grammar.proofs.held.octets_held.Goals as goal

pub returns-then-number_of-eq0-clause-kept : goal.returns-then-number_of-eq0-clause-kept
returns-then-number_of-eq0-clause-kept c all s =
    let text = (part_of c.args.part.now).contents in
    subst (λ (o : List ℕ). Stands all text.at o) (sym c.explicit_in.ensures.octets) (explicit-in all text s)
