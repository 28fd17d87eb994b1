use Rattle.std.proofs.Common.{sym, subst, ◌∙◌}
use Rattle.vf_tables.specs.Staying.{AreValid}
use Rattle.vf_tables.proofs.Made.{none_valid}
use Rattle.vf_tables.proofs.doubled.Doubled.new.Goals as goal

pub invariant_of-result : goal.invariant_of-result
invariant_of-result c = (c.new-2.ensures ∙ sym c.new.ensures, λ is. subst AreValid (sym c.new.ensures) none_valid)
