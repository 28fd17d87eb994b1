-- A value in a context, and how such values are told apart, which the model of a list of them wants.
use Rattle.std.specs.Prelude.{ℤ, [], refl}
use Rattle.std.specs.Coded.{Coded, code_by, coded×, coded_ℤ}
use Rattle.vf_ber.specs.Code.{trees_code}
use Rattle.vf_ber.specs.Tree.{Tree, plain, Trees, none, more}

-- a value, and the identifier of the context that it stands in
pub record Carried : Type 0 where
  pub context : ℤ
  pub tree : Tree

-- the first tree, where there is one
abbrev pub first_of : Trees → Tree
first_of none = plain (record { class = 0; number = 0 }) []
first_of (more tree trees) = tree

abbrev pub carried_code : Coded Carried
carried_code =
    code_by (ℤ × Trees) (coded× coded_ℤ trees_code) (λ carried. (carried.context, more carried.tree none))
    (λ p. record { context = p.0; tree = first_of p.1 }) (λ _. refl)
