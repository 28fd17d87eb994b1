-- No value is deeper than its tree has nodes, which the model of a list of values wants.
use Rattle.std.specs.Prelude.{◌≤◌, max, List, [], ◌∷◌}
use Rattle.std.proofs.Common.{arith}
use denote.Param.Weighed.{most}
use Rattle.vf_ber.specs.declared.value.Value.{Value}
use Rattle.vf_ber.specs.declared.value.Value.TheVariants.{Plain, Built}
use Rattle.vf_ber.specs.declared.value.Values.TheDeep.{deep-Value}
use Rattle.vf_ber.specs.Tree.{nodes, nodes_in}
use Rattle.vf_ber.specs.Views.{tree_of, trees_in}

pub deep_le : (value : Value) → deep-Value value ≤ nodes (tree_of value)
deep_le (Plain tag octets) = grind arith
deep_le (Built tag parts) = grind arith

pub falls : (values : List Value) → max (most deep-Value values) 0 ≤ nodes_in (trees_in values)
falls [] = omega arith
falls (value ∷ values) = omega (arith, falls values, deep_le value)
