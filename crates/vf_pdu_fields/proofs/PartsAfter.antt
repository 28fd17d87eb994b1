-- The parts after a place.
use Rattle.std.proofs.Common.{◌≡◌, ℕ, zero, suc, ◌+◌, List, [], ◌∷◌, refl, arith}
use Rattle.std.specs.Prelude.{Some, None, slice_get}
use Rattle.vf_ber.specs.declared.value.Value.{Value}
use Rattle.vf_ber.specs.Tree.{none, more}
use Rattle.vf_ber.specs.Views.{tree_of}
use Rattle.vf_pdu_fields.specs.Reading.{rest}

pub rest_none : (parts : List Value) (place : ℕ) → slice_get parts place ≡ None → rest parts place ≡ none
rest_none [] zero e = refl
rest_none [] (suc place) e = refl
rest_none (part ∷ parts) zero e = absurd cc
rest_none (part ∷ parts) (suc place) e = rest_none parts place e

pub rest_some : (parts : List Value) (place : ℕ) (part : Value) → slice_get parts place ≡ Some part → rest parts place ≡ more (tree_of part) (rest parts (place + 1))
rest_some [] place part e = absurd cc
rest_some (first ∷ parts) zero part e = grind arith
rest_some (first ∷ parts) (suc place) part e = grind (arith, rest_some parts place part e)

pub ruleset parts = (rest_none, rest_some)
