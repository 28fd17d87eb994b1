-- The size of a primitive with one value is that of its context and its length.
use Rattle.std.proofs.Common.{◌≡◌, ℕ, ◌≤◌, List, length, ap, sym, arith}
use Rattle.std.specs.Prelude.{ℤ, Option, None, Some}
use Rattle.std.proofs.lemmas.Bool.Decides.{nat_tests}
use Rattle.std.proofs.lemmas.Int.{to_z-of_z}
use mir.Syntax.{w64}
use mir.Val.{SFits, of_z, to_z}
use Rattle.vf_ber.specs.Limits.{within}
use Rattle.vf_ber.specs.Spelling.{spell}
use Rattle.vf_ber.specs.Tree.{Tree, depth}
use Rattle.vf_upper.specs.declared.contexts.ContextEntry.{ContextEntry}
use Rattle.vf_upper.specs.declared.primitive.Primitive.{Primitive}
use Rattle.vf_upper.specs.Laws.{in_context, Measures}
use Rattle.vf_upper.specs.Sizes.{both, carried_size, fitting, placed_size, size_of}
use Rattle.vf_upper.proofs.Measured.{large-sized, length-sized, small-sized}

-- an identifier as it is handed on
pub passed : (f : ℤ → Option ℕ) (id : ℤ) (size : Option ℕ) → SFits w64 id → size ≡ f (to_z w64 (of_z w64 id)) → size ≡ f id
passed f id size fits e = grind (arith, to_z-of_z)

shallow : (most deep long n : ℕ) → deep ≤ most → long ≡ n → fitting n ≡ within most 1048576 deep long
shallow most deep long n le e = grind (arith, nat_tests)

-- a value that isn't too deep
pub value-sized : (most : ℕ) (context : ℤ) (tree : Tree) (n : ℕ) → depth tree ≤ 23 → 23 ≤ most → length (spell tree) ≡ n
    → both (Some 0) (placed_size context (fitting n)) ≡ both (Some 0) (carried_size most (in_context context tree))
value-sized most context tree n low le e =
    ap (λ (size : Option ℕ). both (Some 0) (placed_size context size)) (shallow most (depth tree) (length (spell tree)) n (omega arith) e)

pub measured-so : (p : Primitive) (contexts : List ContextEntry) (size : Option ℕ) → size ≡ size_of p contexts → Measures p contexts size
measured-so p contexts None e = large-sized p contexts (sym e)
measured-so p contexts (Some n) e = (small-sized p contexts n (sym e), length-sized p contexts n (sym e))
