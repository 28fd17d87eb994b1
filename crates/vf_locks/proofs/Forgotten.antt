-- A file without holders may be left out of the table.
use Rattle.std.proofs.Common.{◌≡◌, ◌∙◌, ℕ, Bool, true, false, cond, List, [], Option, None, refl, ap, sym, nat_eq, unwrap_or, length, ◌==◌, ◌∷◌, arith}
use Rattle.std.specs.Cmp.{unsigned_Decides}
use Rattle.std.specs.Cmp.Lexicographic.{pointwise}
use Rattle.std.specs.Map.{lookup}
use Rattle.std.proofs.lemmas.Slice.Eq.{bytes_eq-Decides}
use Rattle.vf_locks.specs.Table.{IsAsBefore, held}
use Rattle.vf_locks.specs.declared.held.Held.{Held}

pub forgotten : (file : List ℕ) (old new : List (List ℕ × List Held))
    → ((other : List ℕ) → lookup (pointwise nat_eq other) new ≡ cond (pointwise nat_eq file other) None (lookup (pointwise nat_eq other) old))
    → held file old ≡ [] → IsAsBefore old new
forgotten file old new updates empty other =
    ap (λ (helds : Option (List Held)). unwrap_or helds []) (updates other) ∙ by (pointwise nat_eq file other) refl
  where
    by : (b : Bool) → pointwise nat_eq file other ≡ b → unwrap_or (cond b None (lookup (pointwise nat_eq other) old)) [] ≡ held other old
    by true is = sym empty ∙ ap (λ file. held file old) ((bytes_eq-Decides file other).0 is)
    by false is = refl

pub none_from_length : (hs : List Held) → (length hs == 0) ≡ true → hs ≡ []
none_from_length [] e = refl
none_from_length (x ∷ xs) e = let none = (unsigned_Decides (length (x ∷ xs)) 0).0 e in absurd (omega arith)
