-- SPDUs that can be written: those before the last one, and the last one; and what stands before data that pass no token.
use Rattle.std.proofs.Common.{◌≡◌, ℕ, List, [], ◌∷◌, ◌++◌, ap, sym, ◌∙◌, append-nil, append_assoc, false}
use Rattle.std.specs.List.{AllByRecursion}
use Rattle.vf_session.specs.declared.units.SessionSay.TheVariants.{Data}
use Rattle.vf_session.specs.declared.units.TokenSide.{TokenSide}
use Rattle.vf_session_spdu.specs.declared.spdu.Spdu.{Spdu}
use Rattle.vf_session_spdu.specs.Spelling.{IsWritten}
use Rattle.vf_stack.specs.Sending.{tsdu_of}

pub all-front : (xs : List Spdu) (y : Spdu) → AllByRecursion IsWritten (xs ++ y ∷ []) → AllByRecursion IsWritten xs
all-front [] y h = tt
all-front (x ∷ xs) y h = (h.0, all-front xs y h.1)

pub all-last : (xs : List Spdu) (y : Spdu) → AllByRecursion IsWritten (xs ++ y ∷ []) → IsWritten y
all-last [] y h = h.0
all-last (x ∷ xs) y h = all-last xs y h.1

pub plain_head : (own : TokenSide) (head octets : List ℕ) → (head ++ 1 ∷ 0 ∷ 1 ∷ 0 ∷ []) ++ octets ≡ head ++ tsdu_of own (Data false octets)
plain_head own head octets =
    append_assoc head (1 ∷ 0 ∷ 1 ∷ 0 ∷ []) octets ∙ ap (λ (after : List ℕ). head ++ 1 ∷ 0 ∷ 1 ∷ 0 ∷ after) (sym (append-nil octets))
