-- What is printed of an input.
use Rattle.std.proofs.Common.{◌≡◌, ⊎_elim, inl, inr, ℕ, List, [], ◌∷◌, Option, None, Some, Result, Ok, Err, ap, append-nil, subst, sym}
use Rattle.vf_cli_printing.specs.Printed.{IsOneOf, Prints, Wrote, bad_line}
use Rattle.vf_cli_script.specs.Scripts.{told_by}
use Rattle.vf_cli_script.specs.declared.script.Script.{Script}
use Rattle.vf_cli_replay.specs.Replayed.{OrNothing, PrintsReplay, PrintsScript, PrintsTold}

pub wrote_nothing : (taken : Option (List ℕ)) → Wrote [] taken taken
wrote_nothing None = tt
wrote_nothing (Some octets) = ap (λ (o : List ℕ). Some o) (sym (append-nil octets))

told_or_nothing : (octets : List ℕ) (meant : Result Script ℕ) (status : ℕ) (old new : Option (List ℕ)) → told_by octets ≡ meant → OrNothing status old new (PrintsTold meant status old new)
    → PrintsReplay octets status old new
told_or_nothing octets meant status old new told prints =
    ⊎_elim (λ nothing. inl (inr (inl nothing.0), nothing.1)) (λ all. inr (subst (λ (r : Result Script ℕ). PrintsTold r status old new) (sym told) all)) prints

pub prints_script : (octets : List ℕ) (script : Script) (status : ℕ) (old new : Option (List ℕ)) → told_by octets ≡ Ok script → OrNothing status old new (PrintsScript script status old new)
    → PrintsReplay octets status old new
prints_script octets script status old new told prints = told_or_nothing octets (Ok script) status old new told prints

pub prints_bad : (octets : List ℕ) (number status : ℕ) (old new : Option (List ℕ)) → told_by octets ≡ Err number
    → OrNothing status old new (Prints (4 ∷ []) (record { octets = bad_line number; status = 11 }) status old new) → PrintsReplay octets status old new
prints_bad octets number status old new told prints = told_or_nothing octets (Err number) status old new told prints

pub prints_nothing : (octets : List ℕ) (status : ℕ) (taken : Option (List ℕ)) → IsOneOf (3 ∷ 9 ∷ []) status → PrintsReplay octets status taken taken
prints_nothing octets status taken is = inl (is, wrote_nothing taken)
