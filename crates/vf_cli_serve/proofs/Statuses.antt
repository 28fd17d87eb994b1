-- Which statuses tell what, and by which causes.
use Rattle.std.proofs.Common.{◌≡◌, ◌∙◌, inl, inr, ⊎_elim, ℕ, List, [], ◌∷◌, Option, Result, Err, arith, sym, subst}
use Rattle.vf_base.specs.Faults.{HasRisen}
use Rattle.vf_cli_printing.specs.Printed.{IsOneOf, Printed, Prints}
use Rattle.vf_journal.specs.declared.error.JournalError.TheVariants.{DiskFault}
use Rattle.vf_responder.specs.Served.{ServeCauses}
use Rattle.vf_responder.specs.declared.error.ServeError.{ServeError}
use Rattle.vf_responder.specs.declared.error.ServeError.TheVariants.{Respond, LinksFault}
use Rattle.vf_responder.specs.declared.serving.Served.{Served}

-- what is printed where memory may be wanting before
pub with_nine : (printed : Printed) (status : ℕ) (old new : Option (List ℕ)) → Prints (4 ∷ []) printed status old new → Prints (4 ∷ 9 ∷ []) printed status old new
with_nine printed status old new prints = ⊎_elim (λ all. inl all) (λ some. inr (⊎_elim (λ four. inl four) (λ none. absurd none) some.0, some.1)) prints

-- a status that is none of these
abbrev AreOthers : List ℕ → ℕ → Type 0
AreOthers [] number = Unit {0}
AreOthers (other ∷ others) number = (other ≡ number → ⊥) × AreOthers others number

never : (others : List ℕ) (number status : ℕ) → AreOthers others number → IsOneOf others status → status ≡ number → ⊥
never [] number status apart is e = is
never (other ∷ others) number status apart is e = ⊎_elim (λ here. apart.0 (sym here ∙ e)) (λ later. never others number status apart.1 later e) is

pub counts_never_five : (status : ℕ) → IsOneOf (0 ∷ 4 ∷ 9 ∷ []) status → status ≡ 5 → ⊥
counts_never_five status = never (0 ∷ 4 ∷ 9 ∷ []) 5 status ((λ e. omega arith), ((λ e. omega arith), ((λ e. omega arith), tt)))

pub counts_never_ten : (status : ℕ) → IsOneOf (0 ∷ 4 ∷ 9 ∷ []) status → status ≡ 10 → ⊥
counts_never_ten status = never (0 ∷ 4 ∷ 9 ∷ []) 10 status ((λ e. omega arith), ((λ e. omega arith), ((λ e. omega arith), tt)))

-- ---- causes

pub disk_by : (limit before after links later : ℕ) (answer : Result Served ServeError) → answer ≡ Err (Respond DiskFault) → ServeCauses limit before after links later answer → HasRisen before after
disk_by limit before after links later answer is causes = (subst (λ (answer : Result Served ServeError). ServeCauses limit before after links later answer) is causes).0

pub links_by : (limit before after links later : ℕ) (answer : Result Served ServeError) → answer ≡ Err LinksFault → ServeCauses limit before after links later answer → HasRisen links later
links_by limit before after links later answer is causes = (subst (λ (answer : Result Served ServeError). ServeCauses limit before after links later answer) is causes).1
