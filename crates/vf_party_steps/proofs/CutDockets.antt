-- How the row of a docket changes whose transfer goes on after a check.
use Rattle.std.proofs.Common.{◌≡◌, ℕ, zero, suc, ◌<◌, ◌≤◌, Bool, true, false, cond, List, [], ◌∷◌, ◌++◌, length, take, refl, ap, ◌∙◌, arith}
use Rattle.std.specs.Prelude.{nat_lt}
use Rattle.std.proofs.lemmas.Bool.{ltb-false, ltb-true}
use Rattle.std.proofs.lemmas.List.{take_all}
use Rattle.vf_party_steps.specs.Dockets.{own_changes}
use Rattle.vf_party_steps.specs.Recoveries.{cut_to}
use Rattle.vf_party_steps.proofs.TakenOpen.{row_same}
use Rattle.vf_party_steps.proofs.WriteDockets.{field_put, piece_cut}
use Rattle.vf_tables.specs.declared.change.Change.TheVariants.{CutStage, PutDocket}
use Rattle.vf_tables.specs.declared.docket.Docket.{Docket}
use Rattle.vf_tables.specs.declared.docket.Regime.{Regime}

pub take_less : {A : Type 0} (n m : ℕ) (xs : List A) → n ≤ m → take n (take m xs) ≡ take n xs
take_less zero m xs less = refl
take_less (suc n) zero xs less = absurd (omega (arith, less))
take_less (suc n) (suc m) [] less = refl
take_less (suc n) (suc m) (x ∷ xs) less = ap (λ rest. x ∷ rest) (take_less n m xs (omega (arith, less)))

-- the row with this check as the last that is acknowledged, and the pieces before it
abbrev pub cut_row : Docket → (check : ℕ) → Docket
cut_row row check = record { regime = record row.regime { point = check }; staged = take check row.staged }

pub cut_changes : (row : Docket) (check : ℕ) → check ≤ row.regime.point → length row.staged ≡ row.regime.point → own_changes (row ∷ []) (cut_row row check ∷ []) ≡ cut_to row.regime check
cut_changes row check within counted = by (nat_lt check row.regime.point) refl
  where
    after : Regime
    after = record row.regime { point = check }

    by : (b : Bool) → nat_lt check row.regime.point ≡ b
        → own_changes (row ∷ []) (cut_row row check ∷ []) ≡ cond b (PutDocket (record row.regime { point = check }) ∷ CutStage row.regime.identity row.regime.activity check ∷ []) []
    by true is =
        let less : check < row.regime.point = ltb-true check row.regime.point is in
        let fewer : nat_lt check (length row.staged) ≡ true = ap (nat_lt check) counted ∙ is in
        (λ i. field_put row.regime (record row.regime { point = check }) (λ same. omega (arith, less, ap (λ (one : Regime). one.point) same)) i
        ++ piece_cut (record row.regime { point = check }) row.staged check (omega (arith, within, counted)) i)
        ∙ (λ i. PutDocket (record row.regime { point = check }) ∷ cond (fewer i) (CutStage row.regime.identity row.regime.activity check ∷ []) [])
    by false is =
        let all : check ≡ row.regime.point = omega (arith, within, ltb-false check row.regime.point is) in
        let same : cut_row row check ≡ row = λ i. record { regime = record row.regime { point = all i }; staged = take_all check row.staged (omega (arith, all, counted)) i } in
        ap (λ (one : Docket). own_changes (row ∷ []) (one ∷ [])) same ∙ row_same row
