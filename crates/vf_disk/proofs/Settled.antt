-- A disk on which nothing was written or cut since the last sync.
use Rattle.std.proofs.Common.{◌≡◌, ◌∙◌, ℕ, Bool, true, false, not, List, [], ◌∷◌, refl, sym, ap, subst, true≢false, Some}
use Rattle.std.specs.Prelude.{fold}
use Rattle.vf_disk.specs.Disk.{LeavesShown}
use Rattle.vf_disk.specs.declared.step.Step.{Step}
use Rattle.vf_disk.specs.declared.step.Step.TheVariants.{Wrote, CutTo, Synced}
use Rattle.vf_disk.specs.Memory.{is_change, is_settled}
use Rattle.vf_disk.specs.State.{IsImage, State, after, settled, state_of}
use Rattle.vf_disk.proofs.Images.{only_shown}

settles : (s : State) (flag : Bool) (steps : List Step) → (flag ≡ true → s ≡ settled s.shown)
    → fold (λ (settled : Bool) (step : Step). not (is_change step)) flag steps ≡ true → fold after s steps ≡ settled (fold after s steps).shown
settles s flag [] rests is = rests is
settles s flag (Wrote at octets good ∷ steps) rests is = settles (after s (Wrote at octets good)) false steps (λ e. absurd (true≢false (sym e))) is
settles s flag (CutTo to good ∷ steps) rests is = settles (after s (CutTo to good)) false steps (λ e. absurd (true≢false (sym e))) is
settles s flag (Synced ∷ steps) rests is = settles (after s Synced) true steps (λ e. refl) is

pub settled_state : (first : List ℕ) (steps : List Step) → is_settled steps ≡ true → state_of first steps ≡ settled (state_of first steps).shown
settled_state first steps is = settles (settled first) true steps (λ e. refl) is

pub settled_leaves : (first : List ℕ) (steps : List Step) → is_settled steps ≡ true → LeavesShown (Some (state_of first steps).shown) (IsImage (state_of first steps))
settled_leaves first steps is image left =
    let only : IsImage (settled (state_of first steps).shown) image = subst (λ (s : State). IsImage s image) (settled_state first steps is) left in
    ap Some (sym (only_shown (state_of first steps).shown image only))

-- a disk that is just made
pub fresh_leaves : (octets first : List ℕ) (steps : List Step) → first ≡ octets → steps ≡ [] → LeavesShown (Some octets) (IsImage (state_of first steps))
fresh_leaves octets first steps same none =
    subst (λ (steps : List Step). LeavesShown (Some octets) (IsImage (state_of first steps))) (sym none) (λ image left. ap Some (sym (only_shown first image left ∙ same)))
