-- The images of the forms of a crash, made from the calls up to the last sync and those after it.
use Rattle.std.proofs.Common.{◌≡◌, ℕ, true, List, [], ◌∷◌, take, drop, refl, sym, ◌∙◌, ap}
use Rattle.std.specs.Prelude.{fold}
use Rattle.std.specs.List.{list_all}
use Rattle.std.proofs.lemmas.List.{take-append-drop}
use Rattle.std.proofs.lemmas.List.Sums.{fold-append}
use Rattle.vf_disk.specs.declared.step.Step.{Step}
use Rattle.vf_disk.specs.declared.step.Step.TheVariants.{Wrote, CutTo, Synced}
use Rattle.vf_disk.specs.Memory.{is_change}
use Rattle.vf_disk.specs.State.{State, settled, after, state_of, filled}
use Rattle.vf_disk.specs.Replay.{make, mark}

made_of : (s : State) (steps : List Step) → list_all is_change steps ≡ true → (fold after s steps).made ≡ fold make s.made steps
made_of s [] all = refl
made_of s (Wrote at octets good ∷ steps) all = made_of (after s (Wrote at octets good)) steps all
made_of s (CutTo to good ∷ steps) all = made_of (after s (CutTo to good)) steps all
made_of s (Synced ∷ steps) all = cc

pub synced_of : (s : State) (steps : List Step) → list_all is_change steps ≡ true → (fold after s steps).synced ≡ s.synced
synced_of s [] all = refl
synced_of s (Wrote at octets good ∷ steps) all = synced_of (after s (Wrote at octets good)) steps all
synced_of s (CutTo to good ∷ steps) all = synced_of (after s (CutTo to good)) steps all
synced_of s (Synced ∷ steps) all = cc

filled_of : (octet : ℕ) (image : List ℕ) (s : State) (steps : List Step) → list_all is_change steps ≡ true
    → filled octet (fold after s steps).ranges image ≡ fold (mark octet) (filled octet s.ranges image) steps
filled_of octet image s [] all = refl
filled_of octet image s (Wrote at octets good ∷ steps) all = filled_of octet image (after s (Wrote at octets good)) steps all
filled_of octet image s (CutTo to good ∷ steps) all = filled_of octet image (after s (CutTo to good)) steps all
filled_of octet image s (Synced ∷ steps) all = cc

module _ (first : List ℕ) (steps : List Step) (count : ℕ) (base : List ℕ) (is_base : base ≡ (state_of first (take count steps)).shown)
    (rests : state_of first (take count steps) ≡ settled (state_of first (take count steps)).shown) (changes : list_all is_change (drop count steps) ≡ true) where
  pub whole : state_of first steps ≡ fold after (settled base) (drop count steps)
  whole =
      ap (λ (l : List Step). state_of first l) (sym (take-append-drop count steps))
      ∙ fold-append after (settled first) (take count steps) (drop count steps)
      ∙ ap (λ (s : State). fold after s (drop count steps)) (rests ∙ ap settled (sym is_base))

  pub lost : base ≡ (state_of first steps).synced
  lost = sym (ap (λ (s : State). s.synced) whole ∙ synced_of (settled base) (drop count steps) changes)

  pub kept : (image : List ℕ) → image ≡ fold make base (drop count steps) → image ≡ (state_of first steps).made
  kept image is = is ∙ sym (ap (λ (s : State). s.made) whole ∙ made_of (settled base) (drop count steps) changes)

  pub marked : (octet : ℕ) (image end : List ℕ) → image ≡ fold make base (drop count steps) → end ≡ fold (mark octet) image (drop count steps)
      → end ≡ filled octet (state_of first steps).ranges (state_of first steps).made
  marked octet image end is ends =
      ends
      ∙ sym (filled_of octet image (settled base) (drop count steps) changes)
      ∙ ap (λ (s : State). filled octet s.ranges image) (sym whole)
      ∙ ap (λ (l : List ℕ). filled octet (state_of first steps).ranges l) (kept image is)
