-- What a crash may leave, told by the calls since the last sync.
use Rattle.std.proofs.Common.{◌≡◌, ◌∙◌, ℕ, ◌+◌, ◌≤◌, ◌<◌, max, Bool, true, false, ◌||◌, nat_le, List, [], ◌∷◌, length, refl, sym, ap, subst, arith}
use Rattle.std.specs.Prelude.{fold, slice_index}
use Rattle.std.specs.List.{list_all, list_any}
use Rattle.std.proofs.lemmas.Bool.{le-leb, leb-true}
use Rattle.std.proofs.lemmas.Bool.Decides.{nat_tests}
use Rattle.vf_disk.specs.declared.step.Step.{Step}
use Rattle.vf_disk.specs.declared.step.Step.TheVariants.{Wrote, CutTo, Synced}
use Rattle.vf_disk.specs.Memory.{is_change}
use Rattle.vf_disk.specs.State.{IsImage, State, after, is_torn, is_within, settled}
use Rattle.vf_disk.specs.Replay.{covers, longer, reaches, shorter}
use Rattle.vf_disk.proofs.Forms.{synced_of}

pub least_of : (s : State) (steps : List Step) → list_all is_change steps ≡ true → (fold after s steps).least ≡ fold shorter s.least steps
least_of s [] all = refl
least_of s (Wrote at octets good ∷ steps) all = least_of (after s (Wrote at octets good)) steps all
least_of s (CutTo to good ∷ steps) all = least_of (after s (CutTo to good)) steps all
least_of s (Synced ∷ steps) all = cc

pub greatest_of : (s : State) (steps : List Step) → list_all is_change steps ≡ true → (fold after s steps).greatest ≡ fold longer s.greatest steps
greatest_of s [] all = refl
greatest_of s (Wrote at octets good ∷ steps) all = greatest_of (after s (Wrote at octets good)) steps all
greatest_of s (CutTo to good ∷ steps) all = greatest_of (after s (CutTo to good)) steps all
greatest_of s (Synced ∷ steps) all = cc

swap_or : (a b c : Bool) → (a || (b || c)) ≡ ((b || a) || c)
swap_or true true c = refl
swap_or true false c = refl
swap_or false true c = refl
swap_or false false c = refl

pub torn_of : (place : ℕ) (s : State) (steps : List Step) → list_all is_change steps ≡ true
    → is_torn place (fold after s steps).ranges ≡ (list_any (covers place) steps || is_torn place s.ranges)
torn_of place s [] all = refl
torn_of place s (Wrote at octets good ∷ steps) all =
    torn_of place (after s (Wrote at octets good)) steps all ∙ swap_or (list_any (covers place) steps) (is_within place (at, length octets)) (is_torn place s.ranges)
torn_of place s (CutTo to good ∷ steps) all = torn_of place (after s (CutTo to good)) steps all
torn_of place s (Synced ∷ steps) all = cc

le_max : (count a b : ℕ) → nat_le count (max a b) ≡ (nat_le count a || nat_le count b)
le_max count a b = grind (arith, nat_tests)

or_false : (b : Bool) → b ≡ (b || false)
or_false true = refl
or_false false = refl

or_assoc : (a b c : Bool) → ((a || b) || c) ≡ (a || (b || c))
or_assoc true b c = refl
or_assoc false b c = refl

pub reached : (count g : ℕ) (steps : List Step) → nat_le count (fold longer g steps) ≡ (nat_le count g || list_any (reaches count) steps)
reached count g [] = or_false (nat_le count g)
reached count g (Wrote at octets good ∷ steps) =
    reached count (max g (at + length octets)) steps
    ∙ ap (λ (b : Bool). b || list_any (reaches count) steps) (le_max count g (at + length octets))
    ∙ or_assoc (nat_le count g) (nat_le count (at + length octets)) (list_any (reaches count) steps)
reached count g (CutTo to good ∷ steps) = reached count g steps
reached count g (Synced ∷ steps) = reached count g steps

module _ (synced : List ℕ) (changes : List Step) (all : list_all is_change changes ≡ true) where
  torn : (place : ℕ) → is_torn place (fold after (settled synced) changes).ranges ≡ list_any (covers place) changes
  torn place = torn_of place (settled synced) changes all ∙ sym (or_false (list_any (covers place) changes))

  module _ (image : List ℕ) where
    abbrev Kept : Type 0
    Kept = (place : ℕ) → place < fold shorter (length synced) changes → list_any (covers place) changes ≡ false → slice_index image place ≡ slice_index synced place

    -- what an image must meet
    pub needs : IsImage (fold after (settled synced) changes) image
        → (fold shorter (length synced) changes ≤ length image) × ((nat_le (length image) (length synced) || list_any (reaches (length image)) changes) ≡ true) × Kept
    needs left =
        let least = least_of (settled synced) changes all in
        let greatest = greatest_of (settled synced) changes all in
        let low = left.no_shorter in
        let high = left.no_longer in (
          subst (λ (n : ℕ). n ≤ length image) least low,
          sym (reached (length image) (length synced) changes) ∙ le-leb (length image) (fold longer (length synced) changes) (subst (λ (n : ℕ). length image ≤ n) greatest high),
          λ place lt apart.
              left.stays place (subst (λ (n : ℕ). place < n) (sym least) lt) (torn place ∙ apart)
              ∙ ap (λ (octets : List ℕ). slice_index octets place) (synced_of (settled synced) changes all),
        )

    pub serves : fold shorter (length synced) changes ≤ length image → (nat_le (length image) (length synced) || list_any (reaches (length image)) changes) ≡ true
        → Kept → IsImage (fold after (settled synced) changes) image
    serves low high kept =
        let least = least_of (settled synced) changes all in
        let greatest = greatest_of (settled synced) changes all in
        record {
          no_shorter = subst (λ (n : ℕ). n ≤ length image) (sym least) low;
          no_longer = subst (λ (n : ℕ). length image ≤ n) (sym greatest) (leb-true (length image) (fold longer (length synced) changes) (reached (length image) (length synced) changes ∙ high));
          stays = λ place lt apart.
              kept place (subst (λ (n : ℕ). place < n) least lt) (sym (torn place) ∙ apart)
              ∙ ap (λ (octets : List ℕ). slice_index octets place) (sym (synced_of (settled synced) changes all));
        }
