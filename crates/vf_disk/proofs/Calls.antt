-- What a crash may leave after each call of a disk in memory.
use Rattle.std.proofs.Common.{◌≡◌, ℕ, ◌≤◌, Bool, List, [], ◌∷◌, ◌++◌, length, sym, ap, subst, arith, Some}
use Rattle.vf_disk.specs.Disk.{Torn, Shortened, Follows, Within, LeavesShown}
use Rattle.vf_disk.specs.declared.step.Step.{Step}
use Rattle.vf_disk.specs.declared.step.Step.TheVariants.{Wrote, CutTo, Synced}
use Rattle.vf_disk.specs.State.{State, IsImage, state_of}
use Rattle.vf_disk.proofs.Images.{is_sound, only_shown, synced_within, wrote_follows, cut_follows}
use Rattle.vf_disk.proofs.Elapse.{one_more}

module _ (first : List ℕ) (steps now : List Step) where
  pub sync_durable : now ≡ steps ++ Synced ∷ [] → LeavesShown (Some (state_of first now).shown) (IsImage (state_of first now))
  sync_durable more = subst (λ (s : State). LeavesShown (Some s.shown) (IsImage s)) (sym (one_more first steps now Synced more)) (λ image left. ap Some (sym (only_shown (state_of first steps).shown image left)))

  pub sync_within : now ≡ steps ++ Synced ∷ [] → Within (IsImage (state_of first steps)) (IsImage (state_of first now))
  sync_within more = subst (λ (s : State). Within (IsImage (state_of first steps)) (IsImage s)) (sym (one_more first steps now Synced more)) (synced_within (state_of first steps) (is_sound first steps))

  pub write_crash : (at : ℕ) (octets : List ℕ) (good : Bool) → at ≤ length (state_of first steps).shown → now ≡ steps ++ Wrote at octets good ∷ []
      → Follows (Torn at (length octets)) (IsImage (state_of first steps)) (IsImage (state_of first now))
  write_crash at octets good low more =
      let sound = is_sound first steps in
      subst (λ (s : State). Follows (Torn at (length octets)) (IsImage (state_of first steps)) (IsImage s)) (sym (one_more first steps now (Wrote at octets good) more)) (wrote_follows (state_of first steps) at octets good sound (omega (arith, low, sound.shown.no_longer)))

  pub cut_crash : (to : ℕ) (good : Bool) → now ≡ steps ++ CutTo to good ∷ [] → Follows (Shortened to) (IsImage (state_of first steps)) (IsImage (state_of first now))
  cut_crash to good more =
      subst (λ (s : State). Follows (Shortened to) (IsImage (state_of first steps)) (IsImage s)) (sym (one_more first steps now (CutTo to good) more)) (cut_follows (state_of first steps) to good (is_sound first steps))
