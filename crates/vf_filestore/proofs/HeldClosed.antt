-- Once an open is closed, no other holder of its file stands against the controls that are left.
use Rattle.std.proofs.Common.{◌≡◌, ℕ, ◌+◌, Bool, true, false, cond, ◌&&◌, ◌||◌, List, [], ◌∷◌, ◌++◌, Option, None, Some, refl, ap, sym, subst, ◌∙◌}
use Rattle.std.specs.Prelude.{flat_map, option_and_then, slice_get}
use Rattle.std.specs.List.{AllByRecursion, IsDistinct, list_any, position_from, zip}
use Rattle.std.specs.Option.{option_or}
use Rattle.std.specs.Str.{bytes_eq}
use Rattle.std.proofs.lemmas.Map.Keys.{IsDistinct-head}
use Rattle.vf_base.specs.declared.action.Control.{Control}
use Rattle.vf_base.specs.declared.action.Controls.{Controls}
use Rattle.vf_locks.specs.Clash.{actions, against, clash, conflict, first_against, lowest_clash}
use Rattle.vf_locks.specs.declared.held.Held.{Held}
use Rattle.vf_locks.specs.declared.holder.Holder.{Holder}
use Rattle.vf_locks.specs.declared.holder.Holder.TheVariants.{Party, Docket}
use Rattle.vf_filestore.specs.Controls.{joined, not_opened}
use Rattle.vf_filestore.specs.History.{History, Regime, Selection, regime, selection}
use Rattle.vf_filestore.specs.Holders.{controls_by, held_by, held_by_docket, held_by_party, held_in, put_in_order}
use Rattle.vf_filestore.specs.HoldersAfter.{ClosesHold}
use Rattle.vf_filestore.specs.Sound.{Use, are_clashing, do_clash, use_by, use_in, use_of_docket, use_of_party}
use Rattle.vf_filestore.specs.State as states
use Rattle.vf_filestore.specs.State.{State, StandingParty}
use Rattle.vf_filestore.proofs.Agreed.{Fits, closed_agreed, rest_of, uses_around}
use Rattle.vf_filestore.proofs.Clashes.{agreed_stays}
use Rattle.vf_filestore.proofs.Concluded.{uses_parted}
use Rattle.vf_filestore.proofs.Filed.{names_flip}
use Rattle.vf_filestore.proofs.HeldLists.{all_ordered, others_left}
use Rattle.vf_filestore.proofs.HeldOf.{around_party, controls_in}
use Rattle.vf_filestore.proofs.HeldParty.{held_before, is_among}
use Rattle.vf_filestore.proofs.Lists.{all-flat_map, all-from_flat_map, all_append, all_left, all_right, all_weaker, to_front}
use Rattle.vf_filestore.proofs.Parties.{located}

-- ---- no conflict

none_at : (pairs : List (Control × Control)) (from : ℕ) → list_any (λ (pair : Control × Control). clash pair.0 pair.1) pairs ≡ false → position_from (λ (pair : Control × Control). clash pair.0 pair.1) from pairs ≡ None
none_at [] from off = refl
none_at (pair ∷ pairs) from off = by (clash pair.0 pair.1) off (none_at pairs (from + 1))
  where
    by : (b : Bool) → (b || list_any (λ (pair : Control × Control). clash pair.0 pair.1) pairs) ≡ false
        → (list_any (λ (pair : Control × Control). clash pair.0 pair.1) pairs ≡ false → position_from (λ (pair : Control × Control). clash pair.0 pair.1) (from + 1) pairs ≡ None)
        → cond b (Some from) (position_from (λ (pair : Control × Control). clash pair.0 pair.1) (from + 1) pairs) ≡ None
    by true off rest = absurd cc
    by false off rest = rest off

-- none of the holder's controls clashes with these
abbrev Spares : Controls → Held → Type 0
Spares wanted held = lowest_clash wanted held.controls ≡ None

spared : (wanted held : Controls) → are_clashing wanted held ≡ false → lowest_clash wanted held ≡ None
spared wanted held off = ap (option_and_then (slice_get actions)) (none_at (zip wanted.each held.each) 0 off)

none_against : (wanted : Controls) (helds : List Held) → AllByRecursion (Spares wanted) helds → first_against wanted helds ≡ None
none_against wanted [] all = refl
none_against wanted (held ∷ helds) all = λ i. option_or (against held (all.0 i)) (none_against wanted helds all.1 i)

-- ---- what fits a use

spares_in : (file : List ℕ) (holder : Holder) (wanted : Controls) (history : History) → AllByRecursion (Fits file wanted) (use_in history) → AllByRecursion (Spares wanted) (held_in file holder history)
spares_in file holder wanted history fits = by (selection history) fits
  where
    by : (one : Option Selection) → AllByRecursion (Fits file wanted) (use_by (regime history) one) → AllByRecursion (Spares wanted) (held_by file holder (regime history) one)
    by None fits = tt
    by (Some one) fits = on (bytes_eq one.file file) refl
      where
        on : (b : Bool) → bytes_eq one.file file ≡ b → AllByRecursion (Spares wanted) (cond b (record { holder = holder; controls = controls_by one (regime history) } ∷ []) [])
        on true is = (
          spared wanted (controls_by one (regime history))
              ((λ i. sym (names_flip file one.file ∙ is) i && are_clashing wanted (controls_by one (regime history))) ∙ fits.0),
          tt,
        )
        on false is = tt

parties_spare : (file : List ℕ) (wanted : Controls) (parties : List StandingParty) → AllByRecursion (Fits file wanted) (flat_map use_of_party parties) → AllByRecursion (Spares wanted) (flat_map (held_by_party file) parties)
parties_spare file wanted parties fits =
    all-flat_map (held_by_party file) (Spares wanted) parties
    (all_weaker (λ (party : StandingParty). AllByRecursion (Fits file wanted) (use_of_party party)) (λ (party : StandingParty). AllByRecursion (Spares wanted) (held_by_party file party)) parties
    (λ party fits. spares_in file (Party party.link) wanted party.history fits) (all-from_flat_map use_of_party (Fits file wanted) parties fits))

dockets_spare : (file : List ℕ) (wanted : Controls) (dockets : List states.Docket) → AllByRecursion (Fits file wanted) (flat_map use_of_docket dockets) → AllByRecursion (Spares wanted) (flat_map (held_by_docket file) dockets)
dockets_spare file wanted dockets fits =
    all-flat_map (held_by_docket file) (Spares wanted) dockets
    (all_weaker (λ (docket : states.Docket). AllByRecursion (Fits file wanted) (use_of_docket docket)) (λ (docket : states.Docket). AllByRecursion (Spares wanted) (held_by_docket file docket)) dockets
    (λ docket fits. spares_in file (Docket docket.identity docket.activity) wanted docket.history fits) (all-from_flat_map use_of_docket (Fits file wanted) dockets fits))

-- ---- closing

closed_uses : (state : State) (before after : List StandingParty) (opened : Option Regime) (one : Option Selection) → IsDistinct do_clash (uses_around state before after (use_by opened one)) → IsDistinct do_clash (uses_around state before after (use_by None one))
closed_uses state before after None one agreed = agreed
closed_uses state before after (Some opened) one agreed = closed_agreed state before after opened one agreed

pub closes_hold : ClosesHold
closes_hold state party one sound found is =
    let at = located party.link state.parties party found in
    let among = is_among state party at sound.linked in
    let around = around_party party.link at.before at.after state.dockets among.absent among.off in
    let wanted = joined not_opened one.controls in
    let own : Use = record { file = one.file; controls = joined not_opened one.controls } in
    let d = flat_map use_of_docket state.dockets in
    let b = flat_map use_of_party at.before in
    let a = flat_map use_of_party at.after in
    let agreed = closed_uses state at.before at.after (regime party.history) (selection party.history) (uses_parted state party at.before at.after sound among) in
    let fronted : IsDistinct do_clash (own ∷ rest_of state at.before at.after)
    = agreed_stays.moves (d ++ (b ++ (own ∷ a))) (own ∷ (d ++ (b ++ a))) (to_front d b (own ∷ []) a)
    (subst (λ (sel : Option Selection). IsDistinct do_clash (uses_around state at.before at.after (use_by None sel))) is agreed) in
    let fits : AllByRecursion (Fits one.file (joined not_opened one.controls)) (rest_of state at.before at.after) = IsDistinct-head do_clash own (rest_of state at.before at.after) fronted in
    let F : Use → Type 0 = Fits one.file (joined not_opened one.controls) in
    let parties = all_right F d (b ++ a) fits in
    let spare : AllByRecursion (Spares (joined not_opened one.controls)) (around.before one.file ++ around.after one.file)
    = all_append (Spares wanted) (around.before one.file) (around.after one.file) (parties_spare one.file wanted at.before (all_left F b a parties))
    (all_append (Spares wanted) (flat_map (held_by_party one.file) at.after) (flat_map (held_by_docket one.file) state.dockets)
    (parties_spare one.file wanted at.after (all_right F b a parties)) (dockets_spare one.file wanted state.dockets (all_left F d (b ++ a) fits))) in
    ap (conflict (Party party.link) wanted) (held_before state party at.before at.after among one.file)
    ∙ ap (first_against wanted) (others_left (Party party.link) (around.before one.file) (around.after one.file) (controls_in party.history one.file) (around.are one.file))
    ∙ none_against wanted (put_in_order (around.before one.file ++ around.after one.file)) (all_ordered (Spares wanted) (around.before one.file ++ around.after one.file) spare)
