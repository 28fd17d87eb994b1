-- States are sound once an association is gone, once all are, and once a docket is dropped.
use Rattle.std.proofs.Common.{◌≡◌, ℕ, Bool, true, false, cond, not, List, [], ◌∷◌, ◌++◌, map, nat_eq, Option, None, Some, refl, ap, sym, subst, ◌∙◌}
use Rattle.std.specs.Prelude.{flat_map}
use Rattle.std.specs.List.{AllByRecursion, IsDistinct}
use Rattle.std.proofs.lemmas.List.{append-nil}
use Rattle.vf_attr.specs.declared.file.File.{File}
use Rattle.vf_filestore.specs.Dockets.{broken, docket_by, docket_left_by, dockets_left, dropped, stopped}
use Rattle.vf_filestore.specs.History.{regime}
use Rattle.vf_filestore.specs.Sound.{AreNumbered, IsSound, IsSoundDocket, IsSoundParty, Standing, do_clash, link_of, standing_by, standing_of_docket, standing_of_party, use_of_docket, use_of_party, IsUsable, holding_of_docket, holding_of_party}
use Rattle.vf_filestore.specs.State.{State, StandingParty, activity_in, activity_of, identity_of, is_docket_of, party_of, without_party}
use Rattle.vf_filestore.proofs.Lists.{all-filter, all_append, all_left, all_right}
use Rattle.vf_filestore.proofs.Clashes.{agreed_stays, held_uses, uses_left}
use Rattle.vf_filestore.proofs.Moving.{Has, Leaves, Stays, all_dropped, all_left_by, all_stopped}
use Rattle.vf_filestore.proofs.Parties.{Located, links_less, located, off_after, without_at, found_at}
use Rattle.vf_filestore.proofs.Soundness.{retains, sound_left}
use Rattle.vf_filestore.proofs.Holdings.{holdings_have, holdings_left, usable_stays}
use Rattle.vf_filestore.proofs.Standing.{numbered_less, numbered_permutation}

-- ---- an association is gone

pub none_kept : (link : ℕ) (parties : List StandingParty) → party_of link parties ≡ None → without_party link parties ≡ parties
none_kept link [] none = refl
none_kept link (first ∷ parties) none = by (nat_eq first.link link) none (none_kept link parties)
  where
    by : (b : Bool) → cond b (Some first) (party_of link parties) ≡ None → (party_of link parties ≡ None → without_party link parties ≡ parties)
        → cond (not b) (first ∷ without_party link parties) (without_party link parties) ≡ first ∷ parties
    by true none rest = absurd cc
    by false none rest = ap (λ (ps : List StandingParty). first ∷ ps) (rest none)

-- the dockets that a party leaves are sound, and have its open regime, or it ceases
pub left_sound : (files : List File) (party : StandingParty) → IsSoundParty files party → AllByRecursion (IsSoundDocket files) (docket_left_by party)
left_sound files party sound = by (activity_of party) refl
  where
    by : (activity : Option ℕ) → activity_in (regime party.history) ≡ activity → AllByRecursion (IsSoundDocket files) (docket_by activity party)
    by None is = tt
    by (Some activity) is = (sound_left files (identity_of party) activity party.history is sound.sound, tt)

-- open regimes of dockets are those of their parties
abbrev pub standings : Has Standing
standings = record { of_party = standing_of_party; of_docket = standing_of_docket }

pub standings_left : Leaves standings
standings_left files party activity sound = ap (standing_by (identity_of party)) (retains party.history sound.sound.nested).opens

pub numbered_stays : (next : ℕ) → Stays (AreNumbered next)
numbered_stays next = record { moves = numbered_permutation next; shrinks = numbered_less next }

broken_at : (state : State) (link : ℕ) (party : StandingParty) (before after : List StandingParty) → IsSound state → state.parties ≡ before ++ party ∷ after
    → IsSound (record state { parties = before ++ after; dockets = state.dockets ++ docket_left_by party })
broken_at state link party before after sound is =
    let parties : AllByRecursion (IsSoundParty state.files) (before ++ party ∷ after) = subst (λ (all : List StandingParty). AllByRecursion (IsSoundParty state.files) all) is sound.parties in
    let own = all_right (IsSoundParty state.files) before (party ∷ after) parties in
    let numbered : AreNumbered state.concluded (flat_map standing_of_docket state.dockets ++ flat_map standing_of_party (before ++ party ∷ after))
    = subst (λ (all : List StandingParty). AreNumbered state.concluded (flat_map standing_of_docket state.dockets ++ flat_map standing_of_party all)) is sound.numbered in
    record {
      linked = links_less before after party (subst (λ (all : List StandingParty). IsDistinct nat_eq (map link_of all)) is sound.linked);
      filed = sound.filed;
      limited = sound.limited;
      numbered = all_left_by (AreNumbered state.concluded) (numbered_stays state.concluded) standings standings_left state.files party state.dockets before after own.0 numbered;
      agreed = all_left_by (IsDistinct do_clash) agreed_stays held_uses uses_left state.files party state.dockets before after own.0 (subst (λ (all : List StandingParty). IsDistinct do_clash (flat_map use_of_docket state.dockets ++ flat_map use_of_party all)) is sound.agreed);
      usable = all_left_by (AllByRecursion IsUsable) usable_stays holdings_have holdings_left state.files party state.dockets before after own.0 (subst (λ (all : List StandingParty). AllByRecursion IsUsable (flat_map holding_of_docket state.dockets ++ flat_map holding_of_party all)) is sound.usable);
      parties = all_append (IsSoundParty state.files) before after (all_left (IsSoundParty state.files) before (party ∷ after) parties) own.1;
      dockets = all_append (IsSoundDocket state.files) state.dockets (docket_left_by party) sound.dockets (left_sound state.files party own.0);
    }

-- what an association's end leaves, by where its party stands
pub broken_is : (state : State) (link : ℕ) (party : StandingParty) (at : Located link state.parties party) → IsDistinct nat_eq (map link_of state.parties)
    → broken link state ≡ record state { parties = at.before ++ at.after; dockets = state.dockets ++ docket_left_by party }
broken_is state link party at linked =
    let distinct = subst (λ (all : List StandingParty). IsDistinct nat_eq (map link_of all)) at.is linked in
    let off = off_after link at.before at.after party at.same distinct in
    let parties : without_party link state.parties ≡ at.before ++ at.after
    = ap (without_party link) at.is ∙ without_at link at.before at.after party at.absent off at.same in
    let found : party_of link state.parties ≡ Some party = ap (party_of link) at.is ∙ found_at link at.before at.after party at.absent at.same in
    λ i. record state { parties = parties i; dockets = state.dockets ++ dockets_left (found i) }

pub broken_sound : (link : ℕ) (state : State) → IsSound state → IsSound (broken link state)
broken_sound link state sound = by (party_of link state.parties) refl
  where
    by : (found : Option StandingParty) → party_of link state.parties ≡ found → IsSound (broken link state)
    by None none =
        subst (λ (one : State). IsSound one)
        (λ i. record state { parties = sym (none_kept link state.parties none) i; dockets = sym (ap (λ found. state.dockets ++ dockets_left found) none ∙ append-nil state.dockets) i }) sound
    by (Some party) found =
        let at = located link state.parties party found in
        subst (λ (one : State). IsSound one) (sym (broken_is state link party at sound.linked)) (broken_at state link party at.before at.after sound at.is)

-- ---- all are gone

stopped_dockets : (files : List File) (parties : List StandingParty) → AllByRecursion (IsSoundParty files) parties → AllByRecursion (IsSoundDocket files) (flat_map docket_left_by parties)
stopped_dockets files [] sound = tt
stopped_dockets files (party ∷ parties) sound =
    all_append (IsSoundDocket files) (docket_left_by party) (flat_map docket_left_by parties) (left_sound files party sound.0) (stopped_dockets files parties sound.1)

pub stopped_sound : (state : State) → IsSound state → IsSound (stopped state)
unfolding IsDistinct
stopped_sound state sound = record {
  linked = tt;
  filed = sound.filed;
  limited = sound.limited;
  numbered = all_stopped (AreNumbered state.concluded) (numbered_stays state.concluded) standings standings_left state.files state.dockets state.parties sound.parties sound.numbered;
  agreed = all_stopped (IsDistinct do_clash) agreed_stays held_uses uses_left state.files state.dockets state.parties sound.parties sound.agreed;
  usable = all_stopped (AllByRecursion IsUsable) usable_stays holdings_have holdings_left state.files state.dockets state.parties sound.parties sound.usable;
  parties = tt;
  dockets = all_append (IsSoundDocket state.files) state.dockets (flat_map docket_left_by state.parties) sound.dockets (stopped_dockets state.files state.parties sound.parties);
}

-- ---- a docket is dropped

pub dropped_sound : (identity : List ℕ) (activity : ℕ) (state : State) → IsSound state → IsSound (dropped identity activity state)
dropped_sound identity activity state sound = record {
  linked = sound.linked;
  filed = sound.filed;
  limited = sound.limited;
  numbered = all_dropped (AreNumbered state.concluded) (numbered_stays state.concluded) standings identity activity state.dockets state.parties sound.numbered;
  agreed = all_dropped (IsDistinct do_clash) agreed_stays held_uses identity activity state.dockets state.parties sound.agreed;
  usable = all_dropped (AllByRecursion IsUsable) usable_stays holdings_have identity activity state.dockets state.parties sound.usable;
  parties = sound.parties;
  dockets = all-filter (IsSoundDocket state.files) (λ docket. not (is_docket_of identity activity docket)) state.dockets sound.dockets;
}
