-- How the holders of each file change where an association ends, a docket is dropped, or a party arrives or is heard.
use Rattle.std.proofs.Common.{◌≡◌, ℕ, false, true, List, [], ◌∷◌, ◌++◌, is_some, Option, None, Some, refl, ap, sym, subst, ◌∙◌}
use Rattle.std.specs.Prelude.{IsSome, flat_map}
use Rattle.std.specs.List.{AllByRecursion, IsDistinct}
use Rattle.std.specs.Str.{bytes_eq}
use Rattle.std.proofs.lemmas.List.{append_assoc, append-nil}
use Rattle.vf_base.specs.declared.action.Controls.{Controls}
use Rattle.vf_locks.specs.Holders.{controls_of, others}
use Rattle.vf_locks.specs.declared.held.Held.{Held}
use Rattle.vf_locks.specs.declared.holder.Holder.TheVariants.{Party, Docket}
use Rattle.vf_filestore.specs.Dockets.{docket_by, docket_left_by, dropped, retained}
use Rattle.vf_filestore.specs.History.{Regime, Selection, regime, selection}
use Rattle.vf_filestore.specs.Holders.{held_by_docket, held_by_party, holders, put_in_order}
use Rattle.vf_filestore.specs.HoldersAfter.{ArrivalsHold, BreaksHold, DropsHold, IsAsBefore, IsDropped, IsLeft, IsPassed, IsReleased, PartiesHold, TracesHold}
use Rattle.vf_filestore.specs.Sound.{IsSound, IsSoundParty}
use Rattle.vf_filestore.specs.State as states
use Rattle.vf_filestore.specs.State.{State, StandingParty, activity_in, activity_of, arrived, docket_of, file_in, identity_of, is_docket_of, name_in, party_of, with_party, without_docket}
use Rattle.vf_filestore.proofs.Agreed.{IsAmong}
use Rattle.vf_filestore.proofs.Broken.{broken_is}
use Rattle.vf_filestore.proofs.Decisions.{party_sound}
use Rattle.vf_filestore.proofs.DocketsMoved.{all_stay, apart, none_asked, other_keys}
use Rattle.vf_filestore.proofs.HeldLists.{AreSame, Around, IsOther, among, controls_among, held_around, own, releases}
use Rattle.vf_filestore.proofs.HeldOf.{around_docket, around_party, controls_in, controls_on, holders_of, in_states, on_other, on_own, with_docket_among, with_party_among, without_docket_among, without_party_among}
use Rattle.vf_filestore.proofs.HeldParty.{docket_at, held_at_docket, held_before, is_among, passed_in}
use Rattle.vf_filestore.proofs.Lists.{all_append, all_left, all_weaker, flat_map-append}
use Rattle.vf_filestore.proofs.Nested.{nests}
use Rattle.vf_filestore.proofs.OrderedRows.{is_same_key, key_flips}
use Rattle.vf_filestore.proofs.Parties.{Located, located, with_at}
use Rattle.vf_filestore.proofs.Same.{with_trace}
use Rattle.vf_filestore.proofs.Soundness.{IsRetainedAs, retains}

-- ---- traces and arrivals

pub traces_hold : TracesHold
traces_hold state party message found file =
    let at = located party.link state.parties party found in
    let heard = with_trace party (message ∷ party.trace) in
    let now : with_party heard state.parties ≡ at.before ++ heard ∷ at.after = ap (with_party heard) at.is ∙ with_at party.link at.before at.after party heard at.absent at.same at.same in
    ap (λ (all : List StandingParty). holders_of all state.dockets file) now ∙ with_party_among at.before at.after heard state.dockets file
    ∙ sym (ap (λ (all : List StandingParty). holders_of all state.dockets file) at.is ∙ with_party_among at.before at.after party state.dockets file)

pub arrivals_hold : ArrivalsHold
arrivals_hold state link file =
    ap (λ (all : List Held). put_in_order (all ++ flat_map (held_by_docket file) state.dockets))
    (flat_map-append (held_by_party file) state.parties (arrived link ∷ []) ∙ append-nil (flat_map (held_by_party file) state.parties))

-- ---- a party that stands

pub parties_hold : PartiesHold
parties_hold state party one sound found is =
    let at = located party.link state.parties party found in
    let among = is_among state party at sound.linked in
    let around = around_party party.link at.before at.after state.dockets among.absent among.off in
    ap (controls_of (Party party.link)) (held_before state party at.before at.after among one.file)
    ∙ controls_among (Party party.link) (around.before one.file) (around.after one.file) (controls_in party.history one.file) (around.are one.file)
    ∙ ap (controls_on one.file (regime party.history)) is ∙ on_own (regime party.history) one

-- ---- dockets that are dropped

pub drops_hold : DropsHold
drops_hold state identity activity sound = by (docket_of identity activity state.dockets) refl
  where
    by : (found : Option states.Docket) → docket_of identity activity state.dockets ≡ found → IsDropped identity activity found state (dropped identity activity state)
    by None none = λ file. ap (λ (all : List states.Docket). holders_of state.parties all file) (all_stay identity activity state.dockets (none_asked identity activity state.dockets none))
    by (Some docket) found =
        let at = docket_at state sound identity activity docket found in
        let around = around_docket identity activity state.parties at.first at.later at.off at.off_later in
        in_states state (dropped identity activity state) (name_in docket.history) (others (Docket identity activity)) (held_around around (controls_in docket.history))
        (λ file. put_in_order (around.before file ++ around.after file)) (held_at_docket state identity activity docket at)
        (λ file. ap (λ (all : List states.Docket). holders_of state.parties all file) at.without ∙ without_docket_among state.parties at.first at.later file)
        (releases around (controls_in docket.history) (name_in docket.history) (λ other off. none (selection docket.history) other off))
      where
        none : (one : Option Selection) (other : List ℕ) → bytes_eq (file_in one) other ≡ false → controls_on other (regime docket.history) one ≡ None
        none None other off = refl
        none (Some one) other off = on_other (regime docket.history) one other off

-- ---- associations that end

module _ (state : State) (party : StandingParty) (before after : List StandingParty) (among_is : IsAmong state party before after) where
  abbrev around_own : Around (Party party.link)
  around_own = around_party party.link before after state.dockets among_is.absent among_is.off

  gone_held : (file : List ℕ) → holders (record state { parties = before ++ after; dockets = state.dockets ++ [] }) file ≡ put_in_order (around_own.before file ++ around_own.after file)
  gone_held file =
      ap (λ (all : List states.Docket). holders_of (before ++ after) all file) (append-nil state.dockets) ∙ without_party_among before after state.dockets file

  docket_off : IsSound state → (activity : ℕ) → activity_of party ≡ Some activity → AllByRecursion (λ (other : states.Docket). is_docket_of (identity_of party) activity other ≡ false) state.dockets
  docket_off sound activity is =
      let docket : states.Docket = record { identity = identity_of party; activity = activity; history = retained party.history } in
      let first = flat_map docket_left_by before in
      let last = flat_map docket_left_by after in
      let left : docket_left_by party ≡ docket ∷ [] = ap (λ (one : Option ℕ). docket_by one party) is in
      let parts : state.dockets ++ flat_map docket_left_by state.parties ≡ (state.dockets ++ first) ++ docket ∷ last
      = ap (λ (all : List StandingParty). state.dockets ++ flat_map docket_left_by all) among_is.is
      ∙ ap (λ (all : List states.Docket). state.dockets ++ all) (flat_map-append docket_left_by before (party ∷ after) ∙ ap (λ (mine : List states.Docket). first ++ (mine ++ last)) left)
      ∙ sym (append_assoc state.dockets first (docket ∷ last)) in
      let keys : IsDistinct is_same_key ((state.dockets ++ first) ++ docket ∷ last) = subst (λ (all : List states.Docket). IsDistinct is_same_key all) parts (apart state sound).keys in
      let P : states.Docket → Type 0 = λ (other : states.Docket). is_same_key docket other ≡ false in
      let off = all_left P state.dockets first (all_left P (state.dockets ++ first) last (other_keys (state.dockets ++ first) last docket keys)) in
      all_weaker P (λ (other : states.Docket). is_docket_of (identity_of party) activity other ≡ false) state.dockets (λ other apart. key_flips other docket ∙ apart) off

  passed_held : IsSound state → IsSoundParty state.files party → (one : Selection) (activity : ℕ) → selection party.history ≡ Some one → activity_of party ≡ Some activity
      → IsPassed one.file (Party party.link) (Docket (identity_of party) activity) state (record state { parties = before ++ after; dockets = state.dockets ++ docket_by (Some activity) party })
  passed_held sound own one activity is activity_is = passed_in around_own other are state (record state { parties = before ++ after; dockets = state.dockets ++ docket_by (Some activity) party }) party.history one is (held_before state party before after among_is) now
    where
      docket : states.Docket
      docket = record { identity = identity_of party; activity = activity; history = retained party.history }

      other : Around (Docket (identity_of party) activity)
      other = around_docket (identity_of party) activity (before ++ after) state.dockets [] (docket_off sound activity activity_is) tt

      kept : IsRetainedAs party.history (retained party.history)
      kept = retains party.history own.sound.nested

      now : (file : List ℕ) → holders (record state { parties = before ++ after; dockets = state.dockets ++ docket_by (Some activity) party }) file ≡ held_around other (controls_in party.history) file
      now file =
          with_docket_among (before ++ after) state.dockets [] (record { identity = identity_of party; activity = activity; history = retained party.history }) file
          ∙ (λ i. among (Docket (identity_of party) activity) (other.before file) (other.after file) (controls_on file (kept.opens i) (kept.selects i)))

      same : (file : List ℕ) → around_own.before file ++ around_own.after file ≡ other.before file ++ other.after file
      same file =
          let b = flat_map (held_by_party file) before in
          let a = flat_map (held_by_party file) after in
          let d = flat_map (held_by_docket file) state.dockets in
          sym (append_assoc b a d) ∙ ap (λ (all : List Held). all ++ d) (sym (flat_map-append (held_by_party file) before after))
          ∙ sym (append-nil (flat_map (held_by_party file) (before ++ after) ++ d))

      are : AreSame around_own other
      are = record {
        differ = refl;
        off = λ file.
            subst (λ (all : List Held). AllByRecursion (IsOther (Docket (identity_of party) activity)) all) (sym (same file))
            (all_append (IsOther (Docket (identity_of party) activity)) (other.before file) (other.after file) (other.are file).first (other.are file).later);
        same = same;
      }

  released_held : (one : Selection) → selection party.history ≡ Some one → IsReleased party.link one.file state (record state { parties = before ++ after; dockets = state.dockets ++ [] })
  released_held one is =
      in_states state (record state { parties = before ++ after; dockets = state.dockets ++ [] }) one.file (others (Party party.link)) (held_around around_own (controls_in party.history))
      (λ file. put_in_order (around_own.before file ++ around_own.after file)) (held_before state party before after among_is) gone_held
      (releases around_own (controls_in party.history) one.file (λ other off. ap (controls_on other (regime party.history)) is ∙ on_other (regime party.history) one other off))

  unheld : selection party.history ≡ None → IsAsBefore state (record state { parties = before ++ after; dockets = state.dockets ++ [] })
  unheld none file =
      gone_held file
      ∙ sym (held_before state party before after among_is file ∙ ap (λ (own : Option Controls). held_around around_own (λ file. own) file) (ap (controls_on file (regime party.history)) none))

-- no open stands where nothing is selected
no_activity : (opened : Option Regime) (one : Option Selection) → (IsSome opened → IsSome one) → one ≡ None → activity_in opened ≡ None
no_activity None one within none = refl
no_activity (Some regime) one within none = let some : is_some one ≡ true = within refl in let gone : is_some one ≡ false = ap is_some none in absurd cc

pub breaks_hold : BreaksHold
breaks_hold state party sound found =
    subst (λ (later : State). IsLeft party.link (identity_of party) (activity_of party) (selection party.history) state later) (sym (broken_is state party.link party at sound.linked))
    (by (activity_of party) refl (selection party.history) refl)
  where
    at : Located party.link state.parties party
    at = located party.link state.parties party found

    among_is : IsAmong state party at.before at.after
    among_is = is_among state party at sound.linked

    own : IsSoundParty state.files party
    own = party_sound state party.link party sound found

    by : (activity : Option ℕ) → activity_of party ≡ activity → (one : Option Selection) → selection party.history ≡ one
        → IsLeft party.link (identity_of party) activity one state (record state { parties = at.before ++ at.after; dockets = state.dockets ++ docket_by activity party })
    by None idle None none = unheld state party at.before at.after among_is none
    by (Some activity) is None none =
        let idle : activity_of party ≡ None = no_activity (regime party.history) (selection party.history) (nests party.history own.sound.nested).regimes none in
        absurd cc
    by None idle (Some one) is = released_held state party at.before at.after among_is one is
    by (Some activity) active (Some one) is = passed_held state party at.before at.after among_is sound own one activity is active
