-- What leads from a state where an association ends, all end, or a docket is dropped.
use Rattle.std.proofs.Common.{◌≡◌, ℕ, ◌≤◌, List, [], ◌∷◌, ◌++◌, map, is_some, Option, None, Some, refl, ap, sym, subst, ◌∙◌, arith}
use Rattle.std.specs.Prelude.{IsSome, flat_map}
use Rattle.std.proofs.lemmas.List.{append_assoc, append-nil, map-append}
use Rattle.vf_filestore.specs.Dockets.{broken, docket_by, docket_left_by, dockets_left, dropped, retained, stopped}
use Rattle.vf_filestore.specs.History.{History, Regime, Selection, regime, selection}
use Rattle.vf_filestore.specs.Keeping.{AreHistoriesKept, EachAfter, IsKeptEntry}
use Rattle.vf_filestore.specs.Sound.{IsNested, IsSound, IsSoundDocket, IsSoundParty}
use Rattle.vf_filestore.specs.State.{Docket, State, StandingParty, activity_of, docket_of, file_in, identity_of, is_docket_of, is_of_link, name_in, party_of}
use Rattle.vf_filestore.proofs.Broken.{broken_is, broken_sound, none_kept}
use Rattle.vf_filestore.proofs.Decisions.{party_sound}
use Rattle.vf_filestore.proofs.DocketsMoved.{all_stay, none_asked}
use Rattle.vf_filestore.proofs.HeldParty.{docket_at}
use Rattle.vf_filestore.proofs.Nested.{nests}
use Rattle.vf_filestore.proofs.Owned.{found_all}
use Rattle.vf_filestore.proofs.Parties.{Located, found_at, located}
use Rattle.vf_filestore.proofs.Soundness.{retains}
use Rattle.vf_filestore.proofs.StaysKept.{histories_stay}
use Rattle.vf_serial.specs.Moves.{by_break, broken_of, ceased, dropped_of, lost, lost_by}
use Rattle.vf_serial.proofs.Leading.{IsElsewhere, IsWithout, Leads, elsewhere_same, elsewhere_were, moves_on, stays, still_itself, then_leads, without_ceased, without_same, without_were}
use Rattle.vf_serial.proofs.Placed.{placed_retained}
use Rattle.vf_serial.proofs.Working.{of_equal, same_works, workers}
use Rattle.vf_serial.proofs.Acting.{tree_at}
use Rattle.vf_serial.proofs.Led.{at}
use Rattle.vf_serial.proofs.Present.{Item, docked, history_of, items, stand_by, stands_in, standing}

-- ---- what stands by a history

pub none_stands : (history : History) → regime history ≡ None → stands_in history ≡ []
none_stands history none = ap (λ (one : Option Regime). stand_by one (selection history)) none

pub one_stands : (history : History) (opened : Regime) → IsNested history → regime history ≡ Some opened → stands_in history ≡ at (name_in history) opened ∷ []
one_stands history opened nested is =
    ap (λ (one : Option Regime). stand_by one (selection history)) is
    ∙ by (selection history) ((nests history nested).regimes (ap is_some is))
  where
    by : (one : Option Selection) → IsSome one → stand_by (Some opened) one ≡ at (file_in one) opened ∷ []
    by None some = absurd cc
    by (Some selection) some = refl

-- ---- one is gone

pub gone_leads : (state later : State) (item : Item) → IsSound state → IsNested (history_of item) → state.concluded ≤ later.concluded → later.files ≡ state.files → IsWithout state later item
    → Leads state (ceased (name_in (history_of item)) (regime (history_of item))) later
gone_leads state later item sound nested less files without = by (regime (history_of item)) refl
  where
    by : (one : Option Regime) → regime (history_of item) ≡ one → Leads state (ceased (name_in (history_of item)) one) later
    by None is =
        stays state later sound (record {
          same = without_same state later item without (none_stands (history_of item) is);
          were = without_were state later item without;
          trees = λ name. ap (tree_at name) files;
          less = less;
        })
    by (Some opened) is =
        let one = one_stands (history_of item) opened nested is in
        moves_on state later _ sound less (without_ceased state later item (name_in (history_of item)) opened sound without one)
        (record { were = without_were state later item without; trees = λ name. ap (tree_at name) files })

-- ---- an association ends

pub items_at : (dockets : List Docket) (before after : List StandingParty) (party : StandingParty) → items dockets (before ++ party ∷ after) ≡ (map docked dockets ++ map standing before) ++ standing party ∷ map standing after
items_at dockets before after party =
    ap (λ (all : List Item). map docked dockets ++ all) (map-append standing before (party ∷ after)) ∙ sym (append_assoc (map docked dockets) (map standing before) (standing party ∷ map standing after))

items_left : (dockets : List Docket) (before after : List StandingParty) → items (dockets ++ []) (before ++ after) ≡ (map docked dockets ++ map standing before) ++ map standing after
items_left dockets before after =
    (λ i. map docked (append-nil dockets i) ++ map-append standing before after i) ∙ sym (append_assoc (map docked dockets) (map standing before) (map standing after))

items_docked : (dockets : List Docket) (docket : Docket) (before after : List StandingParty) → items (dockets ++ docket ∷ []) (before ++ after) ≡ map docked dockets ++ docked docket ∷ (map standing before ++ map standing after)
items_docked dockets docket before after =
    (λ i. map-append docked dockets (docket ∷ []) i ++ map-append standing before after i) ∙ append_assoc (map docked dockets) (docked docket ∷ []) (map standing before ++ map standing after)

pub broken_leads : (link : ℕ) (state : State) → IsSound state → AreHistoriesKept state → Leads state (by_break link state) (broken link state)
broken_leads link state sound kept_all = by (party_of link state.parties) refl
  where
    by : (found : Option StandingParty) → party_of link state.parties ≡ found → Leads state (broken_of found) (broken link state)
    by None none =
        let same : broken link state ≡ state
        = λ i. record state { parties = none_kept link state.parties none i; dockets = (ap (λ found. state.dockets ++ dockets_left found) none ∙ append-nil state.dockets) i } in
        subst (λ (later : State). Leads state [] later) (sym same) (stays state state sound (still_itself state))
    by (Some party) found =
        let place = located link state.parties party found in
        let own = party_sound state link party sound found in
        subst (λ (later : State). Leads state (lost_by party) later) (sym (broken_is state link party place sound.linked)) (ends place own (activity_of party))
      where
        ends : (place : Located link state.parties party) → IsSoundParty state.files party → (activity : Option ℕ)
            → Leads state (lost activity (name_in party.history) (regime party.history)) (record state { parties = place.before ++ place.after; dockets = state.dockets ++ docket_by activity party })
        ends place own None =
            gone_leads state (record state { parties = place.before ++ place.after; dockets = state.dockets ++ [] }) (standing party) sound own.sound.nested (omega arith) refl (record {
              before = map docked state.dockets ++ map standing place.before;
              after = map standing place.after;
              was = ap (items state.dockets) place.is ∙ items_at state.dockets place.before place.after party;
              is = items_left state.dockets place.before place.after;
            })
        ends place own (Some activity) =
            let docket : Docket = record { identity = identity_of party; activity = activity; history = retained party.history } in
            let kept = retains party.history own.sound.nested in
            let later : State = record state { parties = place.before ++ place.after; dockets = state.dockets ++ docket ∷ [] } in
            let moved : IsElsewhere state later (standing party) (docked docket) = record {
              before = map docked state.dockets ++ map standing place.before;
              after = map standing place.after;
              first = map docked state.dockets;
              last = map standing place.before ++ map standing place.after;
              was = ap (items state.dockets) place.is ∙ items_at state.dockets place.before place.after party;
              is = items_docked state.dockets docket place.before place.after;
              same = append_assoc (map docked state.dockets) (map standing place.before) (map standing place.after);
            } in
            let each = found_all (λ (one : StandingParty). EachAfter IsKeptEntry one.history) (is_of_link link) state.parties party found kept_all.parties in
            stays state later sound (record {
              same = elsewhere_same state later (standing party) (docked docket) moved (λ i. stand_by (kept.opens i) (kept.selects i));
              were =
                  elsewhere_were state later (standing party) (docked docket) moved
                  (of_equal (workers (docked docket)) (workers (standing party)) (same_works party.history (retained party.history) kept.opens kept.selects (placed_retained party.history own.sound.nested each)));
              trees = λ name. refl;
              less = omega arith;
            })

-- ---- all end

pub stopped_leads : (parties : List StandingParty) (state : State) → state.parties ≡ parties → IsSound state → AreHistoriesKept state → Leads state (flat_map lost_by parties) (stopped state)
stopped_leads [] state are sound kept_all =
    let same : stopped state ≡ state
    = λ i. record state { parties = sym are i; dockets = (ap (λ (all : List StandingParty). state.dockets ++ flat_map docket_left_by all) are ∙ append-nil state.dockets) i } in
    subst (λ (later : State). Leads state [] later) (sym same) (stays state state sound (still_itself state))
stopped_leads (party ∷ parties) state are sound kept_all =
    let place : Located party.link state.parties party = record { before = []; after = parties; is = are; same = refl; absent = tt } in
    let gone = broken_is state party.link party place sound.linked in
    let found : party_of party.link state.parties ≡ Some party = ap (party_of party.link) are ∙ found_at party.link [] parties party tt refl in
    let mid = broken party.link state in
    let first : Leads state (lost_by party) mid = subst (λ found. Leads state (broken_of found) mid) found (broken_leads party.link state sound kept_all) in
    let left : mid.parties ≡ parties = ap (λ (one : State). one.parties) gone in
    let rest = stopped_leads parties mid left (broken_sound party.link state sound) (histories_stay.breaks party.link state sound kept_all) in
    let same : stopped mid ≡ stopped state
    = ap stopped gone
    ∙ (λ i. record state {
      parties = [];
      dockets = (append_assoc state.dockets (docket_left_by party) (flat_map docket_left_by parties) ∙ ap (λ (all : List StandingParty). state.dockets ++ flat_map docket_left_by all) (sym are)) i;
    }) in
    subst (λ (later : State). Leads state (lost_by party ++ flat_map lost_by parties) later) same (then_leads state mid (stopped mid) (lost_by party) (flat_map lost_by parties) first rest)

-- ---- a docket is dropped

pub dropped_leads : (identity : List ℕ) (activity : ℕ) (state : State) → IsSound state → Leads state (dropped_of (docket_of identity activity state.dockets)) (dropped identity activity state)
dropped_leads identity activity state sound = by (docket_of identity activity state.dockets) refl
  where
    by : (found : Option Docket) → docket_of identity activity state.dockets ≡ found → Leads state (dropped_of found) (dropped identity activity state)
    by None none =
        let same : dropped identity activity state ≡ state = λ i. record state { dockets = all_stay identity activity state.dockets (none_asked identity activity state.dockets none) i } in
        subst (λ (later : State). Leads state [] later) (sym same) (stays state state sound (still_itself state))
    by (Some docket) found =
        let place = docket_at state sound identity activity docket found in
        let own = found_all (IsSoundDocket state.files) (is_docket_of identity activity) state.dockets docket found sound.dockets in
        gone_leads state (dropped identity activity state) (docked docket) sound own.sound.nested (omega arith) refl (record {
          before = map docked place.first;
          after = map docked place.later ++ map standing state.parties;
          was =
              ap (λ (all : List Docket). items all state.parties) place.is ∙ ap (λ (all : List Item). all ++ map standing state.parties) (map-append docked place.first (docket ∷ place.later))
              ∙ append_assoc (map docked place.first) (docked docket ∷ map docked place.later) (map standing state.parties);
          is =
              ap (λ (all : List Docket). items all state.parties) place.without ∙ ap (λ (all : List Item). all ++ map standing state.parties) (map-append docked place.first place.later)
              ∙ append_assoc (map docked place.first) (map docked place.later) (map standing state.parties);
        })
