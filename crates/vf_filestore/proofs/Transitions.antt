-- Every transition, every break and every run leave a sound state sound.
use Rattle.std.proofs.Common.{◌≡◌, ℕ, Bool, true, false, cond, ◌&&◌, not, List, [], ◌∷◌, ◌++◌, find, map, nat_eq, Option, None, Some, refl, ap, sym, subst, ◌∙◌, arith}
use Rattle.std.specs.Prelude.{flat_map, is_some}
use Rattle.std.specs.List.{AllByRecursion, IsDistinct}
use Rattle.std.specs.Str.{bytes_eq}
use Rattle.std.proofs.lemmas.Bool.{and_right, eqb-true}
use Rattle.std.proofs.lemmas.List.{append-nil}
use Rattle.vf_elements.specs.Stages.{takes}
use Rattle.vf_elements.specs.declared.message.Message.{Message}
use Rattle.vf_elements.specs.declared.message.Message.TheVariants as messages
use Rattle.vf_elements.specs.declared.stage.Stage.TheVariants as stages
use Rattle.vf_pdu.specs.declared.pdu.Pdu.{Pdu}
use Rattle.vf_pdu.specs.declared.pdu.Pdu.TheVariants.{RecoverRequest}
use Rattle.vf_filestore.specs.Aborts.{Setting}
use Rattle.vf_filestore.specs.Dockets.{broken}
use Rattle.vf_filestore.specs.History.{Regime}
use Rattle.vf_filestore.specs.Laws.{BeginsSound, BreaksAreSound, DropsAreSound, FaultsAreSound, IsNew, RunsAreSound, StopsAreSound, TransitionsAreSound}
use Rattle.vf_filestore.specs.Opening.{has_activity, is_at}
use Rattle.vf_filestore.specs.Runs.{Event, Arrives, Takes, Faults, Stops, after_event, arrives}
use Rattle.vf_filestore.specs.Sound.{AreNumbered, IsSound, IsSoundParty, Standing, link_of, standing_of_docket, standing_of_party, Use, do_clash, use_of_docket, use_of_party, Holding, IsUsable, holding_of_docket, holding_of_party}
use Rattle.vf_filestore.specs.Stage.{Group, pending, regime_stage, stage}
use Rattle.vf_filestore.specs.State.{State, StandingParty, activity_in, arrived, identity_of, party_of, without_party}
use Rattle.vf_filestore.specs.Transition.{superseded_by, taking_over, transition_of, fault_of}
use Rattle.vf_filestore.proofs.Decisions.{answered_sound}
use Rattle.vf_filestore.proofs.Broken.{broken_sound, dropped_sound, stopped_sound}
use Rattle.vf_filestore.proofs.Lists.{all_append, distinct_push, flat_map-append}
use Rattle.vf_filestore.proofs.Nested.{placed}
use Rattle.vf_filestore.proofs.Owned.{found_all, within_stage}
use Rattle.vf_filestore.proofs.Regimes.{found_test}
use Rattle.vf_filestore.proofs.Parties.{IsOff, located, nat_eq_flips, off_after}
use Rattle.vf_filestore.proofs.Views.{in_association_only}

-- ---- an association that gives way

-- the party of a link is the only one with it
only_one : (state : State) (link : ℕ) (party other : StandingParty) (test : StandingParty → Bool) → IsSound state → party_of link state.parties ≡ Some party → find test state.parties ≡ Some other
    → nat_eq other.link link ≡ true → other ≡ party
only_one state link party other test sound found is same =
    let at = located link state.parties party found in
    let off = off_after link at.before at.after party at.same (subst (λ (all : List StandingParty). IsDistinct nat_eq (map link_of all)) at.is sound.linked) in
    let all : AllByRecursion (λ (one : StandingParty). nat_eq one.link link ≡ true → one ≡ party) state.parties
    = subst (λ (all : List StandingParty). AllByRecursion (λ (one : StandingParty). nat_eq one.link link ≡ true → one ≡ party) all) (sym at.is)
    (all_append (λ (one : StandingParty). nat_eq one.link link ≡ true → one ≡ party) at.before (party ∷ at.after) (never at.before at.absent) (λ e. refl, never at.after off)) in
    found_all (λ (one : StandingParty). nat_eq one.link link ≡ true → one ≡ party) test state.parties other is all same
  where
    never : (parties : List StandingParty) → AllByRecursion (IsOff link) parties → AllByRecursion (λ (one : StandingParty). nat_eq one.link link ≡ true → one ≡ party) parties
    never [] off = tt
    never (one ∷ parties) off = (λ e. let here = off.0 in absurd cc, never parties off.1)

-- who asks for a recovery has no open
no_open : (party : StandingParty) (activity number point : ℕ) (identity : List ℕ) → takes (stage party) (messages.Pdu (RecoverRequest activity number point)) ≡ true → is_at identity activity party ≡ false
no_open party activity number point identity taken = by (pending party.trace) taken
  where
    none : takes (regime_stage party.history) (messages.Pdu (RecoverRequest activity number point)) ≡ true → is_at identity activity party ≡ false
    none taken =
        let message = messages.Pdu (RecoverRequest activity number point) in
        let there = in_association_only message (record { reading = refl; shown = refl; writing = refl; written = refl }) refl refl (placed message party.history (within_stage party.history message refl taken)) in
        ap (λ (one : Option Regime). bytes_eq (identity_of party) identity && has_activity activity (activity_in one)) there.no_regime ∙ and_right (bytes_eq (identity_of party) identity) false refl

    by : (one : Option Group) → takes (cond (is_some one) stages.Grouping (regime_stage party.history)) (messages.Pdu (RecoverRequest activity number point)) ≡ true → is_at identity activity party ≡ false
    by None taken = none taken
    by (Some group) taken = absurd cc

kept_other : (link gone : ℕ) (parties : List StandingParty) (party : StandingParty) → party_of link parties ≡ Some party → nat_eq link gone ≡ false → party_of link (without_party gone parties) ≡ Some party
kept_other link gone [] party found other = absurd cc
kept_other link gone (first ∷ parties) party found other = by (nat_eq first.link link) refl found (kept_other link gone parties party)
  where
    dropped : (b : Bool) → nat_eq first.link gone ≡ b → nat_eq first.link link ≡ false → party_of link (without_party gone parties) ≡ Some party
        → party_of link (cond (not b) (first ∷ without_party gone parties) (without_party gone parties)) ≡ Some party
    dropped true is off rest = rest
    dropped false is off rest = (λ i. cond (off i) (Some first) (party_of link (without_party gone parties))) ∙ rest

    by : (b : Bool) → nat_eq first.link link ≡ b → cond b (Some first) (party_of link parties) ≡ Some party → (party_of link parties ≡ Some party → nat_eq link gone ≡ false → party_of link (without_party gone parties) ≡ Some party)
        → party_of link (without_party gone (first ∷ parties)) ≡ Some party
    by true is found rest =
        let stays : nat_eq first.link gone ≡ false = ap (λ n. nat_eq n gone) (eqb-true first.link link is) ∙ other in
        (λ i. party_of link (cond (not (stays i)) (first ∷ without_party gone parties) (without_party gone parties)))
        ∙ (λ i. cond (is i) (Some first) (party_of link (without_party gone parties))) ∙ found
    by false is found rest = dropped (nat_eq first.link gone) refl is (rest found other)

-- the party stands in the state that is left once another gave way
pub still_there : (state : State) (link : ℕ) (party other : StandingParty) (message : Message) → IsSound state → party_of link state.parties ≡ Some party → superseded_by state party message ≡ Some other
    → party_of link (broken other.link state).parties ≡ Some party
still_there state link party other message sound found is = of message is
  where
    differs : (activity number point : ℕ) → takes (stage party) (messages.Pdu (RecoverRequest activity number point)) ≡ true → find (is_at (identity_of party) activity) state.parties ≡ Some other
        → (b : Bool) → nat_eq other.link link ≡ b → nat_eq link other.link ≡ false
    differs activity number point taken is true same =
        let one = only_one state link party other (is_at (identity_of party) activity) sound found is same in
        let there : is_at (identity_of party) activity party ≡ true = sym (ap (is_at (identity_of party) activity) one) ∙ found_test (is_at (identity_of party) activity) state.parties other is in
        let none = no_open party activity number point (identity_of party) taken in
        absurd cc
    differs activity number point taken is false same = nat_eq_flips link other.link ∙ same

    recovers : (activity number point : ℕ) → (b : Bool) → takes (stage party) (messages.Pdu (RecoverRequest activity number point)) ≡ b
        → cond b (find (is_at (identity_of party) activity) state.parties) None ≡ Some other → party_of link (without_party other.link state.parties) ≡ Some party
    recovers activity number point true taken is =
        kept_other link other.link state.parties party found (differs activity number point taken is (nat_eq other.link link) refl)
    recovers activity number point false taken is = absurd cc

    request : (pdu : Pdu) → superseded_by state party (messages.Pdu pdu) ≡ Some other → party_of link (without_party other.link state.parties) ≡ Some party
    request (RecoverRequest activity number point) is = recovers activity number point (takes (stage party) (messages.Pdu (RecoverRequest activity number point))) refl is
    request pdu is = absurd cc

    of : (message : Message) → superseded_by state party message ≡ Some other → party_of link (without_party other.link state.parties) ≡ Some party
    of (messages.Pdu pdu) is = request pdu is
    of message is = absurd cc

-- ---- transitions

taking_sound : (state : State) (link : ℕ) (party : StandingParty) (setting : Setting) (message : Message) (one : Option StandingParty) → IsSound state → party_of link state.parties ≡ Some party → superseded_by state party message ≡ one
    → IsSound (taking_over one state party setting message).state
taking_sound state link party setting message None sound found is = answered_sound state link party setting message sound found
taking_sound state link party setting message (Some other) sound found is =
    answered_sound (broken other.link state) link party setting message (broken_sound other.link state sound) (still_there state link party other message sound found is)

pub transitions_sound : TransitionsAreSound
transitions_sound state link setting message sound = by (party_of link state.parties) refl
  where
    by : (one : Option StandingParty) → party_of link state.parties ≡ one → IsSound (transition_of state setting message one).state
    by None is = sound
    by (Some party) is = taking_sound state link party setting message (superseded_by state party message) sound is refl

pub faults_sound : FaultsAreSound
faults_sound state link number place sound = by (party_of link state.parties) refl
  where
    by : (one : Option StandingParty) → party_of link state.parties ≡ one → IsSound (fault_of state number place one).state
    by None is = sound
    by (Some party) is = broken_sound party.link state sound

pub breaks_sound : BreaksAreSound
breaks_sound state link sound = broken_sound link state sound

pub stops_sound : StopsAreSound
stops_sound state sound = stopped_sound state sound

pub drops_sound : DropsAreSound
drops_sound state identity activity sound = dropped_sound identity activity state sound

-- ---- runs

absent : (link : ℕ) (parties : List StandingParty) → party_of link parties ≡ None → AllByRecursion (λ n. nat_eq n link ≡ false) (map link_of parties)
absent link [] none = tt
absent link (first ∷ parties) none = by (nat_eq first.link link) refl none (absent link parties)
  where
    by : (b : Bool) → nat_eq first.link link ≡ b → cond b (Some first) (party_of link parties) ≡ None → (party_of link parties ≡ None → AllByRecursion (λ n. nat_eq n link ≡ false) (map link_of parties))
        → AllByRecursion (λ n. nat_eq n link ≡ false) (map link_of (first ∷ parties))
    by true is none rest = absurd cc
    by false is none rest = (is, rest none)

links_pushed : (parties : List StandingParty) (link : ℕ) → map link_of (parties ++ arrived link ∷ []) ≡ map link_of parties ++ link ∷ []
links_pushed [] link = refl
links_pushed (first ∷ parties) link = ap (λ links. first.link ∷ links) (links_pushed parties link)

arrives_sound : (state : State) (link : ℕ) → party_of link state.parties ≡ None → IsSound state → IsSound (arrives link state)
arrives_sound state link none sound = record {
  linked = subst (λ links. IsDistinct nat_eq links) (sym (links_pushed state.parties link)) (distinct_push nat_eq (map link_of state.parties) link (absent link state.parties none) sound.linked);
  filed = sound.filed;
  limited = sound.limited;
  numbered =
      subst (λ (all : List Standing). AreNumbered state.concluded (flat_map standing_of_docket state.dockets ++ all))
      (sym (flat_map-append standing_of_party state.parties (arrived link ∷ []) ∙ append-nil (flat_map standing_of_party state.parties))) sound.numbered;
  agreed =
      subst (λ (all : List Use). IsDistinct do_clash (flat_map use_of_docket state.dockets ++ all))
      (sym (flat_map-append use_of_party state.parties (arrived link ∷ []) ∙ append-nil (flat_map use_of_party state.parties))) sound.agreed;
  usable =
      subst (λ (all : List Holding). AllByRecursion IsUsable (flat_map holding_of_docket state.dockets ++ all))
      (sym (flat_map-append holding_of_party state.parties (arrived link ∷ []) ∙ append-nil (flat_map holding_of_party state.parties))) sound.usable;
  parties = all_append (IsSoundParty state.files) state.parties (arrived link ∷ []) sound.parties (record { sound = record { nested = tt; there = tt; moving = tt }; grouped = tt }, tt);
  dockets = sound.dockets;
}

pub event_sound : (state : State) (event : Event) → IsNew event state → IsSound state → IsSound (after_event state event).state
event_sound state (Arrives link) new sound = arrives_sound state link new sound
event_sound state (Takes link setting message) new sound = transitions_sound state link setting message sound
event_sound state (Faults link number place) new sound = faults_sound state link number place sound
event_sound state Stops new sound = stopped_sound state sound

pub runs_sound : RunsAreSound
runs_sound [] state new sound = sound
runs_sound (event ∷ events) state new sound = runs_sound events (after_event state event).state new.1 (event_sound state event new.0 sound)

pub begins_sound : BeginsSound
unfolding IsDistinct
begins_sound users files filed limited = record {
  linked = tt;
  filed = filed;
  limited = limited;
  numbered = record { before = tt; apart = tt; differing = tt; few = omega arith };
  agreed = tt;
  usable = tt;
  parties = tt;
  dockets = tt;
}
