-- An association gives way, and then the message is answered.
use Rattle.std.proofs.Common.{◌≡◌, ◌≢◌, ℕ, Bool, true, false, cond, ◌&&◌, not, List, [], ◌∷◌, ◌++◌, find, map, nat_eq, Option, None, Some, refl, ap, sym, subst, ◌∙◌}
use Rattle.std.specs.Prelude.{IfSome, flat_map}
use Rattle.std.specs.List.{AllByRecursion, IsDistinct}
use Rattle.std.specs.Str.{bytes_eq}
use Rattle.std.proofs.lemmas.Bool.{and_parts, eqb-true, eq-eqb}
use Rattle.vf_elements.specs.Stages.{takes}
use Rattle.vf_elements.specs.declared.message.Message.{Message}
use Rattle.vf_elements.specs.declared.message.Message.TheVariants as messages
use Rattle.vf_pdu.specs.declared.pdu.Pdu.{Pdu}
use Rattle.vf_pdu.specs.declared.pdu.Pdu.TheVariants.{RecoverRequest}
use Rattle.vf_filestore.specs.Aborts.{Setting}
use Rattle.vf_filestore.specs.Dockets.{broken}
use Rattle.vf_filestore.specs.GivingWay.{AnswersFollow, IsInWay, OneIsInWay, answering_in, turn_after}
use Rattle.vf_filestore.specs.History.{Regime, regime}
use Rattle.vf_filestore.specs.Opening.{has_activity, is_at}
use Rattle.vf_filestore.specs.Ranges.{IsReached}
use Rattle.vf_filestore.specs.Decision.{decision}
use Rattle.vf_filestore.specs.Records.{changes_by, changes_of_party, changes_where, given_way}
use Rattle.vf_filestore.specs.Sayable.{CanTell}
use Rattle.vf_filestore.specs.Sound.{IsSound, Standing, is_same_open, link_of, standing_by, standing_of_docket, standing_of_party}
use Rattle.vf_filestore.specs.Stage.{stage}
use Rattle.vf_filestore.specs.State.{State, StandingParty, activity_in, identity_of, is_of_link, party_of, without_party}
use Rattle.vf_filestore.specs.Tables.{tables_of}
use Rattle.vf_filestore.specs.Transition.{superseded_by, transition, transition_of, taking_over}
use Rattle.vf_filestore.proofs.Broken.{broken_sound}
use Rattle.vf_filestore.proofs.Filed.{name_itself, same_name}
use Rattle.vf_filestore.proofs.Kept.{breaks_keep}
use Rattle.vf_filestore.proofs.Lists.{all-filter, all_left, all_right, all_unmap, distinct_less}
use Rattle.vf_filestore.proofs.Owned.{found_all}
use Rattle.vf_filestore.proofs.RangedStates.{breaks_reached}
use Rattle.vf_filestore.proofs.Regimes.{found_test}
use Rattle.vf_filestore.proofs.ToldStates.{breaks_telling}
use Rattle.vf_pdu_fields.proofs.Plain.{some_is}
use Rattle.vf_tables.specs.declared.change.Change.{Change}
use Rattle.std.proofs.lemmas.Map.Keys.{IsDistinct-head}
use Rattle.vf_filestore.proofs.Others.{breaks_leave_none, breaks_leave_others}
use Rattle.vf_filestore.proofs.Parties.{located}
use Rattle.vf_filestore.proofs.Transitions.{still_there}

-- ---- one identity has one open of an activity

-- the open of a party that is found so
record HasOpen (identity : List ℕ) (activity : ℕ) (party : StandingParty) : Type 0 where
  number : ℕ
  is : standing_of_party party ≡ record { identity = identity_of party; activity = Some activity; number = number } ∷ []
  whose : identity_of party ≡ identity

has_open : (identity : List ℕ) (activity : ℕ) (party : StandingParty) → is_at identity activity party ≡ true → HasOpen identity activity party
has_open identity activity party at = by (regime party.history) refl
  where
    parts : (bytes_eq (identity_of party) identity ≡ true) × (has_activity activity (activity_in (regime party.history)) ≡ true)
    parts = and_parts (bytes_eq (identity_of party) identity) (has_activity activity (activity_in (regime party.history))) at

    of : (one : Regime) → regime party.history ≡ Some one → (number : Option ℕ) → one.activity ≡ number → has_activity activity number ≡ true → HasOpen identity activity party
    of one is None none test = absurd cc
    of one is (Some number) some test = record {
      number = one.number;
      is =
          ap (standing_by (identity_of party)) is
          ∙ ap (λ (number : Option ℕ). record { identity = identity_of party; activity = number; number = one.number } ∷ []) (some ∙ ap (λ (n : ℕ). Some n) (eqb-true number activity test));
      whose = same_name (identity_of party) identity parts.0;
    }

    by : (one : Option Regime) → regime party.history ≡ one → HasOpen identity activity party
    by None is = let none : has_activity activity None ≡ true = ap (λ (one : Option Regime). has_activity activity (activity_in one)) (sym is) ∙ parts.1 in absurd cc
    by (Some one) is = of one is one.activity refl (ap (λ (one : Option Regime). has_activity activity (activity_in one)) (sym is) ∙ parts.1)

-- a second one isn't found
module _ (identity : List ℕ) (activity : ℕ) where
  no_second : (parties : List StandingParty)
      → AllByRecursion (λ (other : Standing). is_same_open (record { identity = identity; activity = Some activity; number = 0 }) other ≡ false) (flat_map standing_of_party parties)
      → AllByRecursion (λ (other : StandingParty). is_at identity activity other ≡ false) parties
  no_second [] off = tt
  no_second (other ∷ parties) off = (by (is_at identity activity other) refl, no_second parties (all_right P (standing_of_party other) (flat_map standing_of_party parties) off))
    where
      P : Standing → Type 0
      P one = is_same_open (record { identity = identity; activity = Some activity; number = 0 }) one ≡ false

      by : (b : Bool) → is_at identity activity other ≡ b → is_at identity activity other ≡ false
      by true at =
          let there = has_open identity activity other at in
          let here = subst (λ (all : List Standing). AllByRecursion P all) there.is (all_left P (standing_of_party other) (flat_map standing_of_party parties) off) in
          let same : (bytes_eq identity (identity_of other) && nat_eq activity activity) ≡ true =
          (λ i. bytes_eq identity (there.whose i) && nat_eq activity activity) ∙ (λ i. name_itself identity i && eq-eqb activity activity refl i) in
          let differ = here.0 in
          absurd cc
      by false at = at

  none_at : (parties : List StandingParty) → AllByRecursion (λ (other : StandingParty). is_at identity activity other ≡ false) parties → find (is_at identity activity) parties ≡ None
  none_at [] off = refl
  none_at (first ∷ parties) off = (λ i. cond (off.0 i) (Some first) (find (is_at identity activity) parties)) ∙ none_at parties off.1

  all_less : (link : ℕ) (parties : List StandingParty) → AllByRecursion (λ (other : StandingParty). is_at identity activity other ≡ false) parties
      → AllByRecursion (λ (other : StandingParty). is_at identity activity other ≡ false) (without_party link parties)
  all_less link parties off = all-filter (λ (other : StandingParty). is_at identity activity other ≡ false) (λ party. not (is_of_link link party)) parties off

  -- those after it have other opens
  others_off : (first : StandingParty) (parties : List StandingParty) → IsDistinct is_same_open (standing_of_party first ++ flat_map standing_of_party parties) → is_at identity activity first ≡ true
      → AllByRecursion (λ (other : StandingParty). is_at identity activity other ≡ false) parties
  others_off first parties distinct at =
      let mine = has_open identity activity first at in
      let here : IsDistinct is_same_open ((record { identity = identity_of first; activity = Some activity; number = mine.number } ∷ []) ++ flat_map standing_of_party parties) =
      subst (λ (own : List Standing). IsDistinct is_same_open (own ++ flat_map standing_of_party parties)) mine.is distinct in
      let off = IsDistinct-head is_same_open (record { identity = identity_of first; activity = Some activity; number = mine.number }) (flat_map standing_of_party parties) here in
      no_second parties
      (subst (λ (name : List ℕ). AllByRecursion (λ (one : Standing). is_same_open (record { identity = name; activity = Some activity; number = 0 }) one ≡ false) (flat_map standing_of_party parties)) mine.whose off)

  -- once it is gone, none is found
  none_after : (parties : List StandingParty) (other : StandingParty) → IsDistinct is_same_open (flat_map standing_of_party parties) → find (is_at identity activity) parties ≡ Some other
      → find (is_at identity activity) (without_party other.link parties) ≡ None
  none_after [] other distinct is = absurd cc
  none_after (first ∷ parties) other distinct is =
      by (is_at identity activity first) refl is (none_after parties other (distinct_less is_same_open (standing_of_party first) (flat_map standing_of_party parties) distinct))
    where
      gone : is_at identity activity first ≡ true → first ≡ other → find (is_at identity activity) (without_party other.link (first ∷ parties)) ≡ None
      gone at same =
          let others = others_off first parties distinct at in
          let same_link : nat_eq first.link other.link ≡ true = eq-eqb first.link other.link (ap link_of same) in
          (λ i. find (is_at identity activity) (cond (not (same_link i)) (first ∷ without_party other.link parties) (without_party other.link parties)))
          ∙ none_at (without_party other.link parties) (all_less other.link parties others)

      passed : (b : Bool) → is_at identity activity first ≡ false → find (is_at identity activity) (without_party other.link parties) ≡ None
          → find (is_at identity activity) (cond b (first ∷ without_party other.link parties) (without_party other.link parties)) ≡ None
      passed true off rest = (λ i. cond (off i) (Some first) (find (is_at identity activity) (without_party other.link parties))) ∙ rest
      passed false off rest = rest

      by : (b : Bool) → is_at identity activity first ≡ b → cond b (Some first) (find (is_at identity activity) parties) ≡ Some other
          → (find (is_at identity activity) parties ≡ Some other → find (is_at identity activity) (without_party other.link parties) ≡ None)
          → find (is_at identity activity) (without_party other.link (first ∷ parties)) ≡ None
      by true at is rest = gone at (some_is first other is)
      by false at is rest = passed (not (nat_eq first.link other.link)) at (rest is)

-- who is found stands on its link
stands_found : (test : StandingParty → Bool) (parties : List StandingParty) (other : StandingParty) → IsDistinct nat_eq (map link_of parties) → find test parties ≡ Some other → party_of other.link parties ≡ Some other
unfolding IsDistinct
stands_found test [] other distinct is = absurd cc
stands_found test (first ∷ parties) other distinct is = by (test first) is (stands_found test parties other distinct.1)
  where
    differ : find test parties ≡ Some other → nat_eq first.link other.link ≡ false
    differ is = found_all (λ (one : StandingParty). nat_eq first.link one.link ≡ false) test parties other is (all_unmap link_of (λ (n : ℕ). nat_eq first.link n ≡ false) parties distinct.0)

    by : (b : Bool) → cond b (Some first) (find test parties) ≡ Some other → (find test parties ≡ Some other → party_of other.link parties ≡ Some other) → party_of other.link (first ∷ parties) ≡ Some other
    by true is rest =
        let same : first ≡ other = some_is first other is in
        (λ i. cond (eq-eqb first.link other.link (ap link_of same) i) (Some first) (party_of other.link parties)) ∙ ap (λ (one : StandingParty). Some one) same
    by false is rest = (λ i. cond (differ is i) (Some first) (party_of other.link parties)) ∙ rest is

-- and whoever stands with the open is found
module _ (identity : List ℕ) (activity : ℕ) where
  found_first : (link : ℕ) (parties : List StandingParty) (other : StandingParty) → IsDistinct is_same_open (flat_map standing_of_party parties) → party_of link parties ≡ Some other
      → is_at identity activity other ≡ true → find (is_at identity activity) parties ≡ Some other
  found_first link [] other distinct found at = absurd cc
  found_first link (first ∷ parties) other distinct found at =
      by (nat_eq first.link link) found (λ found. found_first link parties other (distinct_less is_same_open (standing_of_party first) (flat_map standing_of_party parties) distinct) found at)
    where
      after : party_of link parties ≡ Some other → is_at identity activity first ≡ false
      after found = is_no (is_at identity activity first) refl
        where
          is_no : (b : Bool) → is_at identity activity first ≡ b → is_at identity activity first ≡ false
          is_no true here =
              let others = others_off identity activity first parties distinct here in
              let none : is_at identity activity other ≡ false = found_all (λ (one : StandingParty). is_at identity activity one ≡ false) (is_of_link link) parties other found others in
              absurd cc
          is_no false here = here

      by : (b : Bool) → cond b (Some first) (party_of link parties) ≡ Some other → (party_of link parties ≡ Some other → find (is_at identity activity) parties ≡ Some other)
          → find (is_at identity activity) (first ∷ parties) ≡ Some other
      by true found rest =
          let same : first ≡ other = some_is first other found in
          let here : is_at identity activity first ≡ true = ap (is_at identity activity) same ∙ at in
          (λ i. cond (here i) (Some first) (find (is_at identity activity) parties)) ∙ found
      by false found rest = (λ i. cond (after found i) (Some first) (find (is_at identity activity) parties)) ∙ rest found

-- open regimes of parties differ
opens_differ : (state : State) → IsSound state → IsDistinct is_same_open (flat_map standing_of_party state.parties)
opens_differ state sound = distinct_less is_same_open (flat_map standing_of_docket state.dockets) (flat_map standing_of_party state.parties) sound.numbered.differing

pub one_is_in_way : OneIsInWay
one_is_in_way state identity activity other sound = (
  λ found. (stands_found (is_at identity activity) state.parties other sound.linked found, found_test (is_at identity activity) state.parties other found),
  λ stands. found_first identity activity other.link state.parties other (opens_differ state sound) stands.0 stands.1,
)

-- ---- the one in the way

record IsFound (state : State) (party : StandingParty) (message : Message) (other : StandingParty) : Type 0 where
  stands : party_of other.link state.parties ≡ Some other
  nobody : superseded_by (broken other.link state) party message ≡ None

in_way : (state : State) (party : StandingParty) (message : Message) (other : StandingParty) → IsSound state → superseded_by state party message ≡ Some other → IsFound state party message other
in_way state party message other sound is = of message is
  where
    recovers : (activity number point : ℕ) → (b : Bool) → takes (stage party) (messages.Pdu (RecoverRequest activity number point)) ≡ b
        → cond b (find (is_at (identity_of party) activity) state.parties) None ≡ Some other → IsFound state party (messages.Pdu (RecoverRequest activity number point)) other
    recovers activity number point true taken is = record {
      stands = stands_found (is_at (identity_of party) activity) state.parties other sound.linked is;
      nobody =
          (λ i. cond (taken i) (find (is_at (identity_of party) activity) (without_party other.link state.parties)) None)
          ∙ none_after (identity_of party) activity state.parties other (opens_differ state sound) is;
    }
    recovers activity number point false taken is = absurd cc

    request : (pdu : Pdu) → superseded_by state party (messages.Pdu pdu) ≡ Some other → IsFound state party (messages.Pdu pdu) other
    request (RecoverRequest activity number point) is = recovers activity number point (takes (stage party) (messages.Pdu (RecoverRequest activity number point))) refl is
    request pdu is = absurd cc

    of : (message : Message) → superseded_by state party message ≡ Some other → IsFound state party message other
    of (messages.Pdu pdu) is = request pdu is
    of message is = absurd cc

-- ---- a message, by what is in its way

-- the same, of whoever is found
record IsAfter (state : State) (link : ℕ) (party : StandingParty) (setting : Setting) (message : Message) (way : Option StandingParty) : Type 0 where
  in_way : IfSome way (IsInWay state link)
  turn : transition state link setting message ≡ turn_after way (given_way way state) link party setting message
  nobody : superseded_by (given_way way state) party message ≡ None
  changes : changes_by (given_way way state) link setting message ≡ changes_by state link setting message
  stands : party_of link (given_way way state).parties ≡ Some party
  others : (one : ℕ) → IfSome way (λ other. other.link ≢ one) → party_of one (given_way way state).parties ≡ party_of one state.parties
  sound : IsSound (given_way way state)
  reached : IsReached state → IsReached (given_way way state)
  telling : CanTell state → CanTell (given_way way state)
  kept : tables_of (given_way way state) ≡ tables_of state

same_link : (state : State) (link : ℕ) (party : StandingParty) → party_of link state.parties ≡ Some party → party.link ≡ link
same_link state link party found = (located link state.parties party found).same

-- what is answered by the party of the link
answer_of : (state : State) (link : ℕ) (party : StandingParty) (setting : Setting) (message : Message) (way : Option StandingParty) → party_of link state.parties ≡ Some party → superseded_by state party message ≡ way
    → transition state link setting message ≡ taking_over way state party setting message
answer_of state link party setting message way found is =
    ap (transition_of state setting message) found ∙ ap (λ (way : Option StandingParty). taking_over way state party setting message) is

-- the changes by what it answers
abbrev changes_without : Option StandingParty → State → StandingParty → Setting → Message → List Change
changes_without way state party setting message =
    let before = given_way way state in changes_where before party setting message (decision before party setting message)

changes_are : (state : State) (link : ℕ) (party : StandingParty) (setting : Setting) (message : Message) (way : Option StandingParty) → party_of link state.parties ≡ Some party → superseded_by state party message ≡ way
    → changes_by state link setting message ≡ changes_without way state party setting message
changes_are state link party setting message way found is =
    ap (changes_of_party state setting message) found ∙ ap (λ (way : Option StandingParty). changes_without way state party setting message) is

after_none : (state : State) (link : ℕ) (party : StandingParty) (setting : Setting) (message : Message) → IsSound state → party_of link state.parties ≡ Some party → superseded_by state party message ≡ None
    → IsAfter state link party setting message None
after_none state link party setting message sound found is = record {
  in_way = tt;
  turn = answer_of state link party setting message None found is ∙ ap (λ (n : ℕ). turn_after None state n party setting message) (same_link state link party found);
  nobody = is;
  changes = refl;
  stands = found;
  others = λ one apart. refl;
  sound = sound;
  reached = λ was. was;
  telling = λ was. was;
  kept = refl;
}

after_some : (state : State) (link : ℕ) (party : StandingParty) (setting : Setting) (message : Message) (other : StandingParty) → IsSound state → party_of link state.parties ≡ Some party
    → superseded_by state party message ≡ Some other → IsAfter state link party setting message (Some other)
after_some state link party setting message other sound found is =
    let there = in_way state party message other sound is in
    let now = broken other.link state in
    let still : party_of link now.parties ≡ Some party = still_there state link party other message sound found is in
    record {
      in_way = record { stands = there.stands; apart = apart still };
      turn = answer_of state link party setting message (Some other) found is ∙ ap (λ (n : ℕ). turn_after (Some other) now n party setting message) (same_link state link party found);
      nobody = there.nobody;
      changes = changes_are now link party setting message None still there.nobody ∙ sym (changes_are state link party setting message (Some other) found is);
      stands = still;
      others = λ one differs. breaks_leave_others state other.link one (λ e. differs (sym e));
      sound = broken_sound other.link state sound;
      reached = breaks_reached state other.link;
      telling = breaks_telling state other.link;
      kept = breaks_keep state other.link sound;
    }
  where
    apart : party_of link (broken other.link state).parties ≡ Some party → other.link ≢ link
    apart still e =
        let none : party_of link (broken other.link state).parties ≡ None = subst (λ (n : ℕ). party_of n (broken other.link state).parties ≡ None) e (breaks_leave_none state other.link) in
        cc

after_way : (state : State) (link : ℕ) (party : StandingParty) (setting : Setting) (message : Message) (way : Option StandingParty) → IsSound state → party_of link state.parties ≡ Some party
    → superseded_by state party message ≡ way → IsAfter state link party setting message way
after_way state link party setting message None sound found is = after_none state link party setting message sound found is
after_way state link party setting message (Some other) sound found is = after_some state link party setting message other sound found is

pub answers_follow : AnswersFollow
answers_follow state link party setting message sound found =
    let now = answering_in state party message in
    let after = after_way state link party setting message (superseded_by state party message) sound found refl in
    let again = after_none now link party setting message after.sound after.stands after.nobody in
    record {
      in_way = after.in_way;
      turn = after.turn;
      nobody = after.nobody;
      alone = again.turn;
      changes = after.changes;
      stands = after.stands;
      others = after.others;
      sound = after.sound;
      reached = after.reached;
      telling = after.telling;
      kept = after.kept;
    }
