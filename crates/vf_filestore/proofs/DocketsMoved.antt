-- What a granted message does to the rows of dockets and of recoverable opens is one step: one row is more, is gone, or is
-- changed in its place.
use Rattle.std.proofs.Common.{◌≡◌, ℕ, ◌+◌, ◌<◌, Bool, true, false, cond, ◌&&◌, not, nat_eq, List, [], ◌∷◌, ◌++◌, is_some, Option, None, Some, refl, ap, sym, subst, ◌∙◌}
use Rattle.std.specs.Prelude.{IsSome, flat_map}
use Rattle.std.specs.List.{AllByRecursion, IsDistinct}
use Rattle.std.specs.Str.{bytes_eq}
use Rattle.std.proofs.lemmas.Bool.{and_parts, eqb-true}
use Rattle.std.proofs.lemmas.List.{append_assoc, append-nil}
use Rattle.vf_elements.specs.Stages.{takes}
use Rattle.vf_elements.specs.declared.message.Message.{Message}
use Rattle.vf_elements.specs.declared.message.Message.TheVariants as messages
use Rattle.vf_pdu.specs.declared.pdu.Pdu.{Pdu}
use Rattle.vf_pdu.specs.declared.pdu.Pdu.TheVariants.{InitializeRequest, OpenRequest, CloseRequest, RecoverRequest}
use Rattle.vf_pdu_fields.proofs.Plain.{some_is}
use Rattle.vf_tables.specs.declared.docket.Docket as tables
use Rattle.vf_filestore.specs.Aborts.{Setting}
use Rattle.vf_filestore.specs.Conclusion.{concluding_entry, dockets_after, history_of, taken_up}
use Rattle.vf_filestore.specs.Decision.{Grants, request_decision}
use Rattle.vf_filestore.specs.Dockets.{docket_by, docket_left_by, retained}
use Rattle.vf_filestore.specs.History.{Given, History, Regime, association, regime, selection}
use Rattle.vf_filestore.specs.Sound.{IsNested, IsSound, IsSoundDocket, IsSoundParty, Standing, is_same_number, standing_of_docket, standing_of_party}
use Rattle.vf_filestore.specs.Sound as standings
use Rattle.vf_filestore.specs.Stage.{regime_stage}
use Rattle.vf_filestore.specs.State.{Docket, State, StandingParty, activity_in, activity_of, docket_of, identity_in, identity_of, is_docket_of, without_docket}
use Rattle.vf_filestore.specs.Tables.{in_order, number_in, number_of_open, row_of}
use Rattle.vf_filestore.proofs.Broken.{stopped_sound}
use Rattle.vf_filestore.proofs.Concluded.{IsNoPdu, after_entry}
use Rattle.vf_filestore.proofs.DocketSteps.{DocketStep}
use Rattle.vf_filestore.proofs.DocketSteps as steps
use Rattle.vf_filestore.proofs.Filed.{names_flip, same_name}
use Rattle.vf_filestore.proofs.Kept.{IsOtherNumber, left_number, ordered}
use Rattle.vf_filestore.proofs.Lists.{all_left, all_right, all_weaker, flat_map-append}
use Rattle.vf_filestore.proofs.Nested.{nests, placed}
use Rattle.vf_filestore.proofs.OrderedRows.{IsSelected, has_row, is_same_key, is_same_open_number, keys_differ, numbers_below, numbers_differ, all_ordered, pulled, step_added, step_changed, step_gone}
use Rattle.vf_filestore.proofs.Owned.{found_all, placed_request, recovers, within_stage}
use Rattle.vf_filestore.proofs.Parties.{nat_eq_flips}
use Rattle.vf_filestore.proofs.Regimes.{found_test}
use Rattle.vf_filestore.proofs.Soundness.{alike_resumed, association_resumed}
use Rattle.vf_filestore.proofs.Views.{in_association_only, in_selection_only}

-- ---- all dockets of a state, those that parties would leave among them

abbrev all_of : State → List Docket
all_of state = state.dockets ++ flat_map docket_left_by state.parties

abbrev pub rows_of : List Docket → List tables.Docket
rows_of dockets = flat_map row_of (ordered [] dockets)

pub record AreApart (next : ℕ) (dockets : List Docket) : Type 0 where
  pub selected : AllByRecursion IsSelected dockets
  pub keys : IsDistinct is_same_key dockets
  pub numbers : IsDistinct is_same_open_number dockets
  pub below : AllByRecursion (λ (docket : Docket). number_of_open docket < next) dockets

pub apart : (state : State) → IsSound state → AreApart state.concluded (state.dockets ++ flat_map docket_left_by state.parties)
apart state sound =
    let after = stopped_sound state sound in
    let all = state.dockets ++ flat_map docket_left_by state.parties in
    let only : flat_map standing_of_docket all ++ [] ≡ flat_map standing_of_docket all = append-nil (flat_map standing_of_docket all) in
    record {
      selected = all_weaker (IsSoundDocket state.files) IsSelected all (λ docket sound. sound.selected) after.dockets;
      keys = keys_differ state.files all after.dockets (subst (λ (list : List Standing). IsDistinct standings.is_same_open list) only after.numbered.differing);
      numbers = numbers_differ state.files all after.dockets (subst (λ (list : List Standing). IsDistinct is_same_number list) only after.numbered.apart);
      below = numbers_below state.files state.concluded all after.dockets (subst (λ (list : List Standing). AllByRecursion (standings.IsBefore state.concluded) list) only after.numbered.before);
    }

-- one of others differs from those after it, and from all
pub later_other : (first later : List Docket) (docket : Docket) → IsDistinct is_same_open_number (first ++ docket ∷ later) → AllByRecursion (IsOtherNumber docket) later
unfolding IsDistinct
later_other [] later docket distinct =
    all_weaker (λ (other : Docket). is_same_open_number docket other ≡ false) (IsOtherNumber docket) later
    (λ other off. nat_eq_flips (number_of_open other) (number_of_open docket) ∙ off) distinct.0
later_other (one ∷ first) later docket distinct = later_other first later docket distinct.1

pub other_keys : (first later : List Docket) (docket : Docket) → IsDistinct is_same_key (first ++ docket ∷ later) → AllByRecursion (λ (other : Docket). is_same_key docket other ≡ false) (first ++ later)
unfolding IsDistinct
other_keys [] later docket distinct = distinct.0
other_keys (one ∷ first) later docket distinct = (
  (λ i. names_flip docket.identity one.identity i && nat_eq_flips docket.activity one.activity i)
      ∙ (all_right (λ (other : Docket). is_same_key one other ≡ false) first (docket ∷ later) distinct.0).0,
  other_keys first later docket distinct.1,
)

-- ---- steps of lists

list_changed : (next after : ℕ) (first later firsts others : List Docket) (old new : Docket) → AreApart next (first ++ old ∷ later) → AreApart after (firsts ++ new ∷ others)
    → first ++ later ≡ firsts ++ others → number_of_open new ≡ number_of_open old → new.identity ≡ old.identity → new.activity ≡ old.activity
    → DocketStep (rows_of (first ++ old ∷ later)) (rows_of (firsts ++ new ∷ others))
list_changed next after first later firsts others old new was is same number identity activity =
    let one = has_row old (all_right IsSelected first (old ∷ later) was.selected).0 in
    let other = has_row new (all_right IsSelected firsts (new ∷ others) is.selected).0 in
    let before = pulled first later old (later_other first later old was.numbers) in
    let now = pulled firsts others new (later_other firsts others new is.numbers) in
    subst (λ (list : List Docket). DocketStep (flat_map row_of list) (rows_of (firsts ++ new ∷ others))) (sym before)
    (subst (λ (list : List Docket). DocketStep (flat_map row_of (in_order old (ordered [] (first ++ later)))) (flat_map row_of list)) (sym now)
    (subst (λ (list : List Docket). DocketStep (flat_map row_of (in_order old (ordered [] (first ++ later)))) (flat_map row_of (in_order new (ordered [] list)))) same
    (step_changed old new (ordered [] (first ++ later)) one other number identity activity)))

list_gone : (next : ℕ) (first later : List Docket) (docket : Docket) → AreApart next (first ++ docket ∷ later) → DocketStep (rows_of (first ++ docket ∷ later)) (rows_of (first ++ later))
list_gone next first later docket was =
    let one = has_row docket (all_right IsSelected first (docket ∷ later) was.selected).0 in
    subst (λ (list : List Docket). DocketStep (flat_map row_of list) (rows_of (first ++ later))) (sym (pulled first later docket (later_other first later docket was.numbers)))
    (step_gone docket (ordered [] (first ++ later)) one)

list_added : (after : ℕ) (first later : List Docket) (docket : Docket) → AreApart (number_of_open docket) (first ++ later) → AreApart after (first ++ docket ∷ later) → DocketStep (rows_of (first ++ later)) (rows_of (first ++ docket ∷ later))
list_added after first later docket was is =
    let one = has_row docket (all_right IsSelected first (docket ∷ later) is.selected).0 in
    subst (λ (list : List Docket). DocketStep (rows_of (first ++ later)) (flat_map row_of list)) (sym (pulled first later docket (later_other first later docket is.numbers)))
    (step_added docket (ordered [] (first ++ later)) one (all_ordered IsSelected (first ++ later) was.selected)
    (all_ordered (λ (other : Docket). number_of_open other < number_of_open docket) (first ++ later) was.below)
    (all_ordered (λ (other : Docket). is_same_key docket other ≡ false) (first ++ later) (other_keys first later docket is.keys)))

-- ---- the open of one party

-- what a message does to the open of its party
pub data OwnStep (next : ℕ) (one other : StandingParty) : Type 0 where
  goes_on : regime other.history ≡ regime one.history → identity_of other ≡ identity_of one → OwnStep next one other
  opens : regime one.history ≡ None → number_in (regime other.history) ≡ next → OwnStep next one other
  closes : regime other.history ≡ None → OwnStep next one other

-- the docket that a party would leave
abbrev pub docket_for : ℕ → StandingParty → Docket
docket_for activity party = record { identity = identity_of party; activity = activity; history = retained party.history }

pub left_is : (party : StandingParty) (activity : ℕ) → activity_of party ≡ Some activity → docket_left_by party ≡ docket_for activity party ∷ []
left_is party activity is = ap (λ (one : Option ℕ). docket_by one party) is

pub left_none : (party : StandingParty) → activity_of party ≡ None → docket_left_by party ≡ []
left_none party is = ap (λ (one : Option ℕ). docket_by one party) is

-- the dockets of a state are those with what one party leaves between them
abbrev between : (first : List Docket) → List Docket → (later : List Docket) → List Docket
between first own later = first ++ (own ++ later)

module _ (next after : ℕ) (first later : List Docket) (one other : StandingParty) (nested : IsNested one.history) (nested_other : IsNested other.history) where
  -- both leave one
  both_leave : (activity : ℕ) → activity_of one ≡ Some activity → activity_of other ≡ Some activity → regime other.history ≡ regime one.history → identity_of other ≡ identity_of one
      → AreApart next (first ++ (docket_left_by one ++ later)) → AreApart after (first ++ (docket_left_by other ++ later))
      → DocketStep (rows_of (first ++ (docket_left_by one ++ later))) (rows_of (first ++ (docket_left_by other ++ later)))
  both_leave activity a b same identity was is =
      let old = docket_for activity one in
      let new = docket_for activity other in
      let number : number_of_open new ≡ number_of_open old = left_number other activity nested_other ∙ ap number_in same ∙ sym (left_number one activity nested) in
      subst (λ (own : List Docket). DocketStep (rows_of (between first own later)) (rows_of (between first (docket_left_by other) later))) (sym (left_is one activity a))
      (subst (λ (own : List Docket). DocketStep (rows_of (first ++ old ∷ later)) (rows_of (between first own later))) (sym (left_is other activity b))
      (list_changed next after first later first later old new
      (subst (λ (own : List Docket). AreApart next (between first own later)) (left_is one activity a) was)
      (subst (λ (own : List Docket). AreApart after (between first own later)) (left_is other activity b) is)
      refl number identity refl))

  -- neither leaves one
  none_leaves : activity_of one ≡ None → activity_of other ≡ None → DocketStep (rows_of (first ++ (docket_left_by one ++ later))) (rows_of (first ++ (docket_left_by other ++ later)))
  none_leaves a b = steps.same (ap (λ (own : List Docket). rows_of (between first own later)) (left_none other b ∙ sym (left_none one a)))

  -- the first leaves one
  first_leaves : (activity : ℕ) → activity_of one ≡ Some activity → activity_of other ≡ None → AreApart next (first ++ (docket_left_by one ++ later))
      → DocketStep (rows_of (first ++ (docket_left_by one ++ later))) (rows_of (first ++ (docket_left_by other ++ later)))
  first_leaves activity a b was =
      subst (λ (own : List Docket). DocketStep (rows_of (between first own later)) (rows_of (between first (docket_left_by other) later))) (sym (left_is one activity a))
      (subst (λ (own : List Docket). DocketStep (rows_of (first ++ docket_for activity one ∷ later)) (rows_of (between first own later))) (sym (left_none other b))
      (list_gone next first later (docket_for activity one) (subst (λ (own : List Docket). AreApart next (between first own later)) (left_is one activity a) was)))

  -- the second leaves one, which is opened last
  second_leaves : (activity : ℕ) → activity_of one ≡ None → activity_of other ≡ Some activity → number_in (regime other.history) ≡ next
      → AreApart next (first ++ (docket_left_by one ++ later)) → AreApart after (first ++ (docket_left_by other ++ later))
      → DocketStep (rows_of (first ++ (docket_left_by one ++ later))) (rows_of (first ++ (docket_left_by other ++ later)))
  second_leaves activity a b last was is =
      let new = docket_for activity other in
      let number : number_of_open new ≡ next = left_number other activity nested_other ∙ last in
      subst (λ (own : List Docket). DocketStep (rows_of (between first own later)) (rows_of (between first (docket_left_by other) later))) (sym (left_none one a))
      (subst (λ (own : List Docket). DocketStep (rows_of (first ++ later)) (rows_of (between first own later))) (sym (left_is other activity b))
      (list_added after first later new
      (subst (λ n. AreApart n (first ++ later)) (sym number) (subst (λ (own : List Docket). AreApart next (between first own later)) (left_none one a) was))
      (subst (λ (own : List Docket). AreApart after (between first own later)) (left_is other activity b) is)))

  own_step : AreApart next (first ++ (docket_left_by one ++ later)) → AreApart after (first ++ (docket_left_by other ++ later)) → OwnStep next one other
      → DocketStep (rows_of (first ++ (docket_left_by one ++ later))) (rows_of (first ++ (docket_left_by other ++ later)))
  own_step was is (goes_on same identity) = by (activity_of one) refl
    where
      by : (activity : Option ℕ) → activity_of one ≡ activity → DocketStep (rows_of (first ++ (docket_left_by one ++ later))) (rows_of (first ++ (docket_left_by other ++ later)))
      by None a = none_leaves a (ap activity_in same ∙ a)
      by (Some activity) a = both_leave activity a (ap activity_in same ∙ a) same identity was is
  own_step was is (opens none last) = by (activity_of other) refl
    where
      by : (activity : Option ℕ) → activity_of other ≡ activity → DocketStep (rows_of (first ++ (docket_left_by one ++ later))) (rows_of (first ++ (docket_left_by other ++ later)))
      by None b = none_leaves (ap activity_in none) b
      by (Some activity) b = second_leaves activity (ap activity_in none) b last was is
  own_step was is (closes none) = by (activity_of one) refl
    where
      by : (activity : Option ℕ) → activity_of one ≡ activity → DocketStep (rows_of (first ++ (docket_left_by one ++ later))) (rows_of (first ++ (docket_left_by other ++ later)))
      by None a = none_leaves a (ap activity_in none)
      by (Some activity) a = first_leaves activity a (ap activity_in none) was

-- ---- a party among others

pub all_between : (dockets : List Docket) (before after : List StandingParty) (party : StandingParty)
    → dockets ++ flat_map docket_left_by (before ++ party ∷ after) ≡ (dockets ++ flat_map docket_left_by before) ++ (docket_left_by party ++ flat_map docket_left_by after)
all_between dockets before after party =
    ap (λ (all : List Docket). dockets ++ all) (flat_map-append docket_left_by before (party ∷ after))
    ∙ sym (append_assoc dockets (flat_map docket_left_by before) (docket_left_by party ++ flat_map docket_left_by after))

-- the same dockets, and another in the place of one party
party_step : (next later : ℕ) (dockets : List Docket) (before after : List StandingParty) (one other : StandingParty) → IsNested one.history → IsNested other.history
    → AreApart next (dockets ++ flat_map docket_left_by (before ++ one ∷ after)) → AreApart later (dockets ++ flat_map docket_left_by (before ++ other ∷ after)) → OwnStep next one other
    → DocketStep (rows_of (dockets ++ flat_map docket_left_by (before ++ one ∷ after))) (rows_of (dockets ++ flat_map docket_left_by (before ++ other ∷ after)))
party_step next later dockets before after one other nested nested_other was is step =
    let first = dockets ++ flat_map docket_left_by before in
    let last = flat_map docket_left_by after in
    let a = all_between dockets before after one in
    let b = all_between dockets before after other in
    subst (λ (list : List Docket). DocketStep (rows_of list) (rows_of (dockets ++ flat_map docket_left_by (before ++ other ∷ after)))) (sym a)
    (subst (λ (list : List Docket). DocketStep (rows_of (between first (docket_left_by one) last)) (rows_of list)) (sym b)
    (own_step next later first last one other nested nested_other
    (subst (λ (list : List Docket). AreApart next list) a was) (subst (λ (list : List Docket). AreApart later list) b is) step))

-- ---- a docket that is taken up again

pub record Found (identity : List ℕ) (activity : ℕ) (dockets : List Docket) (docket : Docket) : Type 0 where
  pub first : List Docket
  pub later : List Docket
  pub is : dockets ≡ first ++ docket ∷ later
  pub off : AllByRecursion (λ (other : Docket). is_docket_of identity activity other ≡ false) first
  pub here : is_docket_of identity activity docket ≡ true

pub found_among : (identity : List ℕ) (activity : ℕ) (dockets : List Docket) (docket : Docket) → docket_of identity activity dockets ≡ Some docket → Found identity activity dockets docket
found_among identity activity [] docket found = absurd cc
found_among identity activity (one ∷ dockets) docket found = by (is_docket_of identity activity one) refl found (found_among identity activity dockets docket)
  where
    by : (b : Bool) → is_docket_of identity activity one ≡ b → cond b (Some one) (docket_of identity activity dockets) ≡ Some docket
        → (docket_of identity activity dockets ≡ Some docket → Found identity activity dockets docket) → Found identity activity (one ∷ dockets) docket
    by true is found rest =
        let same = some_is one docket found in
        record { first = []; later = dockets; is = ap (λ (d : Docket). d ∷ dockets) same; off = tt; here = ap (is_docket_of identity activity) (sym same) ∙ is }
    by false is found rest =
        let more = rest found in
        record { first = one ∷ more.first; later = more.later; is = ap (λ (ds : List Docket). one ∷ ds) more.is; off = (is, more.off); here = more.here }

pub all_stay : (identity : List ℕ) (activity : ℕ) (dockets : List Docket) → AllByRecursion (λ (other : Docket). is_docket_of identity activity other ≡ false) dockets → without_docket identity activity dockets ≡ dockets
all_stay identity activity [] off = refl
all_stay identity activity (one ∷ dockets) off =
    (λ i. cond (not (off.0 i)) (one ∷ without_docket identity activity dockets) (without_docket identity activity dockets)) ∙ ap (λ (ds : List Docket). one ∷ ds) (all_stay identity activity dockets off.1)

pub without_found : (identity : List ℕ) (activity : ℕ) (first later : List Docket) (docket : Docket) → AllByRecursion (λ (other : Docket). is_docket_of identity activity other ≡ false) first
    → is_docket_of identity activity docket ≡ true → AllByRecursion (λ (other : Docket). is_docket_of identity activity other ≡ false) later
    → without_docket identity activity (first ++ docket ∷ later) ≡ first ++ later
without_found identity activity [] later docket off here off_later =
    (λ i. cond (not (here i)) (docket ∷ without_docket identity activity later) (without_docket identity activity later)) ∙ all_stay identity activity later off_later
without_found identity activity (one ∷ first) later docket off here off_later =
    (λ i. cond (not (off.0 i)) (one ∷ without_docket identity activity (first ++ docket ∷ later)) (without_docket identity activity (first ++ docket ∷ later)))
    ∙ ap (λ (ds : List Docket). one ∷ ds) (without_found identity activity first later docket off.1 here off_later)

-- those that aren't of a docket's key aren't the one that is asked for
pub off_key : (identity : List ℕ) (activity : ℕ) (docket other : Docket) → is_docket_of identity activity docket ≡ true → is_same_key docket other ≡ false → is_docket_of identity activity other ≡ false
off_key identity activity docket other here off =
    let parts = and_parts (bytes_eq docket.identity identity) (nat_eq docket.activity activity) here in
    let name = same_name docket.identity identity parts.0 in
    let number = eqb-true docket.activity activity parts.1 in
    (λ i. bytes_eq other.identity (sym name i) && nat_eq other.activity (sym number i))
    ∙ (λ i. names_flip other.identity docket.identity i && nat_eq_flips other.activity docket.activity i) ∙ off

recover_step : (next later : ℕ) (identity : List ℕ) (activity : ℕ) (dockets : List Docket) (docket : Docket) (before after : List StandingParty) (one other : StandingParty)
    → docket_of identity activity dockets ≡ Some docket → regime one.history ≡ None → IsNested other.history → activity_of other ≡ Some docket.activity → identity_of other ≡ docket.identity
    → number_in (regime other.history) ≡ number_of_open docket
    → AreApart next (dockets ++ flat_map docket_left_by (before ++ one ∷ after)) → AreApart later (without_docket identity activity dockets ++ flat_map docket_left_by (before ++ other ∷ after))
    → DocketStep (rows_of (dockets ++ flat_map docket_left_by (before ++ one ∷ after))) (rows_of (without_docket identity activity dockets ++ flat_map docket_left_by (before ++ other ∷ after)))
recover_step next later identity activity dockets docket before after one other found none nested opened whose number was is =
    let at = found_among identity activity dockets docket found in
    let left = flat_map docket_left_by before in
    let last = flat_map docket_left_by after in
    let new = docket_for docket.activity other in
    let rest = at.later ++ (left ++ last) in
    let own : dockets ++ flat_map docket_left_by (before ++ one ∷ after) ≡ dockets ++ (left ++ last)
    = ap (λ (all : List Docket). dockets ++ all) (flat_map-append docket_left_by before (one ∷ after) ∙ ap (λ (mine : List Docket). left ++ (mine ++ last)) (left_none one (ap activity_in none))) in
    let first_is : dockets ++ flat_map docket_left_by (before ++ one ∷ after) ≡ at.first ++ docket ∷ rest
    = own ∙ ap (λ (all : List Docket). all ++ (left ++ last)) at.is ∙ append_assoc at.first (docket ∷ at.later) (left ++ last) in
    let apart_was : AreApart next (at.first ++ docket ∷ rest) = subst (λ (list : List Docket). AreApart next list) first_is was in
    let off_all = all_weaker (λ (other : Docket). is_same_key docket other ≡ false) (λ (other : Docket). is_docket_of identity activity other ≡ false) (at.first ++ rest)
    (λ other off. off_key identity activity docket other at.here off) (other_keys at.first rest docket apart_was.keys) in
    let off_later = all_left (λ (other : Docket). is_docket_of identity activity other ≡ false) at.later (left ++ last) (all_right (λ (other : Docket). is_docket_of identity activity other ≡ false) at.first rest off_all) in
    let without : without_docket identity activity dockets ≡ at.first ++ at.later
    = ap (without_docket identity activity) at.is ∙ without_found identity activity at.first at.later docket at.off at.here off_later in
    let second_is : without_docket identity activity dockets ++ flat_map docket_left_by (before ++ other ∷ after) ≡ ((at.first ++ at.later) ++ left) ++ new ∷ last
    = all_between (without_docket identity activity dockets) before after other
    ∙ (λ i. (without i ++ left) ++ (left_is other docket.activity opened i ++ last)) in
    subst (λ (list : List Docket). DocketStep (rows_of list) (rows_of (without_docket identity activity dockets ++ flat_map docket_left_by (before ++ other ∷ after)))) (sym first_is)
    (subst (λ (list : List Docket). DocketStep (rows_of (at.first ++ docket ∷ rest)) (rows_of list)) (sym second_is)
    (list_changed next later at.first rest ((at.first ++ at.later) ++ left) last docket new apart_was (subst (λ (list : List Docket). AreApart later list) second_is is)
    (sym (append_assoc (at.first ++ at.later) left last ∙ append_assoc at.first at.later (left ++ last)))
    (left_number other docket.activity nested ∙ number) whose refl))

-- ---- a docket that is dropped

pub none_asked : (identity : List ℕ) (activity : ℕ) (dockets : List Docket) → docket_of identity activity dockets ≡ None → AllByRecursion (λ (other : Docket). is_docket_of identity activity other ≡ false) dockets
none_asked identity activity [] none = tt
none_asked identity activity (one ∷ dockets) none = by (is_docket_of identity activity one) refl none (none_asked identity activity dockets)
  where
    by : (b : Bool) → is_docket_of identity activity one ≡ b → cond b (Some one) (docket_of identity activity dockets) ≡ None
        → (docket_of identity activity dockets ≡ None → AllByRecursion (λ (other : Docket). is_docket_of identity activity other ≡ false) dockets)
        → AllByRecursion (λ (other : Docket). is_docket_of identity activity other ≡ false) (one ∷ dockets)
    by true is none rest = absurd cc
    by false is none rest = (is, rest none)

pub drop_step : (next : ℕ) (identity : List ℕ) (activity : ℕ) (dockets left : List Docket) → AreApart next (dockets ++ left)
    → DocketStep (rows_of (dockets ++ left)) (rows_of (without_docket identity activity dockets ++ left))
drop_step next identity activity dockets left was = by (docket_of identity activity dockets) refl
  where
    by : (found : Option Docket) → docket_of identity activity dockets ≡ found → DocketStep (rows_of (dockets ++ left)) (rows_of (without_docket identity activity dockets ++ left))
    by None none = steps.same (ap (λ (all : List Docket). rows_of (all ++ left)) (all_stay identity activity dockets (none_asked identity activity dockets none)))
    by (Some docket) found =
        let at = found_among identity activity dockets docket found in
        let rest = at.later ++ left in
        let first_is : dockets ++ left ≡ at.first ++ docket ∷ rest = ap (λ (all : List Docket). all ++ left) at.is ∙ append_assoc at.first (docket ∷ at.later) left in
        let apart_was : AreApart next (at.first ++ docket ∷ rest) = subst (λ (list : List Docket). AreApart next list) first_is was in
        let off_all = all_weaker (λ (other : Docket). is_same_key docket other ≡ false) (λ (other : Docket). is_docket_of identity activity other ≡ false) (at.first ++ rest)
        (λ other off. off_key identity activity docket other at.here off) (other_keys at.first rest docket apart_was.keys) in
        let off_later = all_left (λ (other : Docket). is_docket_of identity activity other ≡ false) at.later left (all_right (λ (other : Docket). is_docket_of identity activity other ≡ false) at.first rest off_all) in
        let second_is : without_docket identity activity dockets ++ left ≡ at.first ++ rest
        = ap (λ (all : List Docket). all ++ left) (ap (without_docket identity activity) at.is ∙ without_found identity activity at.first at.later docket at.off at.here off_later)
        ∙ append_assoc at.first at.later left in
        subst (λ (list : List Docket). DocketStep (rows_of list) (rows_of (without_docket identity activity dockets ++ left))) (sym first_is)
        (subst (λ (list : List Docket). DocketStep (rows_of (at.first ++ docket ∷ rest)) (rows_of list)) (sym second_is) (list_gone next at.first rest docket apart_was))

-- ---- requests

-- the party after a message that it was granted
abbrev next_of : State → StandingParty → Setting → Message → Given → (trace : List Message) → StandingParty
next_of state party setting message given trace = record party { trace = trace; history = concluding_entry state party setting message given ∷ taken_up state party message }

-- the dockets are the same, and the party's open may be another
kept_dockets : (state : State) (party : StandingParty) (setting : Setting) (message : Message) (given : Given) (trace : List Message) (before after : List StandingParty) → IsSound state
    → IsSound (after_entry state party setting message given trace before after) → state.parties ≡ before ++ party ∷ after → IsNested party.history
    → IsNested (concluding_entry state party setting message given ∷ taken_up state party message) → dockets_after party message state.dockets ≡ state.dockets
    → OwnStep state.concluded party (next_of state party setting message given trace)
    → DocketStep (rows_of (all_of state)) (rows_of (all_of (after_entry state party setting message given trace before after)))
kept_dockets state party setting message given trace before after sound sound_after among nested nested_after same step =
    let next = next_of state party setting message given trace in
    let was : AreApart state.concluded (state.dockets ++ flat_map docket_left_by (before ++ party ∷ after))
    = subst (λ (parties : List StandingParty). AreApart state.concluded (state.dockets ++ flat_map docket_left_by parties)) among (apart state sound) in
    let is : AreApart (state.concluded + 1) (state.dockets ++ flat_map docket_left_by (before ++ next ∷ after))
    = subst (λ (dockets : List Docket). AreApart (state.concluded + 1) (dockets ++ flat_map docket_left_by (before ++ next ∷ after))) same
    (apart (after_entry state party setting message given trace before after) sound_after) in
    subst (λ (parties : List StandingParty). DocketStep (rows_of (state.dockets ++ flat_map docket_left_by parties)) (rows_of (all_of (after_entry state party setting message given trace before after)))) (sym among)
    (subst (λ (dockets : List Docket). DocketStep (rows_of (state.dockets ++ flat_map docket_left_by (before ++ party ∷ after))) (rows_of (dockets ++ flat_map docket_left_by (before ++ next ∷ after)))) (sym same)
    (party_step state.concluded (state.concluded + 1) state.dockets before after party next nested nested_after was is step))

pub request_dockets : (state : State) (party : StandingParty) (setting : Setting) (request : Pdu) (given : Given) (trace : List Message) (before after : List StandingParty)
    → request_decision state party setting request ≡ Grants given → takes (regime_stage party.history) (messages.Pdu request) ≡ true → IsSound state
    → IsSound (after_entry state party setting (messages.Pdu request) given trace before after) → state.parties ≡ before ++ party ∷ after → IsNested party.history
    → IsNested (concluding_entry state party setting (messages.Pdu request) given ∷ taken_up state party (messages.Pdu request))
    → DocketStep (rows_of (all_of state)) (rows_of (all_of (after_entry state party setting (messages.Pdu request) given trace before after)))
request_dockets state party setting (InitializeRequest units identity password window) given trace before after is taken sound sound_after among nested nested_after =
    let request = InitializeRequest units identity password window in
    let none : regime party.history ≡ None = no_regime (regime party.history) (nests party.history nested).regimes (placed_request party.history request taken) in
    kept_dockets state party setting (messages.Pdu request) given trace before after sound sound_after among nested nested_after refl (closes none)
  where
    no_regime : (one : Option Regime) → (IsSome one → IsSome (selection party.history)) → selection party.history ≡ None → one ≡ None
    no_regime None within none = refl
    no_regime (Some opened) within none = let some : is_some (selection party.history) ≡ true = within refl in let gone = ap is_some none in absurd cc
request_dockets state party setting (OpenRequest mode contents controls activity) given trace before after is taken sound sound_after among nested nested_after =
    let request = OpenRequest mode contents controls activity in
    let there = in_selection_only (messages.Pdu request) (record { reading = refl; shown = refl; writing = refl; written = refl }) refl refl (placed (messages.Pdu request) party.history (placed_request party.history request taken)) in
    kept_dockets state party setting (messages.Pdu request) given trace before after sound sound_after among nested nested_after refl (opens there.no_regime refl)
request_dockets state party setting CloseRequest given trace before after is taken sound sound_after among nested nested_after =
    kept_dockets state party setting (messages.Pdu CloseRequest) given trace before after sound sound_after among nested nested_after refl (closes refl)
request_dockets state party setting (RecoverRequest activity number point) given trace before after is taken sound sound_after among nested nested_after =
    let message = messages.Pdu (RecoverRequest activity number point) in
    let next = next_of state party setting message given trace in
    let facts = recovers state party setting number point (docket_of (identity_of party) activity state.dockets) given is in
    let docket = found_all (IsSoundDocket state.files) (is_docket_of (identity_of party) activity) state.dockets facts.found facts.is sound.dockets in
    let there = in_association_only message (record { reading = refl; shown = refl; writing = refl; written = refl }) refl refl (placed message party.history (within_stage party.history message refl taken)) in
    let own = facts.found.history in
    let whose : facts.found.identity ≡ identity_of party
    = same_name facts.found.identity (identity_of party) (and_parts (bytes_eq facts.found.identity (identity_of party)) (nat_eq facts.found.activity activity)
    (found_test (is_docket_of (identity_of party) activity) state.dockets facts.found facts.is)).0 in
    let took : history_of (docket_of (identity_of party) activity state.dockets) ++ party.history ≡ own ++ party.history = ap (λ (one : Option Docket). history_of one ++ party.history) facts.is in
    let name : identity_of next ≡ facts.found.identity
    = ap (λ (one : History). identity_in (association one)) took ∙ ap identity_in (association_resumed own party.history docket.bare) ∙ sym whose in
    let opened : regime next.history ≡ regime own
    = ap regime took ∙ (alike_resumed own party.history there.no_selection there.no_regime there.no_transfer).opens in
    let was : AreApart state.concluded (state.dockets ++ flat_map docket_left_by (before ++ party ∷ after))
    = subst (λ (parties : List StandingParty). AreApart state.concluded (state.dockets ++ flat_map docket_left_by parties)) among (apart state sound) in
    subst (λ (parties : List StandingParty). DocketStep (rows_of (state.dockets ++ flat_map docket_left_by parties)) (rows_of (all_of (after_entry state party setting message given trace before after)))) (sym among)
    (recover_step state.concluded (state.concluded + 1) (identity_of party) activity state.dockets facts.found before after party next facts.is there.no_regime nested_after
    (ap activity_in opened ∙ docket.opened) name (ap number_in opened) was (apart (after_entry state party setting message given trace before after) sound_after))
request_dockets state party setting request given trace before after is taken sound sound_after among nested nested_after =
    kept_dockets state party setting (messages.Pdu request) given trace before after sound sound_after among nested nested_after refl (goes_on refl refl)

-- a message that isn't a PDU
pub other_dockets : (state : State) (party : StandingParty) (setting : Setting) (message : Message) (given : Given) (trace : List Message) (before after : List StandingParty) → IsNoPdu message → IsSound state
    → IsSound (after_entry state party setting message given trace before after) → state.parties ≡ before ++ party ∷ after → IsNested party.history
    → IsNested (concluding_entry state party setting message given ∷ taken_up state party message)
    → DocketStep (rows_of (all_of state)) (rows_of (all_of (after_entry state party setting message given trace before after)))
other_dockets state party setting (messages.Pdu request) given trace before after never sound sound_after among nested nested_after = absurd never
other_dockets state party setting (messages.Element element) given trace before after is sound sound_after among nested nested_after =
    kept_dockets state party setting (messages.Element element) given trace before after sound sound_after among nested nested_after refl (goes_on refl refl)
other_dockets state party setting messages.Check given trace before after is sound sound_after among nested nested_after =
    kept_dockets state party setting messages.Check given trace before after sound sound_after among nested nested_after refl (goes_on refl refl)
other_dockets state party setting (messages.Acknowledge point) given trace before after is sound sound_after among nested nested_after =
    kept_dockets state party setting (messages.Acknowledge point) given trace before after sound sound_after among nested nested_after refl (goes_on refl refl)
other_dockets state party setting (messages.Restart point) given trace before after is sound sound_after among nested nested_after =
    kept_dockets state party setting (messages.Restart point) given trace before after sound sound_after among nested nested_after refl (goes_on refl refl)
other_dockets state party setting messages.Break given trace before after is sound sound_after among nested nested_after =
    kept_dockets state party setting messages.Break given trace before after sound sound_after among nested nested_after refl (goes_on refl refl)
