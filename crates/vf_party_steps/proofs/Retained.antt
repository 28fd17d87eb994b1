-- The docket that a party leaves of a recoverable open has the fields that are read off the whole history, where the last
-- message secures a transfer or none is under way.
use Rattle.std.proofs.Common.{◌≡◌, ℕ, ◌+◌, Bool, true, false, cond, List, [], ◌∷◌, flat_map, take, is_some, Option, None, Some, refl, ap, sym, ◌∙◌, append-nil}
use Rattle.std.specs.Prelude.{IfSome, IsSome}
use Rattle.vf_base.specs.declared.element.Element.{Element}
use Rattle.vf_elements.specs.Stages.{takes}
use Rattle.vf_elements.specs.declared.message.Message.{Message}
use Rattle.vf_elements.specs.declared.message.Message.TheVariants as messages
use Rattle.vf_elements.specs.declared.message.Said.{Said}
use Rattle.vf_elements.specs.declared.stage.Stage.{Stage}
use Rattle.vf_elements.specs.declared.stage.Stage.TheVariants as stages
use Rattle.vf_filestore.specs.Dockets.{docket_left_by, retained, secured, secures, since_selection}
use Rattle.vf_filestore.specs.Dockets.{selects as is_selection}
use Rattle.vf_filestore.specs.History.{Entry, Given, History, Regime, Selection, concluding, counting, done, last, opening, placing, position, regime, selection}
use Rattle.vf_filestore.specs.Sound.{IsNested, IsPlaced, stage_within}
use Rattle.vf_filestore.specs.Stage.{regime_stage}
use Rattle.vf_filestore.specs.State.{Docket, StandingParty, activity_of, identity_of}
use Rattle.vf_filestore.specs.Tables.{regime_by, row_in, row_of, staged_by}
use Rattle.vf_filestore.specs.Transfers.{Movement, Reads, Writes, Transfer, happened, under_way}
use Rattle.vf_filestore.proofs.Alike.{AreMovingAlike}
use Rattle.vf_filestore.proofs.DocketsMoved.{left_is}
use Rattle.vf_filestore.proofs.Nested.{none_some}
use Rattle.vf_filestore.proofs.Owned.{placed_request, within_stage}
use Rattle.vf_filestore.proofs.Retained.{alike_since, selected_at}
use Rattle.vf_filestore.proofs.Soundness.{opened_some}
use Rattle.vf_filestore.proofs.Views as views
use Rattle.vf_filestore.proofs.Views.{View, view}
use Rattle.vf_tables.specs.declared.docket.Docket as tables
use Rattle.vf_transfer.specs.Transfer as transfer

-- ---- an entry more

-- every stage takes the end of its connection
break_taken : (stage : Stage) → takes stage messages.Break ≡ true
break_taken stages.Idle = refl
break_taken stages.Associated = refl
break_taken stages.Selected = refl
break_taken stages.Opened = refl
break_taken stages.Reading = refl
break_taken stages.Shown = refl
break_taken stages.Writing = refl
break_taken stages.Written = refl
break_taken stages.Grouping = refl

pub placed_message : (history : History) (message : Message) → takes (regime_stage history) message ≡ true → IsPlaced history message
placed_message history (messages.Pdu request) taken = placed_request history request taken
placed_message history (messages.Element element) taken = within_stage history (messages.Element element) refl taken
placed_message history messages.Check taken = within_stage history messages.Check refl taken
placed_message history (messages.Acknowledge point) taken = within_stage history (messages.Acknowledge point) refl taken
placed_message history (messages.Restart point) taken = within_stage history (messages.Restart point) refl taken
placed_message history messages.Break taken = break_taken (stage_within history)

-- ---- from the last selection on, in which an open stands

pub record StaysSince (history : History) : Type 0 where
  pub placed : position (since_selection history) ≡ position history
  pub counted : done (since_selection history) ≡ done history
  pub ended : last (since_selection history) ≡ last history

-- what an entry makes of both
record StaysWith (message : Message) (said : List Said) (given : Given) (earlier : History) : Type 0 where
  placed : placing message given (position (since_selection earlier)) ≡ placing message given (position earlier)
  counted : counting message (done (since_selection earlier)) ≡ counting message (done earlier)
  ended : concluding message said (last (since_selection earlier)) ≡ concluding message said (last earlier)

module _ (ordinal : ℕ) (said : List Said) (given : Given) (earlier : History) where
  with_entry : (message : Message) → StaysSince earlier → StaysWith message said given earlier
  with_entry message rest = record { placed = ap (placing message given) rest.placed; counted = ap (counting message) rest.counted; ended = ap (concluding message said) rest.ended }

  stays_with : (message : Message) → View message → is_selection message ≡ false → (IsSome (regime earlier) → StaysSince earlier) → IsSome (opening ordinal message (regime earlier))
      → StaysWith message said given earlier
  stays_with message (views.initializes units identity password window) is rest some = with_entry message (rest some)
  stays_with message (views.selects name requested controls password) is rest some = absurd cc
  stays_with message (views.creates over name contents permitted terms requested controls password) is rest some = absurd cc
  stays_with message (views.changes name permitted terms number) is rest some = with_entry message (rest some)
  stays_with message views.deselects is rest some = with_entry message (rest some)
  stays_with message views.deletes is rest some = with_entry message (rest some)
  stays_with message (views.opens mode contents controls activity) is rest some = record { placed = refl; counted = refl; ended = refl }
  stays_with message views.closes is rest some = absurd cc
  stays_with message (views.reads fadu context) is rest some = with_entry message (rest some)
  stays_with message (views.writes operation fadu) is rest some = with_entry message (rest some)
  stays_with message views.ends is rest some = with_entry message (rest some)
  stays_with message (views.cancels diagnostic) is rest some = with_entry message (rest some)
  stays_with message (views.others one facts) is rest some = with_entry message (rest (sym (ap is_some (facts.opens ordinal (regime earlier))) ∙ some))

  -- a selection is no part of an open
  unopened : (message : Message) → View message → is_selection message ≡ true → regime earlier ≡ None → IsSome (opening ordinal message (regime earlier)) → ⊥
  unopened message (views.selects name requested controls password) is none some = none_some ⊥ (regime earlier) none some
  unopened message (views.creates over name contents permitted terms requested controls password) is none some = none_some ⊥ (regime earlier) none some
  unopened message (views.initializes units identity password window) is none some = cc
  unopened message (views.changes name permitted terms number) is none some = cc
  unopened message views.deselects is none some = cc
  unopened message views.deletes is none some = cc
  unopened message (views.opens mode contents controls activity) is none some = cc
  unopened message views.closes is none some = cc
  unopened message (views.reads fadu context) is none some = cc
  unopened message (views.writes operation fadu) is none some = cc
  unopened message views.ends is none some = cc
  unopened message (views.cancels diagnostic) is none some = cc
  unopened message (views.others one facts) is none some = let never = facts.selects_nothing in cc

pub stays_since : (history : History) → IsNested history → IsSome (regime history) → StaysSince history
stays_since [] nested some = absurd cc
stays_since (entry ∷ earlier) nested some = by (stays_since earlier nested.1) (is_selection entry.message) refl
  where
    by : (IsSome (regime earlier) → StaysSince earlier) → (b : Bool) → is_selection entry.message ≡ b → StaysSince (entry ∷ earlier)
    by rest true is =
        absurd (unopened entry.ordinal entry.said entry.given earlier entry.message (view entry.message) is (selected_at earlier entry.message (view entry.message) is nested.0).no_regime some)
    by rest false is =
        let with = stays_with entry.ordinal entry.said entry.given earlier entry.message (view entry.message) is rest some in
        record {
          placed = (λ i. position (cond (is i) (entry ∷ []) (entry ∷ since_selection earlier))) ∙ with.placed;
          counted = (λ i. done (cond (is i) (entry ∷ []) (entry ∷ since_selection earlier))) ∙ with.counted;
          ended = (λ i. last (cond (is i) (entry ∷ []) (entry ∷ since_selection earlier))) ∙ with.ended;
        }

-- ---- rows

-- a docket with this history
abbrev pub docket_at : (identity : List ℕ) (activity : ℕ) → History → Docket
docket_at identity activity history = record { identity = identity; activity = activity; history = history }

-- the row of such a docket with these fields in the place of its own
abbrev row_with : Docket → Option Regime → Option Transfer → Selection → (place count outcome check : ℕ) → List (List Element) → tables.Docket
row_with docket opened moving one place count outcome check pieces = record {
  regime = record (regime_by docket opened one moving) { position = place; number = count + 1; last = outcome; point = check };
  staged = pieces;
}

module _ (identity : List ℕ) (activity : ℕ) (history other : History) (placed : position other ≡ position history) (counted : done other ≡ done history) (ended : last other ≡ last history) where
  abbrev whole : Docket
  whole = docket_at identity activity history

  pieces_same : (movement : Movement) → happened other ≡ happened history → staged_by other movement ≡ staged_by history movement
  pieces_same (Reads fadu context) is = refl
  pieces_same (Writes operation fadu) is = λ i. take (transfer.point 0 (is i)) (transfer.standing 0 (is i)).closed

  row_same : (opened : Option Regime) (moving : Option Transfer) (one : Option Selection) → IfSome moving (AreMovingAlike history other)
      → row_in (docket_at identity activity other) opened moving one ≡ row_in whole opened moving one
  row_same opened moving None alike = refl
  row_same opened None (Some one) alike = λ i. row_with whole opened None one (placed i) (counted i) (ended i) 0 [] ∷ []
  row_same opened (Some moved) (Some one) alike =
      λ i. row_with whole opened (Some moved) one (placed i) (counted i) (ended i) (transfer.point 0 (alike.happens i)) (pieces_same moved.movement alike.happens i) ∷ []

pub row_since : (identity : List ℕ) (activity : ℕ) (history : History) → IsNested history → IsSome (regime history)
    → row_of (docket_at identity activity (since_selection history)) ≡ row_of (docket_at identity activity history)
row_since identity activity history nested some =
    let alike = alike_since history nested in
    let stays = stays_since history nested some in
    (λ i. row_in (docket_at identity activity (since_selection history)) (alike.opens i) (alike.moves i) (alike.selects i))
    ∙ row_same identity activity history (since_selection history) stays.placed stays.counted stays.ended (regime history) (under_way history) (selection history) alike.moving

-- ---- what a party leaves

-- the rows of what it leaves
abbrev pub rows_left : StandingParty → List tables.Docket
rows_left party = flat_map row_of (docket_left_by party)

pub left_row : (party : StandingParty) (activity : ℕ) → IsNested party.history → activity_of party ≡ Some activity → retained party.history ≡ since_selection party.history
    → rows_left party ≡ row_of (docket_at (identity_of party) activity party.history)
left_row party activity nested opened all =
    ap (flat_map row_of) (left_is party activity opened)
    ∙ append-nil (row_of (docket_at (identity_of party) activity (retained party.history)))
    ∙ ap (λ (history : History). row_of (docket_at (identity_of party) activity history)) all
    ∙ row_since (identity_of party) activity party.history nested (opened_some (regime party.history) activity opened)

-- where no transfer is under way
pub retained_idle : (history : History) → under_way history ≡ None → retained history ≡ since_selection history
retained_idle history none = λ i. since_selection (cond (is_some (none i)) (secured history) history)

-- and where the last message secures it
pub retained_secured : (entry : Entry) (earlier : History) → secures entry.message ≡ true → retained (entry ∷ earlier) ≡ since_selection (entry ∷ earlier)
retained_secured entry earlier is =
    (λ i. since_selection (cond (is_some (under_way (entry ∷ earlier))) (cond (is i) (entry ∷ earlier) (secured earlier)) (entry ∷ earlier)))
    ∙ by (is_some (under_way (entry ∷ earlier)))
  where
    by : (b : Bool) → since_selection (cond b (entry ∷ earlier) (entry ∷ earlier)) ≡ since_selection (entry ∷ earlier)
    by true = refl
    by false = refl
