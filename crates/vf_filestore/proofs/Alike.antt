-- Two histories in which the same regimes stand, and the same of a transfer under way, are alike, and stay so with the
-- same entries.
use Rattle.std.proofs.Common.{◌≡◌, List, ◌∷◌, is_some, Option, None, Some, refl, ap, sym, subst, ◌∙◌}
use Rattle.std.specs.Prelude.{IfSome}
use Rattle.vf_elements.specs.declared.message.Message.{Message}
use Rattle.vf_elements.specs.declared.message.Said.{Said}
use Rattle.vf_filestore.specs.History.{Entry, Given, History, Regime, Selection, opening, regime, selecting, selection}
use Rattle.vf_filestore.specs.Sound.{someone, stage_within}
use Rattle.vf_filestore.specs.Stage.{moving_stage, stage_by}
use Rattle.vf_filestore.specs.Transfers.{Movement, Reads, Writes, Transfer, data_end, ending, happened, showing, transferring, under_way, was_shown, with_heard, with_said}
use Rattle.vf_filestore.proofs.Views.{View, initializes, selects, creates, changes, deselects, deletes, opens, closes, reads, writes, ends, cancels, others, view}

-- what ends a transfer's values
abbrev pub AreEndedAlike : Movement → (history other : History) → Type 0
AreEndedAlike (Reads fadu context) history other = was_shown other ≡ was_shown history
AreEndedAlike (Writes operation fadu) history other = data_end other ≡ data_end history

pub record AreMovingAlike (history other : History) (transfer : Transfer) : Type 0 where
  pub happens : happened other ≡ happened history
  pub ended : AreEndedAlike transfer.movement history other

pub record AreAlike (history other : History) : Type 0 where
  pub selects : selection other ≡ selection history
  pub opens : regime other ≡ regime history
  pub moves : under_way other ≡ under_way history
  pub moving : IfSome (under_way history) (AreMovingAlike history other)

pub alike_itself : (history : History) → AreAlike history history
alike_itself history = record { selects = refl; opens = refl; moves = refl; moving = same (under_way history) }
  where
    ended : (movement : Movement) → AreEndedAlike movement history history
    ended (Reads fadu context) = refl
    ended (Writes operation fadu) = refl

    same : (one : Option Transfer) → IfSome one (AreMovingAlike history history)
    same None = tt
    same (Some transfer) = record { happens = refl; ended = ended transfer.movement }

-- where nothing stands in either
pub alike_none : (history other : History) → selection history ≡ None → regime history ≡ None → under_way history ≡ None
    → selection other ≡ None → regime other ≡ None → under_way other ≡ None → AreAlike history other
alike_none history other s r t os or ot =
    record { selects = os ∙ sym s; opens = or ∙ sym r; moves = ot ∙ sym t; moving = subst (λ (one : Option Transfer). IfSome one (AreMovingAlike history other)) (sym t) tt }

-- ---- an entry more

ended_after : (entry : Entry) (history other : History) (movement : Movement) → AreEndedAlike movement history other → AreEndedAlike movement (entry ∷ history) (entry ∷ other)
ended_after entry history other (Reads fadu context) same = ap (showing entry.message entry.said) same
ended_after entry history other (Writes operation fadu) same = ap (ending entry.message) same

moving_after : (entry : Entry) (history other : History) (transfer : Transfer) → AreMovingAlike history other transfer → AreMovingAlike (entry ∷ history) (entry ∷ other) transfer
moving_after entry history other transfer same = record {
  happens = ap (λ earlier. with_said entry.said (with_heard entry.message entry.given earlier)) same.happens;
  ended = ended_after entry history other transfer.movement same.ended;
}

all_moving : (entry : Entry) (history other : History) (one : Option Transfer) → IfSome one (AreMovingAlike history other) → IfSome one (AreMovingAlike (entry ∷ history) (entry ∷ other))
all_moving entry history other None same = tt
all_moving entry history other (Some transfer) same = moving_after entry history other transfer same

moving_by : (entry : Entry) (history other : History) → AreAlike history other → View entry.message
    → IfSome (transferring entry.message entry.given (under_way history)) (AreMovingAlike (entry ∷ history) (entry ∷ other))
moving_by entry history other alike seen = by entry.message entry.said entry.given refl seen
  where
    by : (message : Message) (said : List Said) (given : Given) → entry.message ≡ message → View message
        → IfSome (transferring message given (under_way history)) (AreMovingAlike (entry ∷ history) (entry ∷ other))
    by message said given is (initializes units identity password window) = all_moving entry history other (under_way history) alike.moving
    by message said given is (selects name requested controls password) = all_moving entry history other (under_way history) alike.moving
    by message said given is (creates over name contents permitted terms requested controls password) = all_moving entry history other (under_way history) alike.moving
    by message said given is (changes name permitted terms number) = all_moving entry history other (under_way history) alike.moving
    by message said given is deselects = all_moving entry history other (under_way history) alike.moving
    by message said given is deletes = all_moving entry history other (under_way history) alike.moving
    by message said given is (opens mode contents controls activity) = all_moving entry history other (under_way history) alike.moving
    by message said given is closes = all_moving entry history other (under_way history) alike.moving
    by message said given is (reads fadu context) = record {
      happens = (λ i. with_said entry.said (with_heard (is i) entry.given (happened other))) ∙ sym (λ i. with_said entry.said (with_heard (is i) entry.given (happened history)));
      ended = (λ i. showing (is i) entry.said (was_shown other)) ∙ sym (λ i. showing (is i) entry.said (was_shown history));
    }
    by message said given is (writes operation fadu) = record {
      happens = (λ i. with_said entry.said (with_heard (is i) entry.given (happened other))) ∙ sym (λ i. with_said entry.said (with_heard (is i) entry.given (happened history)));
      ended = (λ i. ending (is i) (data_end other)) ∙ sym (λ i. ending (is i) (data_end history));
    }
    by message said given is ends = tt
    by message said given is (cancels diagnostic) = tt
    by message said given is (others one other_facts) =
        subst (λ (now : Option Transfer). IfSome now (AreMovingAlike (entry ∷ history) (entry ∷ other))) (sym (other_facts.moves given (under_way history)))
        (all_moving entry history other (under_way history) alike.moving)

pub alike_after : (entry : Entry) (history other : History) → AreAlike history other → AreAlike (entry ∷ history) (entry ∷ other)
alike_after entry history other alike = record {
  selects = ap (selecting entry.message) alike.selects;
  opens = ap (opening entry.ordinal entry.message) alike.opens;
  moves = ap (transferring entry.message entry.given) alike.moves;
  moving = moving_by entry history other alike (view entry.message);
}

-- ---- the stage and the place of a message

ended_stage : (history other : History) (movement : Movement) → AreEndedAlike movement history other
    → moving_stage movement (is_some (data_end other)) (was_shown other) ≡ moving_stage movement (is_some (data_end history)) (was_shown history)
ended_stage history other (Reads fadu context) same = ap (λ shown. moving_stage (Reads fadu context) (is_some (data_end history)) shown) same
ended_stage history other (Writes operation fadu) same = ap (λ ended. moving_stage (Writes operation fadu) (is_some ended) (was_shown history)) same

stage_in : (history other : History) (selection : Option Selection) (regime : Option Regime) (transfer : Option Transfer) → IfSome transfer (AreMovingAlike history other)
    → stage_by (Some someone) selection regime transfer (is_some (data_end other)) (was_shown other)
    ≡ stage_by (Some someone) selection regime transfer (is_some (data_end history)) (was_shown history)
stage_in history other selection regime (Some transfer) same = ended_stage history other transfer.movement same.ended
stage_in history other selection (Some regime) None same = refl
stage_in history other (Some selection) None None same = refl
stage_in history other None None None same = refl

pub alike_stage : (history other : History) → AreAlike history other → stage_within other ≡ stage_within history
alike_stage history other alike =
    (λ i. stage_by (Some someone) (alike.selects i) (alike.opens i) (alike.moves i) (is_some (data_end other)) (was_shown other))
    ∙ stage_in history other (selection history) (regime history) (under_way history) alike.moving
