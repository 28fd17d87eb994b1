-- Incarnations as runs of the filestore, one after another.
use Rattle.std.proofs.Common.{◌≡◌, ◌∙◌, ℕ, List, [], ◌∷◌, ◌++◌, map, Option, None, Some, refl, ap, sym, subst, arith}
use Rattle.std.specs.List.{IsDistinct}
use Rattle.std.specs.Str.{bytes_eq}
use Rattle.vf_attr.specs.declared.file.File.{File}
use Rattle.vf_filestore.proofs.Kept.{stops_keep}
use Rattle.vf_filestore.proofs.RangedStates.{begins_reached, drops_reached, stops_reached}
use Rattle.vf_filestore.specs.Dockets.{dropped, stopped}
use Rattle.vf_filestore.specs.Ranges.{IsReached}
use Rattle.vf_filestore.specs.Runs.{Event, Stops, after_event}
use Rattle.vf_filestore.specs.Runs as filestore
use Rattle.vf_filestore.specs.State.{State}
use Rattle.vf_serial.proofs.Serial.{runs_serial}
use Rattle.vf_serial.specs.Laws.{AreNew, EachUse, IsUsedSerially}
use Rattle.vf_serial.specs.Moves.{Happening, Happens, state_after}
use Rattle.vf_responder.specs.Answers.{Answer, at_end}
use Rattle.vf_responder.specs.AnswersTo.{to_event}
use Rattle.vf_responder.specs.Run.{trail}
use Rattle.vf_responder.specs.Serving.{Serving, unheard}
use Rattle.vf_incarnations.proofs.Answered.{event-to, events_are_answered, to-join, to-reached, to-take}
use Rattle.vf_incarnations.specs.Incarnations.{Incarnation, Stop, Episode, Incarnates, Drops, answers, cut_short, left_by, whole}
use Rattle.vf_incarnations.specs.Laws.{AreTo, BeginsSo, IncarnationsAreOneRun, IncarnationsAreRuns, IncarnationsAreSerial, MayBegin, NewStoresBegin}
use Rattle.vf_incarnations.specs.Messages.{events_among, happenings, to_cut_short, to_events, to_incarnation}

-- ---- the events of answers, as a run

runs-among : (serving : Serving) (all : List Answer) (events : List (Option Event)) → AreTo serving all events
    → (filestore.run (events_among events) serving.filestore).state ≡ (at_end serving all).filestore
runs-among serving [] [] are = refl
runs-among serving [] (event ∷ events) are = absurd are
runs-among serving (answer ∷ all) [] are = absurd are
runs-among serving (answer ∷ all) (None ∷ events) are =
    ap (λ (state : State). (filestore.run (events_among events) state).state) (sym are.0) ∙ runs-among answer.state all events are.1
runs-among serving (answer ∷ all) (Some event ∷ events) are =
    ap (λ (state : State). (filestore.run (events_among events) state).state) (sym are.0.leads) ∙ runs-among answer.state all events are.1

-- each is new where it comes, and so are those that come after them
new-among : (serving : Serving) (all : List Answer) (events : List (Option Event)) (later : List Happening) → AreTo serving all events
    → AreNew later (at_end serving all).filestore → AreNew (map Happens (events_among events) ++ later) serving.filestore
new-among serving [] [] later are new = new
new-among serving [] (event ∷ events) later are new = absurd are
new-among serving (answer ∷ all) [] later are new = absurd are
new-among serving (answer ∷ all) (None ∷ events) later are new =
    subst (AreNew (map Happens (events_among events) ++ later)) are.0 (new-among answer.state all events later are.1 new)
new-among serving (answer ∷ all) (Some event ∷ events) later are new =
    (are.0.new, subst (AreNew (map Happens (events_among events) ++ later)) are.0.leads (new-among answer.state all events later are.1 new))

run-then : (events later : List Event) (state : State) → (filestore.run (events ++ later) state).state ≡ (filestore.run later (filestore.run events state).state).state
run-then [] later state = refl
run-then (event ∷ events) later state = run-then events later (after_event state event).state

happens-then : (events : List Event) (later : List Happening) (state : State) → state_after (map Happens events ++ later) state ≡ state_after later (filestore.run events state).state
happens-then [] later state = refl
happens-then (event ∷ events) later state = happens-then events later (after_event state event).state

-- ---- one incarnation

cut-to : (stop : Option Stop) (serving : Serving) → IsReached serving.filestore → AreTo serving (cut_short stop serving) (to_cut_short stop serving)
cut-to None serving reached = tt
cut-to (Some stop) serving reached = to-take stop.answers serving (trail stop.event serving) (to_event stop.event serving) (event-to stop.event serving reached)

incarnation-to : (incarnation : Incarnation) (state : State) → IsReached state → AreTo (unheard state) (answers incarnation state) (to_incarnation incarnation state)
incarnation-to incarnation state reached =
    let first = whole incarnation state in
    let now = at_end (unheard state) first in
    let one = events_are_answered incarnation.events (unheard state) reached in
    to-join (unheard state) first (cut_short incarnation.stop now) (to_events incarnation.events (unheard state)) (to_cut_short incarnation.stop now) one
    (cut-to incarnation.stop now (to-reached (unheard state) first (to_events incarnation.events (unheard state)) one reached))

pub incarnations_are_runs : IncarnationsAreRuns
incarnations_are_runs incarnation state may =
    let events = to_incarnation incarnation state in
    let are = incarnation-to incarnation state may.reached in
    let now = at_end (unheard state) (answers incarnation state) in
    record {
      answered = are;
      leads = sym (run-then (events_among events) (Stops ∷ []) state ∙ ap stopped (runs-among (unheard state) (answers incarnation state) events are));
      keeps = stops_keep now.filestore;
      begins = record { alone = refl; reached = stops_reached now.filestore (to-reached (unheard state) (answers incarnation state) events are may.reached) };
    }

pub begins_so : BeginsSo
begins_so state may = record { begins = record { kept = refl; alone = may.alone; sound = may.reached.sound }; reached = may.reached }

none-distinct : IsDistinct bytes_eq []
unfolding IsDistinct
none-distinct = tt

pub new_stores_begin : NewStoresBegin
new_stores_begin users valid ranged = record {
  alone = refl;
  reached = begins_reached users [] none-distinct (record { each = tt; counted = omega arith; roomy = omega arith }) valid ranged tt tt;
}

-- ---- one after another

pub dropped-begins : (identity : List ℕ) (activity : ℕ) (state : State) → MayBegin state → MayBegin (dropped identity activity state)
dropped-begins identity activity state may = record { alone = may.alone; reached = drops_reached state identity activity may.reached }

-- the last one is the stop
with-stop : (incarnation : Incarnation) (later : List Episode) (state : State)
    → map Happens (events_among (to_incarnation incarnation state) ++ Stops ∷ []) ++ happenings later (left_by incarnation state)
    ≡ map Happens (events_among (to_incarnation incarnation state)) ++ Happens Stops ∷ happenings later (left_by incarnation state)
with-stop incarnation later state = by (events_among (to_incarnation incarnation state))
  where
    by : (events : List Event) → map Happens (events ++ Stops ∷ []) ++ happenings later (left_by incarnation state) ≡ map Happens events ++ Happens Stops ∷ happenings later (left_by incarnation state)
    by [] = refl
    by (event ∷ events) = ap (λ (others : List Happening). Happens event ∷ others) (by events)

pub incarnations_are_one_run : IncarnationsAreOneRun
incarnations_are_one_run [] state may = record { each = tt; new = tt; leads = refl; begins = may }
incarnations_are_one_run (Drops identity activity ∷ later) state may =
    let rest = incarnations_are_one_run later (dropped identity activity state) (dropped-begins identity activity state may) in
    record { each = rest.each; new = rest.new; leads = rest.leads; begins = rest.begins }
incarnations_are_one_run (Incarnates incarnation ∷ later) state may =
    let one = incarnations_are_runs incarnation state may in
    let next = left_by incarnation state in
    let rest = incarnations_are_one_run later next one.begins in
    let events = to_incarnation incarnation state in
    record {
      each = (one, rest.each);
      new =
          subst (λ (all : List Happening). AreNew all state) (sym (with-stop incarnation later state))
          (new-among (unheard state) (answers incarnation state) events (Happens Stops ∷ happenings later next) one.answered (tt, rest.new));
      leads =
          rest.leads
          ∙ ap (λ (now : State). state_after (happenings later next) now) one.leads
          ∙ sym (happens-then (events_among events ++ Stops ∷ []) (happenings later next) state);
      begins = rest.begins;
    }

pub incarnations_are_serial : IncarnationsAreSerial
incarnations_are_serial episodes state may =
    let is = incarnations_are_one_run episodes state may in
    subst (λ (files : List File). EachUse (IsUsedSerially files) (happenings episodes state) state) (sym (ap (λ (now : State). now.files) is.leads))
    (runs_serial (happenings episodes state) state is.new may.reached.sound may.reached.kept.histories)
