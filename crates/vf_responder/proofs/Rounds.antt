-- What a disk keeps while events are answered one after another.
use Rattle.std.proofs.Common.{◌≡◌, ◌∙◌, ℕ, ◌+◌, ◌<◌, List, [], ◌∷◌, ◌++◌, Option, Some, Result, Ok, Err, IsErr, take, get_or, length, refl, ap, sym, subst, append-nil}
use Rattle.std.specs.List.{AllByRecursion}
use Rattle.std.proofs.lemmas.List.{take_more}
use Rattle.vf_base.specs.Links.{Traffic}
use Rattle.vf_base.specs.declared.events.ScriptEvent.{ScriptEvent}
use Rattle.vf_base.specs.declared.events.ScriptEvent.TheVariants.{Ended}
use Rattle.vf_disk.proofs.Runs.{joined, weaker}
use Rattle.vf_disk.specs.Disk.{LeavesOnly}
use Rattle.vf_store.proofs.Runs.{idle}
use Rattle.vf_store.specs.Represented.{Represents as ImageRepresents}
use Rattle.vf_store.specs.StoreState.{IsRepresented}
use Rattle.vf_tables.specs.declared.tables.Tables.{Tables}
use Rattle.vf_responder.proofs.Alongside.{along_first, along_later}
use Rattle.vf_responder.proofs.Avoided.{at_end-append}
use Rattle.vf_responder.proofs.Lives.{end-append, run-append}
use Rattle.vf_responder.specs.Along.{RepresentsAlong}
use Rattle.vf_responder.specs.Answers.{Answer, at_end, spoken_in}
use Rattle.vf_responder.specs.Represents.{Answers, Kept, Represents}
use Rattle.vf_responder.specs.Run.{run, trail}
use Rattle.vf_responder.specs.Sends.{AreSent, EndsRound, GoesRound, IsFresh, SendsAll, StopsRound, breaks}
use Rattle.vf_responder.specs.Serving.{Serving}
use Rattle.vf_responder.specs.declared.event.Reply.{Reply}

pub run_one : (event : ScriptEvent) (serving : Serving) → run (event ∷ []) serving ≡ trail event serving
run_one event serving = append-nil (trail event serving)

breaks-more : (lost : List ℕ) (link : ℕ) → breaks (lost ++ link ∷ []) ≡ breaks lost ++ Ended link ∷ []
breaks-more [] link = refl
breaks-more (first ∷ lost) link = ap (λ (events : List ScriptEvent). Ended first ∷ events) (breaks-more lost link)

pub breaks_take : (lost : List ℕ) (at : ℕ) (default : ℕ) → at < length lost → breaks (take (at + 1) lost) ≡ breaks (take at lost) ++ Ended (get_or lost at default) ∷ []
breaks_take lost at default within = ap breaks (take_more lost at default within) ∙ breaks-more (take at lost) (get_or lost at default)

-- a state after one event more
pub end_one : (events : List ScriptEvent) (event : ScriptEvent) (serving : Serving)
    → at_end serving (run (events ++ event ∷ []) serving) ≡ at_end (at_end serving (run events serving)) (trail event (at_end serving (run events serving)))
end_one events event serving =
    end-append events (event ∷ []) serving ∙ ap (at_end (at_end serving (run events serving))) (run_one event (at_end serving (run events serving)))

module _ {D : Type 0} (shown : D → Option (List ℕ)) (may_leave : D → List ℕ → Type 0) (moment : D → ℕ) (left_since : D → ℕ → List ℕ → Type 0)
    (only_now : (disk : D) (image : List ℕ) → left_since disk (moment disk) image → may_leave disk image) where
  -- before the first event
  pub leaves_none : (kept : Kept D) (serving : Serving) → Represents kept serving → IsRepresented shown may_leave kept.store
      → LeavesOnly moment left_since kept.store.disk kept.store.disk (RepresentsAlong serving [])
  leaves_none kept serving represents stands =
      weaker moment left_since kept.store.disk kept.store.disk (λ image. ImageRepresents image kept.store.tables) (RepresentsAlong serving [])
      (idle shown may_leave moment left_since only_now kept.store.disk kept.store.journal kept.store.tables stands)
      (λ image is. (0, subst (λ (tables : Tables). ImageRepresents image tables) (sym represents.tables) is))

  -- events after others
  pub leaves_joined : (old mid new : D) (serving : Serving) (first later : List ScriptEvent) → LeavesOnly moment left_since old mid (RepresentsAlong serving (run first serving))
      → LeavesOnly moment left_since mid new (RepresentsAlong (at_end serving (run first serving)) (run later (at_end serving (run first serving))))
      → LeavesOnly moment left_since old new (RepresentsAlong serving (run (first ++ later) serving))
  leaves_joined old mid new serving first later one other =
      subst (λ (answers : List Answer). LeavesOnly moment left_since old new (RepresentsAlong serving answers)) (sym (run-append first later serving))
      (joined moment left_since old mid new _ _ (RepresentsAlong serving (run first serving ++ run later (at_end serving (run first serving)))) one other
      (along_first serving (run first serving) (run later (at_end serving (run first serving)))) (along_later serving (run first serving) (run later (at_end serving (run first serving)))))

  pub leaves_one : (old new : D) (serving : Serving) (event : ScriptEvent) → LeavesOnly moment left_since old new (RepresentsAlong serving (trail event serving))
      → LeavesOnly moment left_since old new (RepresentsAlong serving (run (event ∷ []) serving))
  leaves_one old new serving event leaves =
      subst (λ (answers : List Answer). LeavesOnly moment left_since old new (RepresentsAlong serving answers)) (sym (run_one event serving)) leaves

  -- a round whose event was answered, whose replies were sent, and whose lost links have ended
  pub goes_round : (event : ScriptEvent) (serving : Serving) (old mid new : Kept D) (before : Traffic) (told after : Option Traffic) (replies : List Reply) (lost : List ℕ)
      → Answers (trail event serving) serving [] mid replies → told ≡ Some before → AllByRecursion (IsFresh before) (spoken_in (trail event serving)) → SendsAll told after replies lost
      → ((now : Serving) → Represents mid now → Represents new (at_end now (run (breaks lost) now)))
      → (IsRepresented shown may_leave old.store → IsRepresented shown may_leave mid.store)
      → ((now : Serving) → Represents mid now → IsRepresented shown may_leave mid.store → IsRepresented shown may_leave new.store)
      → (IsRepresented shown may_leave old.store → LeavesOnly moment left_since old.store.disk mid.store.disk (RepresentsAlong serving (trail event serving)))
      → ((now : Serving) → Represents mid now → IsRepresented shown may_leave mid.store → LeavesOnly moment left_since mid.store.disk new.store.disk (RepresentsAlong now (run (breaks lost) now)))
      → GoesRound shown may_leave moment left_since event serving old new before after
  goes_round event serving old mid new before told after replies lost answers was fresh sends ends kept kept' along along' =
      let now = at_end serving (trail event serving) in
      let sent = sends before was (subst (AllByRecursion (IsFresh before)) (sym answers.spoken) fresh) in
      record {
        lost = lost;
        later = sent.0;
        told = sent.1;
        sent = subst (λ (said : List Reply). AreSent before sent.0 said lost) answers.spoken sent.2;
        represents = subst (λ (end : Serving). Represents new end) (sym (at_end-append serving (trail event serving) (run (breaks lost) now))) (ends now answers.represents);
        kept = λ stands. kept' now answers.represents (kept stands);
        along = λ stands.
            joined moment left_since old.store.disk mid.store.disk new.store.disk _ _ (RepresentsAlong serving (trail event serving ++ run (breaks lost) now)) (along stands) (along' now answers.represents (kept stands))
            (along_first serving (trail event serving) (run (breaks lost) now)) (along_later serving (trail event serving) (run (breaks lost) now));
      }

  pub stops_round : (event : ScriptEvent) (serving : Serving) (old new : Kept D) (before : Traffic) (after : Option Traffic) → after ≡ Some before
      → (IsRepresented shown may_leave old.store → LeavesOnly moment left_since old.store.disk new.store.disk (RepresentsAlong serving (trail event serving)))
      → StopsRound shown may_leave moment left_since event serving old new before after
  stops_round event serving old new before after told along = record {
    told = told;
    along = λ stands. leaves_one old.store.disk new.store.disk serving event (along stands);
  }

  pub stops_with : {T E : Type 0} (result : Result T E) (event : ScriptEvent) (serving : Serving) (old new : Kept D) (before : Traffic) (after : Option Traffic) → IsErr result → after ≡ Some before
      → (IsRepresented shown may_leave old.store → LeavesOnly moment left_since old.store.disk new.store.disk (RepresentsAlong serving (trail event serving)))
      → EndsRound shown may_leave moment left_since event serving old new before after result
  stops_with (Ok done) event serving old new before after is told along = absurd cc
  stops_with (Err error) event serving old new before after is told along = stops_round event serving old new before after told along
