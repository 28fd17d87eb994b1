-- Serving, as far as it has come, and how it ends.
use Rattle.std.proofs.Common.{◌≡◌, ◌∙◌, ℕ, ◌<◌, ◌≤◌, List, [], ◌∷◌, ◌++◌, length, Option, None, Some, Result, Ok, Err, refl, ap, sym, subst, arith}
use Rattle.std.specs.List.{AllByRecursion}
use Rattle.vf_base.specs.Faults.{HasRisen}
use Rattle.vf_base.specs.Links.{HandsOut, RisesWith, Traffic, event_of}
use Rattle.vf_base.specs.declared.events.LinkEvent.{LinkEvent}
use Rattle.vf_base.specs.declared.events.LinkEvent.TheVariants as given
use Rattle.vf_base.specs.declared.events.ScriptEvent.{ScriptEvent}
use Rattle.vf_base.specs.declared.events.ScriptEvent.TheVariants as script
use Rattle.vf_disk.proofs.Runs.{joined, leaves_octets}
use Rattle.vf_disk.specs.Disk.{LeavesOnly}
use Rattle.vf_journal.specs.Answers.{OpenCauses}
use Rattle.vf_journal.specs.Image.{refusal}
use Rattle.vf_journal.specs.declared.error.JournalError.{JournalError}
use Rattle.vf_journal.specs.declared.error.JournalError.TheVariants as errors
use Rattle.vf_store.proofs.Runs.{represented}
use Rattle.vf_store.specs.Answers.{OpenAnswers}
use Rattle.vf_store.specs.Represented.{Represents as ImageRepresents}
use Rattle.vf_store.specs.StoreState.{IsRepresented, StoreState}
use Rattle.vf_tables.specs.declared.tables.Tables.{Tables}
use Rattle.vf_responder.proofs.Alongside.{past_all, past_later}
use Rattle.vf_responder.proofs.FullLemmas.{full-to}
use Rattle.vf_responder.proofs.Lives.{Lives, RisesBy, are_fresh, lived_more, lived_new, lives_first, lives_on, none_sent_yet, run-append, with_event}
use Rattle.vf_responder.proofs.Rounds.{leaves_joined, leaves_none}
use Rattle.vf_responder.specs.Along.{RepresentsAlong, RepresentsPast}
use Rattle.vf_responder.specs.Answers.{Answer, at_end, spoken_in}
use Rattle.vf_responder.specs.Full.{IsFullAt, IsStoreOf, WhereFull}
use Rattle.vf_responder.specs.Represents.{AnswerCauses, Kept, Represents}
use Rattle.vf_responder.specs.Run.{run, tables_in, trail}
use Rattle.vf_responder.specs.Sends.{CausesNext, EndsRound, GoesRound, IsFresh, RisesNext, StopsRound, TakesNext, breaks}
use Rattle.vf_responder.specs.Served.{EndsWell, IsFullBy, IsFullIn, IsFullOn, IsLeft, IsSent, KeepsAnswered, Refuses, RepresentsServed, ServeCauses, Serves, WhereServedFull, answered, but_last, counts_of, lived, lived_from, lived_with, refused_in, untold}
use Rattle.vf_responder.specs.Serving.{IsBegun, Serving}
use Rattle.vf_responder.specs.declared.error.ServeError.{ServeError}
use Rattle.vf_responder.specs.declared.error.ServeError.TheVariants.{Respond, LinksFault, NoMemory}
use Rattle.vf_responder.specs.declared.serving.Served.{Served}

-- ---- what comes next

is_meant : (event : LinkEvent) (piece : List ℕ) → ((event ≡ given.Done) → ⊥) → (meant : ScriptEvent) × (event_of event piece ≡ Some meant)
is_meant (given.Arrived link) piece more = (script.Arrived link, refl)
is_meant (given.Octets link moment) piece more = (script.Octets link moment piece, refl)
is_meant (given.Ended link) piece more = (script.Ended link, refl)
is_meant given.Done piece more = absurd (more refl)

some_is : {A : Type 0} (a b : A) → Some a ≡ Some b → a ≡ b
some_is a b is = cc

rises_by : (event : LinkEvent) (piece : List ℕ) (meant : ScriptEvent) (last later : ℕ) → event_of event piece ≡ Some meant → RisesWith last later event → RisesBy meant last later
rises_by (given.Arrived link) piece meant last later is rises = subst (λ (meant : ScriptEvent). RisesBy meant last later) (some_is (script.Arrived link) meant is) rises
rises_by (given.Octets link moment) piece meant last later is rises = subst (λ (meant : ScriptEvent). RisesBy meant last later) (some_is (script.Octets link moment piece) meant is) rises
rises_by (given.Ended link) piece meant last later is rises = subst (λ (meant : ScriptEvent). RisesBy meant last later) (some_is (script.Ended link) meant is) rises
rises_by given.Done piece meant last later is rises = absurd (let none : None ≡ Some meant = is in cc)

-- the event that was handed out after these
pub record Comes (traffic : Traffic) (told : Option Traffic) (event : LinkEvent) (piece : List ℕ) (last later : ℕ) : Type 0 where
  pub meant : ScriptEvent
  pub rest : List ScriptEvent
  pub is : event_of event piece ≡ Some meant
  pub hands : told ≡ Some (with_event meant rest traffic)
  pub rises : RisesBy meant last later

pub comes : (traffic : Traffic) (before told : Option Traffic) (event : LinkEvent) (piece : List ℕ) (last later : ℕ) → before ≡ Some traffic → TakesNext before told piece (Ok (Some event))
    → RisesNext last later (Ok (Some event)) → ((event ≡ given.Done) → ⊥) → Comes traffic told event piece last later
comes traffic before told event piece last later is takes rises more =
    let meant = is_meant event piece more in
    let hands : HandsOut traffic told (Some meant.0) =
    subst (λ (next : Option ScriptEvent). HandsOut traffic told next) meant.1 (subst (λ (before : Option Traffic). TakesNext before told piece (Ok (Some event))) is takes) in
    record {
      meant = meant.0;
      rest = hands.0;
      is = meant.1;
      hands = hands.2;
      rises = rises_by event piece meant.0 last later meant.1 rises;
    }

-- ---- where nothing was served but what was told before

-- all events but the last
but_last-more : (events : List ScriptEvent) (event : ScriptEvent) → but_last (events ++ event ∷ []) ≡ events
but_last-more [] event = refl
but_last-more (first ∷ []) event = refl
but_last-more (first ∷ second ∷ events) event = ap (λ (events : List ScriptEvent). first ∷ events) (but_last-more (second ∷ events) event)

-- what was sent was sent also once the next event was handed out
still_sent : (serving : Serving) (traffic : Traffic) (event : ScriptEvent) (rest : List ScriptEvent) → IsSent serving traffic.events traffic
    → IsSent serving (but_last (traffic.events ++ event ∷ [])) (with_event event rest traffic)
still_sent serving traffic event rest sent = subst (λ (events : List ScriptEvent). IsSent serving events (with_event event rest traffic)) (sym (but_last-more traffic.events event))
    (record { whole = sent.whole; before = sent.before; within = sent.within; shut = sent.shut })

-- ---- causes

pub stops_by : (limit bound before between after links later : ℕ) (error : JournalError) → bound ≡ limit → between ≡ before
    → AnswerCauses {T = Unit {0}} bound between after (Err error) → later ≡ links → ServeCauses limit before after links later (Err (Respond error))
stops_by limit bound before between after links later errors.DiskFault same start cause still = (subst (λ n. HasRisen n after) start cause, still)
stops_by limit bound before between after links later (errors.Full length full) same start cause still =
    ((subst (λ n. n < length) same cause.0, cause.1 ∙ same, cause.2 ∙ start), still)
stops_by limit bound before between after links later errors.NoMemory same start cause still = (cause ∙ start, still)
stops_by limit bound before between after links later (errors.NotAStore place found expected) same start cause still = absurd cause

pub stops_not_refused : (bound before after : ℕ) (error : JournalError) → AnswerCauses {T = Unit {0}} bound before after (Err error) → refused_in (Err (Respond error)) ≡ None
stops_not_refused bound before after errors.DiskFault cause = refl
stops_not_refused bound before after (errors.Full length full) cause = refl
stops_not_refused bound before after errors.NoMemory cause = refl
stops_not_refused bound before after (errors.NotAStore place found expected) cause = absurd cause

pub fails_by : (limit before now links between after : ℕ) (error : ServeError) → now ≡ before → between ≡ links
    → CausesNext between after (Err error) → ServeCauses limit before now links after (Err error)
fails_by limit before now links between after LinksFault still start cause = (still, subst (λ n. HasRisen n after) start cause)
fails_by limit before now links between after NoMemory still start cause = (still, cause ∙ start)
fails_by limit before now links between after (Respond error) still start cause = absurd cause

pub fails_not_refused : (before after : ℕ) (error : ServeError) → CausesNext before after (Err error) → refused_in (Err error) ≡ None
fails_not_refused before after LinksFault cause = refl
fails_not_refused before after NoMemory cause = refl
fails_not_refused before after (Respond error) cause = absurd cause

pub opens_by : (limit before after links : ℕ) (error : JournalError) → OpenCauses {T = Unit {0}} before after (Err error) → ServeCauses limit before after links links (Err (Respond error))
opens_by limit before after links errors.DiskFault cause = (cause, refl)
opens_by limit before after links errors.NoMemory cause = (cause, refl)
opens_by limit before after links (errors.NotAStore place found expected) cause = (cause, refl)
opens_by limit before after links (errors.Full length bound) cause = absurd cause

-- a full store is told by no failure of the links, and by no opening
pub fails_full : (holds : ℕ → Type 0) (before after : ℕ) (error : ServeError) → CausesNext before after (Err error) → WhereServedFull (Err error) holds
fails_full holds before after LinksFault cause = tt
fails_full holds before after NoMemory cause = tt
fails_full holds before after (Respond error) cause = absurd cause

pub opens_full : (holds : ℕ → Type 0) (before after : ℕ) (error : JournalError) → OpenCauses {T = Unit {0}} before after (Err error) → WhereServedFull (Err (Respond error)) holds
opens_full holds before after errors.DiskFault cause = tt
opens_full holds before after errors.NoMemory cause = tt
opens_full holds before after (errors.NotAStore place found expected) cause = tt
opens_full holds before after (errors.Full length bound) cause = absurd cause

-- and of the store of the disk that is left
pub full_left : {D : Type 0} (size : D → ℕ) (limit : ℕ) (serving : Serving) (disk : D) (store : StoreState D) (told : Option Traffic) (result : Result Served ServeError) → IsStoreOf size limit disk store
    → WhereServedFull result (IsFullBy serving store told) → WhereServedFull result (IsFullOn size limit serving disk told)
full_left size limit serving disk store told (Ok served) of full = tt
full_left size limit serving disk store told (Err LinksFault) of full = tt
full_left size limit serving disk store told (Err NoMemory) of full = tt
full_left size limit serving disk store told (Err (Respond error)) of full = full-to error (IsFullBy serving store told) (IsFullOn size limit serving disk told) full (λ place at. (store, of, at))

pub opening_refuses : (image : List ℕ) (error : JournalError) → OpenAnswers {T = Unit {0}} image (Err error) → Refuses image (Err (Respond error))
opening_refuses image errors.DiskFault answers = tt
opening_refuses image errors.NoMemory answers = sym answers
opening_refuses image (errors.NotAStore place found expected) answers = sym answers
opening_refuses image (errors.Full length bound) answers = absurd answers

-- serving that doesn't refuse a disk with a store
pub serving_refuses : (image : List ℕ) (result : Result Served ServeError) → refusal image ≡ None → refused_in result ≡ None → Refuses image result
serving_refuses image (Ok served) is none = sym is
serving_refuses image (Err LinksFault) is none = sym is
serving_refuses image (Err NoMemory) is none = sym is
serving_refuses image (Err (Respond errors.DiskFault)) is none = tt
serving_refuses image (Err (Respond errors.NoMemory)) is none = sym is
serving_refuses image (Err (Respond (errors.Full length bound))) is none = sym is
serving_refuses image (Err (Respond (errors.NotAStore place found expected))) is none = none ∙ sym is

module _ {D : Type 0} (shown : D → Option (List ℕ)) (may_leave : D → List ℕ → Type 0) (moment : D → ℕ) (left_since : D → ℕ → List ℕ → Type 0) where
  -- what was told so far was lived from this state, whose store the code keeps, and the disk meanwhile
  pub record IsServed (serving : Serving) (old kept : Kept D) (told : Option Traffic) (last : ℕ) (counts : Served) : Type 0 where
    pub traffic : Traffic
    pub now : Serving
    pub is : told ≡ Some traffic
    pub counted : counts ≡ counts_of traffic.events
    pub lives : Lives serving traffic now last
    pub represents : Represents kept now
    pub stands : IsRepresented shown may_leave old.store → IsRepresented shown may_leave kept.store
    pub along : IsRepresented shown may_leave old.store → LeavesOnly moment left_since old.store.disk kept.store.disk (RepresentsAlong serving (run (lived traffic) serving))

module _ {D : Type 0} (shown : D → Option (List ℕ)) (may_leave : D → List ℕ → Type 0) (moment : D → ℕ) (left_since : D → ℕ → List ℕ → Type 0)
    (only_now : (disk : D) (image : List ℕ) → left_since disk (moment disk) image → may_leave disk image) where
  pub served_first : (serving : Serving) (kept : Kept D) (told : Option Traffic) (left : List ScriptEvent) (last : ℕ) (counts : Served) → told ≡ Some (untold left) → counts ≡ counts_of []
      → Represents kept serving → serving.filestore.parties ≡ [] → IsServed shown may_leave moment left_since serving kept kept told last counts
  served_first serving kept told left last counts is counted represents none = record {
    traffic = untold left;
    now = serving;
    is = is;
    counted = counted;
    lives = lives_first serving left last none;
    represents = represents;
    stands = λ stands. stands;
    along = λ stands. leaves_none shown may_leave moment left_since only_now kept serving represents stands;
  }

  -- ---- how it ends

  serves_at : (serving : Serving) (disk : D) (result : Result Served ServeError) (told : Option Traffic) (traffic : Traffic) → told ≡ Some traffic
      → IsSent serving (answered result traffic) traffic
      → EndsWell shown may_leave disk result traffic (tables_in (at_end serving (run (lived traffic) serving))) → Serves shown may_leave serving disk result told
  serves_at serving disk result told traffic is sent well = subst (λ (told : Option Traffic). Serves shown may_leave serving disk result told) (sym is) (sent, well)

  along_at : (serving : Serving) (old new : D) (told : Option Traffic) (traffic : Traffic) → told ≡ Some traffic
      → LeavesOnly moment left_since old new (RepresentsAlong serving (run (lived traffic) serving)) → LeavesOnly moment left_since old new (RepresentsServed serving told)
  along_at serving old new told traffic is along = subst (λ (told : Option Traffic). LeavesOnly moment left_since old new (RepresentsServed serving told)) (sym is) along

  is_left : (kept : Kept D) (tables : Tables) → tables ≡ kept.store.tables → IsRepresented shown may_leave kept.store → IsLeft shown may_leave kept.store.disk tables
  is_left kept tables is stands = (
    stands.on.image,
    stands.on.shows,
    stands.on.synced,
    subst (λ (tables : Tables). ImageRepresents stands.on.image tables) (sym is) (represented stands.on.image stands.records kept.store.tables stands.making stands.on.holds),
  )

  -- where the disk keeps the tables after all answers, it keeps those to what was answered
  keeps_all : (serving : Serving) (disk : D) (result : Result Served ServeError) (told : Option Traffic) (traffic : Traffic) → told ≡ Some traffic → answered result traffic ≡ traffic.events
      → IsLeft shown may_leave disk (tables_in (at_end serving (run (lived traffic) serving))) → KeepsAnswered may_leave serving disk result told
  keeps_all serving disk result told traffic is all left = subst (λ (told : Option Traffic). KeepsAnswered may_leave serving disk result told) (sym is) (λ image leaves.
      subst (λ (events : List ScriptEvent). RepresentsPast (length (run (lived_with events traffic) serving)) serving (run (lived traffic) serving) image) (sym all)
      (past_all serving (run (lived traffic) serving) image
      (subst (λ (image : List ℕ). ImageRepresents image (tables_in (at_end serving (run (lived traffic) serving))))
      (sym (leaves_octets (shown disk) (may_leave disk) left.0 image left.2 left.1 leaves)) left.3)))

  module _ (serving : Serving) (old kept : Kept D) (told : Option Traffic) (last : ℕ) (counts : Served) (served : IsServed shown may_leave moment left_since serving old kept told last counts) where
    left_all : IsRepresented shown may_leave old.store → IsLeft shown may_leave kept.store.disk (tables_in (at_end serving (run (lived served.traffic) serving)))
    left_all stands =
        is_left kept (tables_in (at_end serving (run (lived served.traffic) serving))) (ap tables_in (sym served.lives.is) ∙ served.represents.tables) (served.stands stands)

    -- no event is left
    module _ (after : Option Traffic) (piece : List ℕ) (takes : TakesNext told after piece (Ok None)) where
      none_left : TakesNext (Some served.traffic) after piece (Ok None)
      none_left = subst (λ (told : Option Traffic). TakesNext told after piece (Ok None)) served.is takes

      pub ends_well : IsRepresented shown may_leave old.store → Serves shown may_leave serving kept.store.disk (Ok counts) after
      ends_well stands =
          serves_at serving kept.store.disk (Ok counts) after served.traffic none_left.1 served.lives.sent (
            served.counted,
            none_left.0,
            left_all stands,
          )

      pub ends_kept : IsRepresented shown may_leave old.store → KeepsAnswered may_leave serving kept.store.disk (Ok counts) after
      ends_kept stands = keeps_all serving kept.store.disk (Ok counts) after served.traffic none_left.1 refl (left_all stands)

      pub ends_along : IsRepresented shown may_leave old.store → LeavesOnly moment left_since old.store.disk kept.store.disk (RepresentsServed serving after)
      ends_along stands = along_at serving old.store.disk kept.store.disk after served.traffic none_left.1 (served.along stands)

    -- the links failed, or memory was wanting
    module _ (after : Option Traffic) (piece : List ℕ) (error : ServeError) (takes : TakesNext told after piece (Err error)) where
      same_told : after ≡ Some served.traffic
      same_told = subst (λ (told : Option Traffic). TakesNext told after piece (Err error)) served.is takes

      pub fails_next : (before now : ℕ) → CausesNext before now (Err error) → IsRepresented shown may_leave old.store → Serves shown may_leave serving kept.store.disk (Err error) after
      fails_next before now cause stands = by error cause
        where
          by : (error : ServeError) → CausesNext before now (Err error) → Serves shown may_leave serving kept.store.disk (Err error) after
          by LinksFault cause = serves_at serving kept.store.disk (Err LinksFault) after served.traffic same_told served.lives.sent (left_all stands)
          by NoMemory cause = serves_at serving kept.store.disk (Err NoMemory) after served.traffic same_told served.lives.sent (left_all stands)
          by (Respond error) cause = absurd cause

      pub fails_kept : (before now : ℕ) → CausesNext before now (Err error) → IsRepresented shown may_leave old.store → KeepsAnswered may_leave serving kept.store.disk (Err error) after
      fails_kept before now cause stands = by error cause
        where
          by : (error : ServeError) → CausesNext before now (Err error) → KeepsAnswered may_leave serving kept.store.disk (Err error) after
          by LinksFault cause = keeps_all serving kept.store.disk (Err LinksFault) after served.traffic same_told refl (left_all stands)
          by NoMemory cause = keeps_all serving kept.store.disk (Err NoMemory) after served.traffic same_told refl (left_all stands)
          by (Respond error) cause = absurd cause

      pub fails_along : IsRepresented shown may_leave old.store → LeavesOnly moment left_since old.store.disk kept.store.disk (RepresentsServed serving after)
      fails_along stands = along_at serving old.store.disk kept.store.disk after served.traffic same_told (served.along stands)

    -- an event came
    module _ (handed : Option Traffic) (event : LinkEvent) (piece : List ℕ) (later : ℕ) (came : Comes served.traffic handed event piece last later) where
      -- the replies to it are on links that stand
      fresh : AllByRecursion (IsFresh (with_event came.meant came.rest served.traffic)) (spoken_in (trail came.meant served.now))
      fresh = are_fresh serving served.traffic served.now last served.lives came.meant later came.rises came.rest

      -- what a round with it owes
      abbrev pub GoesAround : Kept D → Option Traffic → Result (Unit {0}) JournalError → Type 0
      GoesAround new after result = (meant : ScriptEvent) (traffic : Traffic) (serving : Serving) → event_of event piece ≡ Some meant → handed ≡ Some traffic → Represents kept serving
          → AllByRecursion (IsFresh traffic) (spoken_in (trail meant serving)) → EndsRound shown may_leave moment left_since meant serving kept new traffic after result

      module _ (new : Kept D) (after : Option Traffic) where
        lived_on : (round : GoesRound shown may_leave moment left_since came.meant served.now kept new (with_event came.meant came.rest served.traffic) after)
            → Lives serving round.later (at_end served.now (run (came.meant ∷ breaks round.lost) served.now)) later
        lived_on round = lives_on serving served.traffic served.now last served.lives came.meant later came.rises came.rest round.later round.lost round.sent

        along_on : (round : GoesRound shown may_leave moment left_since came.meant served.now kept new (with_event came.meant came.rest served.traffic) after)
            → IsRepresented shown may_leave old.store → LeavesOnly moment left_since old.store.disk new.store.disk (RepresentsAlong serving (run (lived round.later) serving))
        along_on round stands =
            subst (λ (events : List ScriptEvent). LeavesOnly moment left_since old.store.disk new.store.disk (RepresentsAlong serving (run events serving)))
            (sym (lived_new serving served.traffic served.now last served.lives came.meant later came.rises came.rest round.later round.lost round.sent))
            (leaves_joined shown may_leave moment left_since only_now old.store.disk kept.store.disk new.store.disk serving (lived served.traffic) (came.meant ∷ breaks round.lost) (served.along stands)
            (subst (λ (begin : Serving). LeavesOnly moment left_since kept.store.disk new.store.disk (RepresentsAlong begin (run (came.meant ∷ breaks round.lost) begin))) served.lives.is
            (round.along (served.stands stands))))

        -- and it was answered
        pub served_on : (counts' : Served)
            → ((meant : ScriptEvent) (events : List ScriptEvent) → event_of event piece ≡ Some meant → counts ≡ counts_of events → counts' ≡ counts_of (events ++ meant ∷ []))
            → GoesAround new after (Ok tt) → IsServed shown may_leave moment left_since serving old new after later counts'
        served_on counts' counted goes =
            let round : GoesRound shown may_leave moment left_since came.meant served.now kept new (with_event came.meant came.rest served.traffic) after =
            goes came.meant (with_event came.meant came.rest served.traffic) served.now came.is came.hands served.represents fresh in
            record {
              traffic = round.later;
              now = at_end served.now (run (came.meant ∷ breaks round.lost) served.now);
              is = round.told;
              counted = counted came.meant served.traffic.events came.is served.counted ∙ ap counts_of (sym round.sent.events);
              lives = lived_on round;
              represents = round.represents;
              stands = λ stands. round.kept (served.stands stands);
              along = along_on round;
            }

        -- and the responder couldn't go on
        module _ (error : JournalError) (goes : GoesAround new after (Err error)) where
          stopped : StopsRound shown may_leave moment left_since came.meant served.now kept new (with_event came.meant came.rest served.traffic) after
          stopped = goes came.meant (with_event came.meant came.rest served.traffic) served.now came.is came.hands served.represents fresh

          pub stops_serving : Serves shown may_leave serving new.store.disk (Err (Respond error)) after
          stops_serving =
              serves_at serving new.store.disk (Err (Respond error)) after (with_event came.meant came.rest served.traffic) stopped.told
              (still_sent serving served.traffic came.meant came.rest served.lives.sent) tt

          -- the store was full at a message of this event
          pub stops_full : WhereFull {T = Unit {0}} (Err error) (λ place. IsFullAt (trail came.meant served.now) served.now new.store place)
              → WhereServedFull (Err (Respond error)) (IsFullBy serving new.store after)
          stops_full full =
              subst (λ (told : Option Traffic). WhereServedFull (Err (Respond error)) (IsFullBy serving new.store told)) (sym stopped.told)
              (full-to error (λ place. IsFullAt (trail came.meant served.now) served.now new.store place) (IsFullIn serving new.store (with_event came.meant came.rest served.traffic)) full
              (λ place at. record {
                before = served.traffic.events;
                event = came.meant;
                events = refl;
                full = record { now = served.now; reached = served.lives.is; full = at };
              }))

          pub stops_kept : ((disk : D) (since : ℕ) (image : List ℕ) → since ≤ moment disk → may_leave disk image → left_since disk since image)
              → IsRepresented shown may_leave old.store → KeepsAnswered may_leave serving new.store.disk (Err (Respond error)) after
          stops_kept counts_now stands =
              let before : List ScriptEvent = lived served.traffic in
              let along = stopped.along (served.stands stands) in
              subst (λ (told : Option Traffic). KeepsAnswered may_leave serving new.store.disk (Err (Respond error)) told) (sym stopped.told) (λ image leaves.
              subst (λ (events : List ScriptEvent). RepresentsPast (length (run (lived_from 0 served.traffic.failed events) serving)) serving (run (lived (with_event came.meant came.rest served.traffic)) serving) image)
              (sym (but_last-more served.traffic.events came.meant))
              (subst (λ (events : List ScriptEvent). RepresentsPast (length (run before serving)) serving (run events serving) image)
              (sym (lived_more serving served.traffic served.now last served.lives came.meant came.rest))
              (subst (λ (answers : List Answer). RepresentsPast (length (run before serving)) serving answers image) (sym (run-append before (came.meant ∷ []) serving))
              (past_later serving (run before serving) (run (came.meant ∷ []) (at_end serving (run before serving))) image
              (subst (λ (begin : Serving). RepresentsAlong begin (run (came.meant ∷ []) begin) image) served.lives.is
              (along.each image (counts_now new.store.disk (moment kept.store.disk) image along.later leaves)))))))

          pub stops_along : IsRepresented shown may_leave old.store → LeavesOnly moment left_since old.store.disk new.store.disk (RepresentsServed serving after)
          stops_along stands =
              along_at serving old.store.disk new.store.disk after (with_event came.meant came.rest served.traffic) stopped.told
              (subst (λ (events : List ScriptEvent). LeavesOnly moment left_since old.store.disk new.store.disk (RepresentsAlong serving (run events serving)))
              (sym (lived_more serving served.traffic served.now last served.lives came.meant came.rest))
              (leaves_joined shown may_leave moment left_since only_now old.store.disk kept.store.disk new.store.disk serving (lived served.traffic) (came.meant ∷ []) (served.along stands)
              (subst (λ (begin : Serving). LeavesOnly moment left_since kept.store.disk new.store.disk (RepresentsAlong begin (run (came.meant ∷ []) begin))) served.lives.is
              (stopped.along (served.stands stands)))))

  -- ---- from the opening of the store on

  -- the tables that an image represents before the first event
  at_first : (serving : Serving) (tables : Tables) (traffic : Traffic) → IsBegun tables serving → (image : List ℕ) → ImageRepresents image tables
      → RepresentsAlong serving (run (lived traffic) serving) image
  at_first serving tables traffic begun image is = (0, subst (λ (tables : Tables). ImageRepresents image tables) (sym begun.begins.kept) is)

  -- the store couldn't be opened
  pub not_opened : (serving : Serving) (disk : D) (told : Option Traffic) (left : List ScriptEvent) (error : JournalError) → told ≡ Some (untold left)
      → Serves shown may_leave serving disk (Err (Respond error)) told
  not_opened serving disk told left error is =
      serves_at serving disk (Err (Respond error)) told (untold left) is (none_sent_yet serving left) tt

  pub not_opened_kept : ((disk : D) (since : ℕ) (image : List ℕ) → since ≤ moment disk → may_leave disk image → left_since disk since image)
      → (serving : Serving) (tables : Tables) (old disk : D) (told : Option Traffic) (left : List ScriptEvent) (error : JournalError) → told ≡ Some (untold left) → IsBegun tables serving
      → LeavesOnly moment left_since old disk (λ image. ImageRepresents image tables) → KeepsAnswered may_leave serving disk (Err (Respond error)) told
  not_opened_kept counts_now serving tables old disk told left error is begun leaves =
      subst (λ (told : Option Traffic). KeepsAnswered may_leave serving disk (Err (Respond error)) told) (sym is) (λ image now. (
        0,
        omega arith,
        subst (λ (tables : Tables). ImageRepresents image tables) (sym begun.begins.kept) (leaves.each image (counts_now disk (moment old) image leaves.later now)),
      ))

  -- what was left since the opening began
  pub opened_along : (serving : Serving) (tables : Tables) (old mid new : D) (result : Result Served ServeError) (told : Option Traffic) → IsBegun tables serving
      → LeavesOnly moment left_since old mid (λ image. ImageRepresents image tables) → Serves shown may_leave serving new result told
      → LeavesOnly moment left_since mid new (RepresentsServed serving told) → LeavesOnly moment left_since old new (RepresentsServed serving told)
  opened_along serving tables old mid new result (Some traffic) begun first serves later =
      joined moment left_since old mid new (λ image. ImageRepresents image tables) (RepresentsServed serving (Some traffic)) (RepresentsServed serving (Some traffic)) first later
      (at_first serving tables traffic begun) (λ image left. left)
  opened_along serving tables old mid new result None begun first serves later = absurd serves
