-- A call of `serve` as an incarnation, and each moment of it as one that stopped there.
use Rattle.std.proofs.Common.{◌≡◌, ◌∙◌, ℕ, zero, suc, ◌+◌, ◌≤◌, ◌⊎◌, inl, inr, Bool, true, false, cond, ◌&&◌, ◌||◌, List, [], ◌∷◌, ◌++◌, length, nat_eq, take, Option, None, Some, Result, Ok, Err, refl, ap, sym, subst, arith, append_assoc, append-nil}
use Rattle.std.specs.List.{AllByRecursion}
use Rattle.std.proofs.lemmas.Bool.{eq-eqb}
use Rattle.vf_base.specs.Links.{Traffic, has_note}
use Rattle.vf_base.specs.declared.events.ScriptEvent.{ScriptEvent}
use Rattle.vf_base.specs.declared.events.ScriptEvent.TheVariants.{Arrived, Octets, Ended}
use Rattle.vf_filestore.proofs.Kept.{breaks_keep, stops_keep}
use Rattle.vf_filestore.proofs.Lists.{flat_map-append}
use Rattle.vf_filestore.proofs.RangedStates.{breaks_reached}
use Rattle.vf_filestore.specs.Ranges.{IsReached}
use Rattle.vf_filestore.specs.State.{State, StandingParty, party_of}
use Rattle.vf_filestore.specs.Tables.{tables_of}
use Rattle.vf_journal.specs.declared.error.JournalError.{JournalError}
use Rattle.vf_store.specs.Represented.{Represents}
use Rattle.vf_tables.specs.declared.tables.Tables.{Tables}
use Rattle.vf_responder.proofs.ChainLemmas.{at_end-join, spoken-join}
use Rattle.vf_responder.proofs.Lives.{run-append}
use Rattle.vf_responder.specs.Along.{RepresentsPast}
use Rattle.vf_responder.specs.AnswersTo.{to_event}
use Rattle.vf_responder.specs.Answers.{Answer, at_end, ended, spoken_in}
use Rattle.vf_responder.specs.Run.{after, run, tables_in, trail}
use Rattle.vf_responder.specs.Served.{IsFront, IsSent, KeepsAnswered, Serves, answered, breaks_at, but_last, is_noted_at, lived, lived_from, lived_with, octets_by, octets_on, octets_to}
use Rattle.vf_responder.specs.Serving.{Serving, unheard}
use Rattle.vf_responder.specs.declared.error.ServeError.{ServeError}
use Rattle.vf_responder.specs.declared.error.ServeError.TheVariants.{Respond, LinksFault, NoMemory}
use Rattle.vf_responder.specs.declared.serving.Served.{Served}
use Rattle.vf_incarnations.proofs.Answered.{event-to, events_are_answered, to-reached}
use Rattle.vf_incarnations.proofs.Lives.{incarnations_are_serial}
use Rattle.vf_incarnations.specs.Incarnations.{Incarnation, Incarnates, Stop, answers, cut_short, left_by}
use Rattle.vf_incarnations.specs.Laws.{MayBegin}
use Rattle.vf_incarnations.specs.Messages.{to_events}
use Rattle.vf_incarnations.specs.Served.{EachMomentIsAStop, EndsSo, IsIncarnation, IsSentBy, IsSerial, ServingIncarnates, events_to}

-- ---- the first of some answers

take-none : (count : ℕ) → take {A = Answer} count [] ≡ []
take-none zero = refl
take-none (suc count) = refl

-- so many of two lists are so many of the first one, or all of it and so many of the second
split : (count : ℕ) (first rest : List Answer) → (take count (first ++ rest) ≡ take count first) ⊎ ((more : ℕ) × (take count (first ++ rest) ≡ first ++ take more rest))
split zero first rest = inl refl
split (suc count) [] rest = inr (suc count, refl)
split (suc count) (answer ∷ first) rest =
    elim (split count first rest) [
      | inl within ↦ inl (ap (λ (answers : List Answer). answer ∷ answers) within)
      | inr past ↦ inr (past.0, ap (λ (answers : List Answer). answer ∷ answers) past.1)
    ]

past : (count : ℕ) (first rest : List Answer) → length first ≤ count → (more : ℕ) × (take count (first ++ rest) ≡ first ++ take more rest)
past count [] rest most = (count, refl)
past zero (answer ∷ first) rest most = absurd (omega (arith, most))
past (suc count) (answer ∷ first) rest most =
    let later = past count first rest (omega (arith, most)) in (later.0, ap (λ (answers : List Answer). answer ∷ answers) later.1)

-- ---- each moment

pub record IsCut (events : List ScriptEvent) (serving : Serving) (first : List Answer) : Type 0 where
  pub incarnation : Incarnation
  pub later : List ScriptEvent
  pub front : events ≡ events_to incarnation ++ later
  pub is : first ≡ run incarnation.events serving ++ cut_short incarnation.stop (at_end serving (run incarnation.events serving))

cut-run : (count : ℕ) (events : List ScriptEvent) (serving : Serving) → IsCut events serving (take count (run events serving))
cut-run count [] serving = record { incarnation = record { events = []; stop = None }; later = []; front = refl; is = take-none count }
cut-run count (event ∷ events) serving =
    let first = trail event serving in
    let now = at_end serving first in
    elim (split count first (run events now)) [
      | inl within ↦ record {
        incarnation = record { events = []; stop = Some (record { event = event; answers = count }) };
        later = events;
        front = refl;
        is = within;
      }
      | inr past ↦ (
          let rest = cut-run past.0 events now in
          let inner = rest.incarnation in
          record {
            incarnation = record { events = event ∷ inner.events; stop = inner.stop };
            later = rest.later;
            front = ap (λ (more : List ScriptEvent). event ∷ more) rest.front;
            is =
                past.1
                ∙ ap (λ (answers : List Answer). first ++ answers) rest.is
                ∙ sym (append_assoc first (run inner.events now) (cut_short inner.stop (at_end now (run inner.events now))))
                ∙ ap (λ (end : Serving). (first ++ run inner.events now) ++ cut_short inner.stop end) (sym (at_end-join serving first (run inner.events now)));
          }
          )
    ]

-- what is kept after its answers is what it leaves
left-is : (incarnation : Incarnation) (state : State) (image : List ℕ) → Represents image (tables_in (at_end (unheard state) (answers incarnation state)))
    → Represents image (tables_of (left_by incarnation state))
left-is incarnation state image = subst (λ (tables : Tables). Represents image tables) (sym (stops_keep (at_end (unheard state) (answers incarnation state)).filestore))

pub each_moment_is_a_stop : EachMomentIsAStop
each_moment_is_a_stop state events image along =
    let cut = cut-run along.0 events (unheard state) in
    record {
      incarnation = cut.incarnation;
      later = cut.later;
      front = cut.front;
      left = left-is cut.incarnation state image (subst (λ (first : List Answer). Represents image (tables_in (at_end (unheard state) first))) cut.is along.1);
    }

-- ---- the events of a call

abbrev IsEnd : ScriptEvent → Type 0
IsEnd (Ended link) = Unit {0}
IsEnd event = ⊥

breaks-end : (count : ℕ) (notes : List (ℕ × ℕ)) → AllByRecursion IsEnd (breaks_at count notes)
breaks-end count [] = tt
breaks-end count (note ∷ notes) = by (nat_eq note.1 count) (breaks-end count notes)
  where
    by : (b : Bool) → AllByRecursion IsEnd (breaks_at count notes) → AllByRecursion IsEnd (cond b (Ended note.0 ∷ breaks_at count notes) (breaks_at count notes))
    by true all = (tt, all)
    by false all = all

-- with the last event, behind which only ends of links stand
pub record IsLast (count : ℕ) (failed : List (ℕ × ℕ)) (front : List ScriptEvent) (last : ScriptEvent) : Type 0 where
  pub ends : List ScriptEvent
  pub is : lived_from count failed (front ++ last ∷ []) ≡ lived_from count failed front ++ last ∷ ends
  pub all : AllByRecursion IsEnd ends

with-last : (count : ℕ) (failed : List (ℕ × ℕ)) (front : List ScriptEvent) (last : ScriptEvent) → IsLast count failed front last
with-last count failed [] last = record {
  ends = breaks_at (count + 1) failed;
  is = ap (λ (ends : List ScriptEvent). last ∷ ends) (append-nil (breaks_at (count + 1) failed));
  all = breaks-end (count + 1) failed;
}
with-last count failed (event ∷ front) last =
    let rest = with-last (count + 1) failed front last in
    record {
      ends = rest.ends;
      is = ap (λ (later : List ScriptEvent). event ∷ (breaks_at (count + 1) failed ++ later)) rest.is
          ∙ ap (λ (later : List ScriptEvent). event ∷ later) (sym (append_assoc (breaks_at (count + 1) failed) (lived_from (count + 1) failed front) (last ∷ rest.ends)));
      all = rest.all;
    }

-- the last one of some
pub record HasLast (events : List ScriptEvent) : Type 0 where
  pub last : ScriptEvent
  pub is : events ≡ but_last events ++ last ∷ []

has-last : (event : ScriptEvent) (events : List ScriptEvent) → HasLast (event ∷ events)
has-last event [] = record { last = event; is = refl }
has-last event (next ∷ events) =
    let rest = has-last next events in record { last = rest.last; is = ap (λ (later : List ScriptEvent). event ∷ later) rest.is }

-- ends of links change nothing that is kept
ended-keep : (k : ℕ) (rest : List Answer) (serving : Serving) (link : ℕ) (party : Option StandingParty) → IsReached serving.filestore
    → ((k : ℕ) → IsReached (at_end serving (ended serving party)).filestore → tables_in (at_end (at_end serving (ended serving party)) (take k rest)) ≡ tables_in (at_end serving (ended serving party)))
    → tables_in (at_end serving (take k (ended serving party ++ rest))) ≡ tables_in serving
ended-keep k rest serving link None reached later = later k reached
ended-keep zero rest serving link (Some party) reached later = refl
ended-keep (suc k) rest serving link (Some party) reached later =
    later k (breaks_reached serving.filestore party.link reached) ∙ breaks_keep serving.filestore party.link reached.sound

ends-keep : (ends : List ScriptEvent) → AllByRecursion IsEnd ends → (k : ℕ) (serving : Serving) → IsReached serving.filestore → tables_in (at_end serving (take k (run ends serving))) ≡ tables_in serving
ends-keep [] all k serving reached = ap (λ (none : List Answer). tables_in (at_end serving none)) (take-none k)
ends-keep (Arrived link ∷ ends) all k serving reached = absurd all.0
ends-keep (Octets link moment octets ∷ ends) all k serving reached = absurd all.0
ends-keep (Ended link ∷ ends) all k serving reached =
    let party = party_of link serving.filestore.parties in
    let now = at_end serving (ended serving party) in
    ended-keep k (run ends now) serving link party reached (λ k so. ends-keep ends all.1 k now so)

-- ---- where it ended

reached-after : (events : List ScriptEvent) (serving : Serving) → IsReached serving.filestore → IsReached (at_end serving (run events serving)).filestore
reached-after events serving reached = to-reached serving (run events serving) (to_events events serving) (events_are_answered events serving reached) reached

take-whole : (all : List Answer) → take (length all) all ≡ all
take-whole [] = refl
take-whole (answer ∷ all) = ap (λ (answers : List Answer). answer ∷ answers) (take-whole all)

-- within the last event: after so many of its answers, at most all
pub record IsStopped (first : List ScriptEvent) (last : ScriptEvent) (state : State) (image : List ℕ) : Type 0 where
  pub answers : ℕ
  pub left : Represents image (tables_of (left_by (record { events = first; stop = Some (record { event = last; answers = answers }) }) state))

within-last : (first : List ScriptEvent) (last : ScriptEvent) (ends : List ScriptEvent) (state : State) (image : List ℕ) → AllByRecursion IsEnd ends → IsReached state
    → RepresentsPast (length (run first (unheard state))) (unheard state) (run (first ++ last ∷ ends) (unheard state)) image → IsStopped first last state image
within-last first last ends state image all reached (count, most, represents) =
    let begin = unheard state in
    let done = run first begin in
    let now = at_end begin done in
    let one = trail last now in
    let then = at_end now one in
    let so = past count done (one ++ run ends then) most in
    let is : take count (run (first ++ last ∷ ends) begin) ≡ done ++ take so.0 (one ++ run ends then) =
    ap (take count) (run-append first (last ∷ ends) begin) ∙ so.1 in
    let here : Represents image (tables_in (at_end begin (done ++ take so.0 (one ++ run ends then)))) =
    subst (λ (answers : List Answer). Represents image (tables_in (at_end begin answers))) is represents in
    let stopped : ℕ → Incarnation = λ (answers : ℕ). record { events = first; stop = Some (record { event = last; answers = answers }) } in
    elim (split so.0 one (run ends then)) [
      | inl within ↦ record {
        answers = so.0;
        left = left-is (stopped so.0) state image (subst (λ (answers : List Answer). Represents image (tables_in (at_end begin (done ++ answers)))) within here);
      }
      | inr after ↦ (
          let now-reached = reached-after first begin reached in
          let then-reached = to-reached now one (to_event last now) (event-to last now now-reached) now-reached in
          let same : tables_in (at_end begin (done ++ take so.0 (one ++ run ends then))) ≡ tables_in (at_end begin (done ++ take (length one) one)) =
          ap tables_in (at_end-join begin done (take so.0 (one ++ run ends then)))
          ∙ ap (λ (answers : List Answer). tables_in (at_end now answers)) after.1
          ∙ ap tables_in (at_end-join now one (take after.0 (run ends then)))
          ∙ ends-keep ends all after.0 then then-reached
          ∙ ap (λ (answers : List Answer). tables_in (at_end now answers)) (sym (take-whole one))
          ∙ ap tables_in (sym (at_end-join begin done (take (length one) one))) in
          record {
            answers = length one;
            left = left-is (stopped (length one)) state image (subst (λ (tables : Tables). Represents image tables) same here);
          }
          )
    ]

-- ---- what was sent

noted-at : (link : ℕ) (notes : List (ℕ × ℕ)) → has_note link notes ≡ true → (count : ℕ) × (is_noted_at link count notes ≡ true)
noted-at link [] is = absurd cc
noted-at link (note ∷ notes) is = by (nat_eq link note.0) refl is (noted-at link notes)
  where
    by : (b : Bool) → nat_eq link note.0 ≡ b → (b || has_note link notes) ≡ true → (has_note link notes ≡ true → (count : ℕ) × (is_noted_at link count notes ≡ true))
        → (count : ℕ) × (is_noted_at link count (note ∷ notes) ≡ true)
    by true same is later =
        (note.1, (λ i. (same i && eq-eqb note.1 note.1 refl i) || is_noted_at link note.1 notes))
    by false same is later =
        let rest = later is in (rest.0, (λ i. (same i && nat_eq rest.0 note.1) || is_noted_at link rest.0 notes) ∙ rest.1)

lived-front : (count n : ℕ) (failed : List (ℕ × ℕ)) (events : List ScriptEvent) → (rest : List ScriptEvent) × (lived_from n failed events ≡ lived_from n failed (take count events) ++ rest)
lived-front zero n failed events = (lived_from n failed events, refl)
lived-front (suc count) n failed [] = ([], refl)
lived-front (suc count) n failed (event ∷ events) =
    let more = lived-front count (n + 1) failed events in (
      more.0,
      ap (λ (later : List ScriptEvent). event ∷ (breaks_at (n + 1) failed ++ later)) more.1
          ∙ ap (λ (later : List ScriptEvent). event ∷ later) (sym (append_assoc (breaks_at (n + 1) failed) (lived_from (n + 1) failed (take count events)) more.0)),
    )

octets-front : (link count : ℕ) (serving : Serving) (events : List ScriptEvent) (traffic : Traffic) → IsFront (octets_to link serving (take count events) traffic) (octets_to link serving events traffic)
octets-front link count serving events traffic =
    let more = lived-front count 0 traffic.failed events in
    let first = run (lived_with (take count events) traffic) serving in
    let later = run more.0 (at_end serving first) in (
      octets_on link (spoken_in later),
      ap (λ (lived : List ScriptEvent). octets_on link (spoken_in (run lived serving))) more.1
          ∙ ap (λ (answers : List Answer). octets_on link (spoken_in answers)) (run-append (lived_with (take count events) traffic) more.0 serving)
          ∙ ap (octets_on link) (spoken-join first later)
          ∙ flat_map-append (octets_by link) (spoken_in first) (spoken_in later),
    )

front-of : (first second whole : List ℕ) → IsFront first second → IsFront second whole → IsFront first whole
front-of first second whole one other =
    (one.0 ++ other.0, other.1 ∙ ap (λ (front : List ℕ). front ++ other.0) one.1 ∙ append_assoc first one.0 other.0)

sent-so : (state : State) (events : List ScriptEvent) (traffic : Traffic) (stop : Option Stop) → IsSent (unheard state) events traffic
    → IsSentBy (record { events = lived_with events traffic; stop = stop }) state traffic
sent-so state events traffic stop sent = record {
  whole = sent.whole;
  front = λ link. by link (has_note link traffic.failed) refl;
  shut = sent.shut;
}
  where
    by : (link : ℕ) (b : Bool) → has_note link traffic.failed ≡ b → IsFront (traffic.taken link) (octets_to link (unheard state) events traffic)
    by link false off = ([], sym (sent.whole link off) ∙ sym (append-nil (traffic.taken link)))
    by link true on =
        let at = noted-at link traffic.failed on in
        front-of (traffic.taken link) (octets_to link (unheard state) (take at.0 events) traffic) (octets_to link (unheard state) events traffic)
        (sent.within link at.0 at.1) (octets-front link at.0 (unheard state) events traffic)

-- ---- the call

is-serial : (incarnation : Incarnation) (state : State) → MayBegin state → IsSerial incarnation state
is-serial incarnation state may = incarnations_are_serial (Incarnates incarnation ∷ []) state may

-- it was through with all that came
went-through : (state : State) (traffic : Traffic) (image : List ℕ)
    → RepresentsPast (length (run (lived traffic) (unheard state))) (unheard state) (run (lived traffic) (unheard state)) image
    → Represents image (tables_of (left_by (record { events = lived traffic; stop = None }) state))
went-through state traffic image (count, most, represents) =
    let begin = unheard state in
    let all = run (lived traffic) begin in
    let so = past count all [] most in
    let is : take count all ≡ all ++ [] = ap (take count) (sym (append-nil all)) ∙ so.1 ∙ ap (λ (none : List Answer). all ++ none) (take-none so.0) in
    left-is (record { events = lived traffic; stop = None }) state image (subst (λ (answers : List Answer). Represents image (tables_in (at_end begin answers))) is represents)

through-is : (state : State) (result : Result Served ServeError) (traffic : Traffic) (image : List ℕ) → MayBegin state → answered result traffic ≡ traffic.events
    → EndsSo result traffic.events None → IsSent (unheard state) (answered result traffic) traffic
    → RepresentsPast (length (run (lived_with (answered result traffic) traffic) (unheard state))) (unheard state) (run (lived traffic) (unheard state)) image
    → IsIncarnation state result traffic image
through-is state result traffic image may all ends sent left = record {
  incarnation = record { events = lived traffic; stop = None };
  events = sym (ap (λ (events : List ScriptEvent). lived_with events traffic) all);
  ends = ends;
  sent = sent-so state traffic.events traffic None (subst (λ (events : List ScriptEvent). IsSent (unheard state) events traffic) all sent);
  left = went-through state traffic image
      (subst (λ (events : List ScriptEvent). RepresentsPast (length (run (lived_with events traffic) (unheard state))) (unheard state) (run (lived traffic) (unheard state)) image) all left);
  serial = is-serial (record { events = lived traffic; stop = None }) state may;
}

-- it stopped within the last event that came, or before any
stopped-is : (state : State) (error : JournalError) (traffic : Traffic) (image : List ℕ) (events : List ScriptEvent) → traffic.events ≡ events → MayBegin state
    → IsSent (unheard state) (but_last events) traffic
    → RepresentsPast (length (run (lived_with (but_last events) traffic) (unheard state))) (unheard state) (run (lived_with events traffic) (unheard state)) image
    → IsIncarnation {T = Served} state (Err (Respond error)) traffic image
stopped-is state error traffic image [] is may sent (count, most, represents) = record {
  incarnation = record { events = []; stop = None };
  events = sym (ap (λ (events : List ScriptEvent). lived_with (but_last events) traffic) is);
  ends = is;
  sent = sent-so state [] traffic None sent;
  left = left-is (record { events = []; stop = None }) state image (subst (λ (answers : List Answer). Represents image (tables_in (at_end (unheard state) answers))) (take-none count) represents);
  serial = is-serial (record { events = []; stop = None }) state may;
}
stopped-is state error traffic image (event ∷ events) is may sent left =
    let whole = event ∷ events in
    let front = but_last whole in
    let last = has-last event events in
    let lived_last = with-last 0 traffic.failed front last.last in
    let first = lived_with front traffic in
    let lived_is : lived_with whole traffic ≡ first ++ last.last ∷ lived_last.ends =
    ap (λ (events : List ScriptEvent). lived_with events traffic) last.is ∙ lived_last.is in
    let at = within-last first last.last lived_last.ends state image lived_last.all may.reached
    (subst (λ (events : List ScriptEvent). RepresentsPast (length (run first (unheard state))) (unheard state) (run events (unheard state)) image) lived_is left) in
    record {
      incarnation = record { events = first; stop = Some (record { event = last.last; answers = at.answers }) };
      events = sym (ap (λ (events : List ScriptEvent). lived_with (but_last events) traffic) is);
      ends = is ∙ last.is ∙ ap (λ (events : List ScriptEvent). but_last events ++ last.last ∷ []) (sym is);
      sent = sent-so state front traffic (Some (record { event = last.last; answers = at.answers })) sent;
      left = at.left;
      serial = is-serial (record { events = first; stop = Some (record { event = last.last; answers = at.answers }) }) state may;
    }

module _ {D : Type 0} (shown : D → Option (List ℕ)) (may_leave : D → List ℕ → Type 0) where
  by-result : (state : State) (disk : D) (result : Result Served ServeError) (traffic : Traffic) (image : List ℕ) → MayBegin state
      → Serves shown may_leave (unheard state) disk result (Some traffic) → KeepsAnswered may_leave (unheard state) disk result (Some traffic) → may_leave disk image
      → IsIncarnation state result traffic image
  by-result state disk (Ok served) traffic image may serves keeps leaves =
      through-is state (Ok served) traffic image may refl refl serves.0 (keeps image leaves)
  by-result state disk (Err LinksFault) traffic image may serves keeps leaves =
      through-is state (Err LinksFault) traffic image may refl refl serves.0 (keeps image leaves)
  by-result state disk (Err NoMemory) traffic image may serves keeps leaves =
      through-is state (Err NoMemory) traffic image may refl refl serves.0 (keeps image leaves)
  by-result state disk (Err (Respond error)) traffic image may serves keeps leaves =
      stopped-is state error traffic image traffic.events refl may serves.0 (keeps image leaves)

  pub serving_incarnates : ServingIncarnates shown may_leave
  serving_incarnates state disk result None may serves keeps = absurd serves
  serving_incarnates state disk result (Some traffic) may serves keeps = λ image leaves. by-result state disk result traffic image may serves keeps leaves
