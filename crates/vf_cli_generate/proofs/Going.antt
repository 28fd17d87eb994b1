-- How what was done from a state of the run is joined with what is done next.
use Rattle.std.proofs.Common.{◌≡◌, ◌∙◌, ℕ, List, [], ◌∷◌, ◌++◌, Option, Ok, Err, IfErr, OnOk, ap, append_assoc, refl, sym, subst}
use Rattle.vf_base.specs.declared.events.ScriptEvent.{ScriptEvent}
use Rattle.vf_disk.proofs.Runs.{joined, weaker}
use Rattle.vf_disk.specs.Disk.{LeavesOnly}
use Rattle.vf_journal.specs.declared.error.JournalError.{JournalError}
use Rattle.vf_journal.specs.declared.error.JournalError.TheVariants.{NoMemory}
use Rattle.vf_responder.proofs.Alongside.{along_later}
use Rattle.vf_responder.proofs.FullLemmas.{full-to}
use Rattle.vf_responder.proofs.Lives.{end-append, run-append}
use Rattle.vf_responder.proofs.Rounds.{run_one}
use Rattle.vf_responder.proofs.StoreLemmas.{idle-along}
use Rattle.vf_responder.specs.Along.{RepresentsAlong}
use Rattle.vf_responder.specs.Answers.{Answer as Said, at_end}
use Rattle.vf_responder.specs.Full.{AtFull, IsFullAt, WhereFull}
use Rattle.vf_responder.specs.Represents.{Kept, Represents}
use Rattle.vf_responder.specs.Run.{run, trail}
use Rattle.vf_responder.specs.Serving.{Serving}
use Rattle.vf_store.specs.StoreState.{IsRepresented, StoreState}
use Rattle.vf_cli_generate.specs.Generating.{AlongFront, Answer, Goes, IsFullOf, good}

further : (serving between : Serving) (events later : List ScriptEvent) (image : List ℕ) → between ≡ at_end serving (run events serving)
    → RepresentsAlong between (run later between) image → RepresentsAlong serving (run (events ++ later) serving) image
further serving between events later image is along =
    subst (λ (answers : List Said). RepresentsAlong serving answers image) (sym (run-append events later serving))
    (along_later serving (run events serving) (run later (at_end serving (run events serving))) image
    (subst (λ (s : Serving). RepresentsAlong s (run later s) image) is along))

runs_on : (serving between serving' : Serving) (events later : List ScriptEvent) → between ≡ at_end serving (run events serving) → serving' ≡ at_end between (run later between)
    → serving' ≡ at_end serving (run (events ++ later) serving)
runs_on serving between serving' events later is then = then ∙ ap (λ (s : Serving). at_end s (run later s)) is ∙ sym (end-append events later serving)

pub ok_of : (answer : Answer) (P : Type 0) → P → OnOk answer P
ok_of (Ok done) P holds = holds
ok_of (Err error) P holds = tt

pub map_ok : (answer : Answer) (P Q : Type 0) → (P → Q) → OnOk answer P → OnOk answer Q
map_ok (Ok done) P Q by holds = by holds
map_ok (Err error) P Q by holds = tt

-- ---- where a full store is told

pub where_full_to : (answer : Answer) (holds others : ℕ → Type 0) → WhereFull answer holds → ((place : ℕ) → holds place → others place) → WhereFull answer others
where_full_to (Ok done) holds others full to = tt
where_full_to (Err error) holds others full to = full-to error holds others full to

-- an answer by which memory alone may be wanting
pub where_none_full : (answer : Answer) (holds : ℕ → Type 0) → IfErr answer (λ error. error ≡ NoMemory) → WhereFull answer holds
where_none_full (Ok done) holds is = tt
where_none_full (Err error) holds is = subst (λ (e : JournalError). AtFull e holds) (sym is) tt

-- in an event after others
full_later : {D : Type 0} (Front : List ScriptEvent → Type 0) (serving between : Serving) (events : List ScriptEvent) (store : StoreState D) (place : ℕ) → between ≡ at_end serving (run events serving)
    → IsFullOf (λ later. Front (events ++ later)) between store place → IsFullOf Front serving store place
full_later Front serving between events store place is full = (
  events ++ full.0,
  full.1,
  subst Front (sym (append_assoc events full.0 (full.1 ∷ []))) full.2,
  record { now = full.3.now; reached = runs_on serving between full.3.now events full.0 is full.3.reached; full = full.3.full },
)

-- in the first event
pub full_now : {D : Type 0} (event : ScriptEvent) (Front : List ScriptEvent → Type 0) (serving : Serving) (store : StoreState D) (answer : Answer) → Front (event ∷ [])
    → WhereFull answer (λ place. IsFullAt (trail event serving) serving store place) → WhereFull answer (IsFullOf Front serving store)
full_now event Front serving store answer one full =
    where_full_to answer (λ place. IsFullAt (trail event serving) serving store place) (IsFullOf Front serving store) full
    (λ place at. ([], event, one, record { now = serving; reached = refl; full = at }))

module _ {D : Type 0} (shown : D → Option (List ℕ)) (may_leave : D → List ℕ → Type 0) (moment : D → ℕ) (left_since : D → ℕ → List ℕ → Type 0) where
  -- no call of the disk was made
  pub stays : ((disk : D) (image : List ℕ) → left_since disk (moment disk) image → may_leave disk image) → (Front : List ScriptEvent → Type 0) (serving : Serving) (old : Kept D) → Front []
      → Represents old serving → IsRepresented shown may_leave old.store → LeavesOnly moment left_since old.store.disk old.store.disk (AlongFront Front serving)
  stays only_now Front serving old none represents stands =
      weaker moment left_since old.store.disk old.store.disk (RepresentsAlong serving []) (AlongFront Front serving)
      (idle-along shown may_leave moment left_since only_now old.store serving [] stands represents.tables)
      (λ image along. ([], none, along))

  -- one event was answered
  pub one_along : (event : ScriptEvent) (Front : List ScriptEvent → Type 0) (serving : Serving) (old new : Kept D) → Front (event ∷ [])
      → LeavesOnly moment left_since old.store.disk new.store.disk (RepresentsAlong serving (trail event serving)) → LeavesOnly moment left_since old.store.disk new.store.disk (AlongFront Front serving)
  one_along event Front serving old new one run_on =
      weaker moment left_since old.store.disk new.store.disk (RepresentsAlong serving (trail event serving)) (AlongFront Front serving) run_on
      (λ image along. (event ∷ [], one, subst (λ (answers : List Said). RepresentsAlong serving answers image) (sym (run_one event serving)) along))

  -- less is said of what was done
  pub goes_by : (First Done : List ScriptEvent → Serving → Type 0) (Start Front : List ScriptEvent → Type 0) (serving : Serving) (old new : Kept D) (answer : Answer)
      → Goes shown may_leave moment left_since First Start serving old new answer → ((events : List ScriptEvent) (later : Serving) → First events later → Done events later)
      → ((events : List ScriptEvent) → Start events → Front events) → Goes shown may_leave moment left_since Done Front serving old new answer
  goes_by First Done Start Front serving old new answer goes done front = record {
    any_moment = weaker moment left_since old.store.disk new.store.disk (AlongFront Start serving) (AlongFront Front serving) goes.any_moment (λ image along. (along.0, front along.0 along.1, along.2));
    full = where_full_to answer (IsFullOf Start serving new.store) (IsFullOf Front serving new.store) goes.full
        (λ place at. (at.0, at.1, front (at.0 ++ at.1 ∷ []) at.2, at.3));
    done = map_ok answer _ _ (λ d. (d.0, d.1, (done d.0 d.1 d.2.0, d.2.1, d.2.2, d.2.3))) goes.done;
  }

  -- something was done, and then more
  pub goes_then : (First Done : List ScriptEvent → Serving → Type 0) (Start Front : List ScriptEvent → Type 0) (serving : Serving) (old mid new : Kept D) (answer : Answer)
      → Goes shown may_leave moment left_since First Start serving old mid good
      → ((events : List ScriptEvent) (between : Serving) → First events between → Represents mid between → IsRepresented shown may_leave mid.store
      → Goes shown may_leave moment left_since (λ later serving'. Done (events ++ later) serving') (λ later. Front (events ++ later)) between mid new answer)
      → ((events : List ScriptEvent) → Start events → Front events) → Goes shown may_leave moment left_since Done Front serving old new answer
  goes_then First Done Start Front serving old mid new answer first next front =
      let events : List ScriptEvent = first.done.0 in
      let between : Serving = first.done.1 in
      let at = first.done.2 in
      let second : Goes shown may_leave moment left_since (λ later serving'. Done (events ++ later) serving') (λ later. Front (events ++ later)) between mid new answer = next events between at.0 at.2 at.3 in
      record {
        any_moment = joined moment left_since old.store.disk mid.store.disk new.store.disk (AlongFront Start serving) (AlongFront (λ later. Front (events ++ later)) between) (AlongFront Front serving)
            first.any_moment second.any_moment (λ image along. (along.0, front along.0 along.1, along.2))
            (λ image along. (events ++ along.0, along.1, further serving between events along.0 image at.1 along.2));
        full = where_full_to answer (IsFullOf (λ later. Front (events ++ later)) between new.store) (IsFullOf Front serving new.store) second.full
            (λ place there. full_later Front serving between events new.store place at.1 there);
        done = map_ok answer _ _ (λ d. (events ++ d.0, d.1, (d.2.0, runs_on serving between d.1 events d.0 at.1 d.2.1, d.2.2, d.2.3))) second.done;
      }

  pub goes_stops : (First Done : List ScriptEvent → Serving → Type 0) (Start Front : List ScriptEvent → Type 0) (serving : Serving) (old new : Kept D) (error : JournalError)
      → Goes shown may_leave moment left_since First Start serving old new (let answer : Answer = Err error in answer) → ((events : List ScriptEvent) → Start events → Front events)
      → Goes shown may_leave moment left_since Done Front serving old new (let answer : Answer = Err error in answer)
  goes_stops First Done Start Front serving old new error goes front = record {
    any_moment = weaker moment left_since old.store.disk new.store.disk (AlongFront Start serving) (AlongFront Front serving) goes.any_moment (λ image along. (along.0, front along.0 along.1, along.2));
    full = full-to error (IsFullOf Start serving new.store) (IsFullOf Front serving new.store) goes.full
        (λ place at. (at.0, at.1, front (at.0 ++ at.1 ∷ []) at.2, at.3));
    done = tt;
  }

  -- it couldn't go on
  pub goes_no_further : (Done : List ScriptEvent → Serving → Type 0) (Front : List ScriptEvent → Type 0) (serving : Serving) (old new : Kept D) (error : JournalError)
      → LeavesOnly moment left_since old.store.disk new.store.disk (AlongFront Front serving) → AtFull error (IsFullOf Front serving new.store)
      → Goes shown may_leave moment left_since Done Front serving old new (let answer : Answer = Err error in answer)
  goes_no_further Done Front serving old new error run_on full = record { any_moment = run_on; full = full; done = tt }

  -- nothing is to be done
  pub goes_nowhere : ((disk : D) (image : List ℕ) → left_since disk (moment disk) image → may_leave disk image) → (Done : List ScriptEvent → Serving → Type 0) (Front : List ScriptEvent → Type 0)
      (serving : Serving) (old : Kept D) → Done [] serving → Front [] → Represents old serving → IsRepresented shown may_leave old.store → Goes shown may_leave moment left_since Done Front serving old old good
  goes_nowhere only_now Done Front serving old done none represents stands = record {
    any_moment = stays only_now Front serving old none represents stands;
    full = tt;
    done = ([], serving, (done, refl, represents, stands));
  }

  -- an event was answered, or the responder couldn't go on with it
  pub goes_event : (event : ScriptEvent) (Done : List ScriptEvent → Serving → Type 0) (Front : List ScriptEvent → Type 0) (serving : Serving) (old new : Kept D) (answer : Answer)
      → OnOk answer (Done (event ∷ []) (at_end serving (trail event serving))) → Front (event ∷ [])
      → LeavesOnly moment left_since old.store.disk new.store.disk (RepresentsAlong serving (trail event serving))
      → WhereFull answer (λ place. IsFullAt (trail event serving) serving new.store place)
      → OnOk answer (Represents new (at_end serving (trail event serving))) → OnOk answer (IsRepresented shown may_leave new.store) → Goes shown may_leave moment left_since Done Front serving old new answer
  goes_event event Done Front serving old new (Err error) done one run_on full represents stands =
      goes_no_further Done Front serving old new error (one_along event Front serving old new one run_on) (full_now event Front serving new.store (Err error) one full)
  goes_event event Done Front serving old new (Ok made) done one run_on full represents stands = record {
    any_moment = one_along event Front serving old new one run_on;
    full = tt;
    done = (event ∷ [], at_end serving (trail event serving), (done, ap (at_end serving) (sym (run_one event serving)), represents, stands));
  }
