-- A link that arrives, a file that is made on it, and files that are made one after another.
use Rattle.std.proofs.Common.{◌≡◌, ◌∙◌, ℕ, suc, ◌+◌, ◌<◌, ◌≤◌, add-one, le_trans, List, [], ◌∷◌, ◌++◌, Option, Ok, Err, OnOk, inl, inr, ⊎_elim, ap, append-nil, refl, sym, subst, arith}
use Rattle.vf_base.specs.declared.events.ScriptEvent.{ScriptEvent}
use Rattle.vf_base.specs.declared.events.ScriptEvent.TheVariants.{Arrived}
use Rattle.vf_disk.proofs.Runs.{weaker}
use Rattle.vf_disk.specs.Disk.{LeavesOnly}
use Rattle.vf_journal.specs.declared.error.JournalError.{JournalError}
use Rattle.vf_responder.specs.Along.{RepresentsAlong}
use Rattle.vf_responder.specs.Answers.{at_end}
use Rattle.vf_responder.proofs.FullLemmas.{full-to}
use Rattle.vf_responder.specs.Full.{AtFull, IsFullAt, WhereFull}
use Rattle.vf_responder.specs.Represents.{Kept, Represents}
use Rattle.vf_responder.specs.Run.{trail}
use Rattle.vf_responder.specs.Serving.{Serving}
use Rattle.vf_stack.specs.Represents as stacks
use Rattle.vf_stack.specs.declared.request.Request.{Request}
use Rattle.vf_responder.specs.Serving.{IsBegun}
use Rattle.vf_store.proofs.Runs.{represented}
use Rattle.vf_store.specs.Represented.{Represents as ImageRepresents}
use Rattle.vf_store.specs.StoreState.{IsRepresented}
use Rattle.vf_tables.specs.declared.tables.Tables.{Tables}
use Rattle.vf_tpkt.specs.Tpdu.{packet, request}
use Rattle.vf_cli_generate.proofs.Going.{map_ok, goes_by, goes_event, goes_nowhere, goes_then}
use Rattle.vf_cli_generate.proofs.Saying.{front_none}
use Rattle.vf_cli_generate.specs.Drawing.{after_files, contents_after, name_of}
use Rattle.vf_cli_generate.specs.Generating.{AlongFront, Answer, ArrivalFront, Both, FrontOfFile, FrontOfFiles, Goes, HasCalled, HasSaid, IsCalling, IsFullOf, MakesFile, MakesFiles, MakesWell, SaysFront, arrivals, arrived, coming, good}
use Rattle.vf_cli_generate.specs.Requests.{requests_for}

-- ---- COUNTS, apart from the large facts beside which they are needed
none_at_most : (count : ℕ) → 0 ≤ count
none_at_most count = omega arith

at_most_next : (count : ℕ) → count ≤ suc count
at_most_next count = omega arith

pub next_within : (made count : ℕ) → made < count → made + 1 ≤ count
next_within made count less = omega arith

-- ---- A LINK has arrived, and nothing has come on it.
abbrev pub HasCome : (link : ℕ) → Serving → List ScriptEvent → Serving → Type 0
HasCome link serving events serving' = (events ≡ Arrived link ∷ []) × (serving' ≡ at_end serving (trail (Arrived link) serving))

pub arrival_is_front : (number link : ℕ) (serving : Serving) (events : List ScriptEvent) → ArrivalFront link events → FrontOfFile number link serving events
arrival_is_front number link serving events front =
    ⊎_elim (λ none. inl none) (λ some. ⊎_elim (λ one. inr (inl one))
    (λ both. inr (inr ([], (front_none link (requests_for (name_of link) (contents_after number)) (arrived link serving), both ∙ sym (append-nil (arrivals link)))))) some) front

module _ {D : Type 0} (shown : D → Option (List ℕ)) (may_leave : D → List ℕ → Type 0) (moment : D → ℕ) (left_since : D → ℕ → List ℕ → Type 0) where
  pub goes_come : (link : ℕ) (serving : Serving) (old new : Kept D) (answer : Answer) → LeavesOnly moment left_since old.store.disk new.store.disk (RepresentsAlong serving (trail (Arrived link) serving))
      → WhereFull answer (λ place. IsFullAt (trail (Arrived link) serving) serving new.store place) → OnOk answer (Represents new (at_end serving (trail (Arrived link) serving))) → OnOk answer (IsRepresented shown may_leave new.store)
      → Goes shown may_leave moment left_since (HasCome link serving) (ArrivalFront link) serving old new answer
  goes_come link serving old new answer run_on full represents stands =
      goes_event shown may_leave moment left_since (Arrived link) (HasCome link serving) (ArrivalFront link) serving old new answer (map_ok answer _ _ (λ made. (refl, refl)) represents) (inr (inl refl))
      run_on full represents stands

  pub goes_called : (link : ℕ) (serving : Serving) (old mid new : Kept D) (stack : stacks.Kept) (answer : Answer)
      → Goes shown may_leave moment left_since (HasCome link serving) (ArrivalFront link) serving old mid good
      → (let come = at_end serving (trail (Arrived link) serving) in
      LeavesOnly moment left_since mid.store.disk new.store.disk (RepresentsAlong come (trail (coming link (packet request)) come)))
      → (let come = at_end serving (trail (Arrived link) serving) in WhereFull answer (λ place. IsFullAt (trail (coming link (packet request)) come) come new.store place))
      → OnOk answer (Represents new (arrived link serving).serving) → OnOk answer (IsCalling stack (arrived link serving).calling) → OnOk answer (IsRepresented shown may_leave new.store)
      → Goes shown may_leave moment left_since (HasCalled link serving stack) (ArrivalFront link) serving old new answer
  goes_called link serving old mid new stack answer first run_on full represents is stands =
      let come : Serving = at_end serving (trail (Arrived link) serving) in
      let there : Goes shown may_leave moment left_since (λ later serving'. HasCalled link serving stack (Arrived link ∷ later) serving') (λ later. ArrivalFront link (Arrived link ∷ later)) come mid new answer =
      goes_event shown may_leave moment left_since (coming link (packet request)) (λ later serving'. HasCalled link serving stack (Arrived link ∷ later) serving')
      (λ later. ArrivalFront link (Arrived link ∷ later)) come mid new answer (map_ok answer _ _ (λ calls. (refl, refl, calls)) is) (inr (inr refl)) run_on full represents stands in
      goes_then shown may_leave moment left_since (HasCome link serving) (HasCalled link serving stack) (ArrivalFront link) (ArrivalFront link) serving old mid new answer first
      (λ events between has represented standing.
      subst (λ (e : List ScriptEvent). Goes shown may_leave moment left_since (λ later serving'. HasCalled link serving stack (e ++ later) serving') (λ later. ArrivalFront link (e ++ later)) between mid new answer)
      (sym has.0)
      (subst (λ (s : Serving). Goes shown may_leave moment left_since (λ later serving'. HasCalled link serving stack (Arrived link ∷ later) serving') (λ later. ArrivalFront link (Arrived link ∷ later)) s mid new answer)
      (sym has.1) there))
      (λ events front. front)

  -- all of a file on a link that has arrived
  pub goes_file : (number link other : ℕ) (requests : List Request) (serving : Serving) (old mid new : Kept D) (stack stack' : stacks.Kept) (answer : Answer) → other ≡ link
      → requests ≡ requests_for (name_of link) (contents_after number)
      → Goes shown may_leave moment left_since (HasCalled link serving stack) (ArrivalFront link) serving old mid good
      → ((both : Both) → Represents mid both.serving → IsCalling stack both.calling → IsRepresented shown may_leave mid.store
      → Goes shown may_leave moment left_since (HasSaid other requests both stack') (SaysFront other requests both) both.serving mid new answer)
      → Goes shown may_leave moment left_since (MakesFile number link serving) (FrontOfFile number link serving) serving old new answer
  goes_file number link other requests serving old mid new stack stack' answer same are first next =
      let all : List Request = requests_for (name_of link) (contents_after number) in
      let both : Both = arrived link serving in
      goes_then shown may_leave moment left_since (HasCalled link serving stack) (MakesFile number link serving) (ArrivalFront link) (FrontOfFile number link serving) serving old mid new answer first
      (λ events between has represents stands.
      let said : Goes shown may_leave moment left_since (HasSaid other requests both stack') (SaysFront other requests both) both.serving mid new answer =
      next both (subst (λ (s : Serving). Represents mid s) has.1 represents) has.2 stands in
      let here : Goes shown may_leave moment left_since (HasSaid link all both stack') (SaysFront link all both) both.serving mid new answer =
      subst (λ (l : ℕ). Goes shown may_leave moment left_since (HasSaid l all both stack') (SaysFront l all both) both.serving mid new answer) same
      (subst (λ (rs : List Request). Goes shown may_leave moment left_since (HasSaid other rs both stack') (SaysFront other rs both) both.serving mid new answer) are said) in
      let made : Goes shown may_leave moment left_since (λ later serving'. MakesFile number link serving (events ++ later) serving') (λ later. FrontOfFile number link serving (events ++ later)) both.serving mid new answer =
      goes_by shown may_leave moment left_since (HasSaid link all both stack') (λ later serving'. MakesFile number link serving (events ++ later) serving') (SaysFront link all both)
      (λ later. FrontOfFile number link serving (events ++ later)) both.serving mid new answer here
      (λ later serving' more. record {
        said = later;
        both = record { serving = serving'; calling = more.0 };
        says = more.1.0;
        events_are = ap (λ (e : List ScriptEvent). e ++ later) has.0;
        serving_is = refl;
      })
      (λ later front. inr (inr (later, (front, ap (λ (e : List ScriptEvent). e ++ later) has.0)))) in
      subst (λ (s : Serving). Goes shown may_leave moment left_since (λ later serving'. MakesFile number link serving (events ++ later) serving') (λ later. FrontOfFile number link serving (events ++ later)) s mid new answer)
      (sym has.1) made)
      (λ events front. arrival_is_front number link serving events front)

  -- no file yet, one more, and no more
  pub goes_no_file : ((disk : D) (image : List ℕ) → left_since disk (moment disk) image → may_leave disk image) → (number : ℕ) (serving : Serving) (old : Kept D) → Represents old serving
      → IsRepresented shown may_leave old.store → Goes shown may_leave moment left_since (MakesFiles number 0 serving) (FrontOfFiles number 0 serving) serving old old good
  goes_no_file only_now number serving old represents stands =
      goes_nowhere shown may_leave moment left_since only_now (MakesFiles number 0 serving) (FrontOfFiles number 0 serving) serving old (refl, refl)
      (0, [], [], serving, (none_at_most 0, (refl, refl), inl refl, refl)) represents stands

  more_files : (number made : ℕ) (serving : Serving) (old mid new : Kept D) (answer : Answer)
      → Goes shown may_leave moment left_since (MakesFiles number made serving) (FrontOfFiles number made serving) serving old mid good
      → ((between : Serving) → Represents mid between → IsRepresented shown may_leave mid.store
      → Goes shown may_leave moment left_since (MakesFile (after_files number made) (made + 1) between) (FrontOfFile (after_files number made) (made + 1) between) between mid new answer)
      → Goes shown may_leave moment left_since (MakesFiles number (suc made) serving) (FrontOfFiles number (suc made) serving) serving old new answer
  more_files number made serving old mid new answer first next =
      goes_then shown may_leave moment left_since (MakesFiles number made serving) (MakesFiles number (suc made) serving) (FrontOfFiles number made serving) (FrontOfFiles number (suc made) serving) serving old mid new
      answer first
      (λ events between all represents stands.
      goes_by shown may_leave moment left_since (MakesFile (after_files number made) (made + 1) between) (λ later serving'. MakesFiles number (suc made) serving (events ++ later) serving')
      (FrontOfFile (after_files number made) (made + 1) between) (λ later. FrontOfFiles number (suc made) serving (events ++ later)) between mid new answer (next between represents stands)
      (λ later serving' one. (events, later, between, (all, one, refl)))
      (λ later front. (made, events, later, between, (at_most_next made, all, front, refl))))
      (λ events front. (front.0, front.1, front.2, front.3, (le_trans front.4.0 (at_most_next made), front.4.1, front.4.2, front.4.3)))

  pub goes_one_file : (number made : ℕ) (serving : Serving) (old mid new : Kept D) (answer : Answer)
      → Goes shown may_leave moment left_since (MakesFiles number made serving) (FrontOfFiles number made serving) serving old mid good
      → ((between : Serving) → Represents mid between → IsRepresented shown may_leave mid.store
      → Goes shown may_leave moment left_since (MakesFile (after_files number made) (made + 1) between) (FrontOfFile (after_files number made) (made + 1) between) between mid new answer)
      → Goes shown may_leave moment left_since (MakesFiles number (made + 1) serving) (FrontOfFiles number (made + 1) serving) serving old new answer
  goes_one_file number made serving old mid new answer first next =
      subst (λ (n : ℕ). Goes shown may_leave moment left_since (MakesFiles number n serving) (FrontOfFiles number n serving) serving old new answer) (sym (add-one made))
      (more_files number made serving old mid new answer first next)

  pub goes_fewer : (number made count : ℕ) (serving : Serving) (old new : Kept D) (error : JournalError) → made ≤ count
      → LeavesOnly moment left_since old.store.disk new.store.disk (AlongFront (FrontOfFiles number made serving) serving)
      → AtFull error (IsFullOf (FrontOfFiles number made serving) serving new.store)
      → Goes shown may_leave moment left_since (MakesFiles number count serving) (FrontOfFiles number count serving) serving old new (let answer : Answer = Err error in answer)
  goes_fewer number made count serving old new error within run_on full = record {
    any_moment = weaker moment left_since old.store.disk new.store.disk (AlongFront (FrontOfFiles number made serving) serving) (AlongFront (FrontOfFiles number count serving) serving) run_on
        (λ image along. (along.0, (let front = along.1 in (front.0, front.1, front.2, front.3, (le_trans front.4.0 within, front.4.1, front.4.2, front.4.3))), along.2));
    full = full-to error (IsFullOf (FrontOfFiles number made serving) serving new.store) (IsFullOf (FrontOfFiles number count serving) serving new.store) full
        (λ place at. (at.0, at.1, (let front = at.2 in (front.0, front.1, front.2, front.3, (le_trans front.4.0 within, front.4.1, front.4.2, front.4.3))), at.3));
    done = tt;
  }

  -- all files were made, and the disk keeps the tables
  pub makes_well : (number count : ℕ) (serving : Serving) (old new : Kept D) (answer : Answer)
      → Goes shown may_leave moment left_since (MakesFiles number count serving) (FrontOfFiles number count serving) serving old new answer
      → MakesWell shown may_leave number count serving new.store.disk new.store.tables answer
  makes_well number count serving old new (Err error) goes = tt
  makes_well number count serving old new (Ok made) goes =
      let done = goes.done in
      let stands = done.2.3 in
      record {
        events = done.0;
        serving' = done.1;
        makes = done.2.0;
        runs = done.2.1;
        tables_are = sym done.2.2.tables;
        left = (stands.on.image, stands.on.shows, stands.on.synced, represented stands.on.image stands.records new.store.tables stands.making stands.on.holds);
      }

-- the numbers drawn for one file more
pub after_more : (number made : ℕ) → after_files number (made + 1) ≡ after_files number (suc made)
after_more number made = ap (after_files number) (add-one made)

-- an image that represents the tables with which the responder begins
pub at_first : (number count : ℕ) (serving : Serving) (tables : Tables) (image : List ℕ) → IsBegun tables serving → ImageRepresents image tables → AlongFront (FrontOfFiles number count serving) serving image
at_first number count serving tables image begun represents =
    ([], (0, [], [], serving, (none_at_most count, (refl, refl), inl refl, refl)), (0, subst (λ (t : Tables). ImageRepresents image t) (sym begun.begins.kept) represents))
