-- The responder's states while events come, and what its disk represents then.
use Rattle.std.proofs.Common.{◌≡◌, ◌∙◌, ℕ, List, [], ◌∷◌, ◌++◌, take, Option, None, Some, ap, append-nil, refl, subst, sym}
use Rattle.vf_base.specs.declared.events.ScriptEvent.{ScriptEvent}
use Rattle.vf_disk.proofs.Runs.{leaves_octets}
use Rattle.vf_disk.specs.Memory.{Memory}
use Rattle.vf_filestore.proofs.Kept.{stops_keep}
use Rattle.vf_filestore.specs.State.{State}
use Rattle.vf_filestore.specs.Tables.{tables_of}
use Rattle.vf_incarnations.specs.Incarnations.{left_by}
use Rattle.vf_responder.proofs.ChainLemmas.{at_end-join}
use Rattle.vf_responder.proofs.Lives.{end-append}
use Rattle.vf_responder.proofs.Rounds.{run_one}
use Rattle.vf_responder.specs.Answers.{Answer, at_end}
use Rattle.vf_responder.specs.Run.{after, run, tables_in, trail}
use Rattle.vf_responder.specs.Serving.{Serving, unheard}
use Rattle.vf_store.specs.Represented.{Represents}
use Rattle.vf_store.specs.StoreState.{IsRepresented, StoreState}
use Rattle.vf_cli_calling.specs.Calling.{Calling}
use Rattle.vf_cli_script.specs.declared.line.Act.{Act}
use Rattle.vf_cli_replay.specs.Living.{opened}
use Rattle.vf_cli_replay.specs.Running.{Begins, Brings, Comes, Course, Event, GoesAlong, IsWithin, Running, Speaks, Spoken, answered_if, end_on, no_course, then_on}
use Rattle.vf_cli_replay.specs.Disks.{may_leave, shown}

-- ---- WHAT COMES changes the calling ends alone.
spoken_serves : (running : Running) (link : ℕ) (act : Act) (caller : Option Calling) (now : Running) (brought : Option ScriptEvent) → Spoken running link act caller now brought → now.serving ≡ running.serving
spoken_serves running link act None now brought spoken = ap (λ (r : Running). r.serving) spoken.0
spoken_serves running link act (Some caller) now brought spoken = ap (λ (r : Running). r.serving) spoken.2.1

pub brings_serves : (running : Running) (event : Event) (now : Running) (brought : Option ScriptEvent) → Brings running event now brought → now.serving ≡ running.serving
brings_serves running (Comes event) now brought brings = ap (λ (r : Running). r.serving) brings.0
brings_serves running (Begins link sync) now brought brings = ap (λ (r : Running). r.serving) brings.0
brings_serves running (Speaks link act) now brought brings = spoken_serves running link act (end_on link running.ends) now brought brings

-- ---- A COURSE is a run of the responder.
abbrev Runs : Serving → Course → Type 0
Runs serving course = course.after.serving ≡ at_end serving (run course.events serving)

one_runs : (serving : Serving) (now : Running) (brought : Option ScriptEvent) → now.serving ≡ serving → Runs serving (answered_if now brought)
one_runs serving now None is = is
one_runs serving now (Some event) is = ap (λ (s : Serving). at_end s (trail event s)) is ∙ ap (at_end serving) (sym (run_one event serving))

then_runs : (serving : Serving) (first later : Course) → Runs serving first → Runs first.after.serving later → Runs serving (then_on first later)
then_runs serving first later one two = two ∙ ap (λ (s : Serving). at_end s (run later.events s)) one ∙ sym (end-append first.events later.events serving)

pub course_runs : (running : Running) (events : List Event) (course : Course) → GoesAlong running events course → Runs running.serving course
course_runs running [] course is = let none : Runs running.serving (no_course running) = refl in subst (Runs running.serving) (sym is) none
course_runs running (event ∷ events) course goes =
    let first = goes.0 in
    let here = goes.2.0 in
    let one : Runs running.serving first = subst (Runs running.serving) (sym here.2.1) (one_runs running.serving here.0 here.1 (brings_serves running event here.0 here.1 here.2.0)) in
    subst (Runs running.serving) (sym goes.2.2) (then_runs running.serving first goes.1 one (course_runs first.after events goes.1 goes.2.1))

-- ---- WHAT AN INCARNATION LEAVES keeps the tables of its last state.
pub through_leaves : (state : State) (events : List Event) (course : Course) → GoesAlong (opened state) events course
    → tables_of (left_by (record { events = course.events; stop = None }) state) ≡ tables_in course.after.serving
through_leaves state events course goes =
    let now = unheard state in
    let all = run course.events now in
    stops_keep (at_end now (all ++ [])).filestore ∙ ap (λ (l : List Answer). tables_in (at_end now l)) (append-nil all) ∙ ap tables_in (sym (course_runs (opened state) events course goes))

-- how it stands within one event more
pub last_serves : (state : State) (events : List Event) (within : IsWithin (opened state) events) → within.now.serving ≡ at_end (unheard state) (run within.course.events (unheard state))
last_serves state events within =
    brings_serves within.course.after within.event within.now (Some within.brought) within.brings ∙ course_runs (opened state) within.before within.course within.goes

pub within_leaves : (state : State) (events : List Event) (within : IsWithin (opened state) events) (count : ℕ)
    → tables_of (left_by (record { events = within.course.events; stop = Some (record { event = within.brought; answers = count }) }) state)
    ≡ tables_in (after count within.now.serving (trail within.brought within.now.serving))
within_leaves state events within count =
    let now = unheard state in
    let all = run within.course.events now in
    let last : Serving → List Answer = λ (s : Serving). take count (trail within.brought s) in
    let then : within.now.serving ≡ at_end now all = last_serves state events within in
    stops_keep (at_end now (all ++ last (at_end now all))).filestore ∙ ap tables_in (at_end-join now all (last (at_end now all)))
    ∙ ap (λ (s : Serving). tables_in (at_end s (last s))) (sym then)

pub nothing_leaves : (state : State) → tables_of (left_by (record { events = []; stop = None }) state) ≡ tables_of state
nothing_leaves state = stops_keep state

-- ---- A STORE that is represented leaves its tables.
pub store_leaves : (store : StoreState Memory) (image : List ℕ) → IsRepresented shown may_leave store → may_leave store.disk image → Represents image store.tables
store_leaves store image stands left =
    let is : stands.on.image ≡ image = sym (leaves_octets (shown store.disk) (may_leave store.disk) stands.on.image image stands.on.synced stands.on.shows left) in
    record { records = stands.records; holds = rw (← is) stands.on.holds; making = stands.making }
