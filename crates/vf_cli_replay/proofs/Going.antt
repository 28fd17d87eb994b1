-- How events that come to a responder are joined with what comes next.
use Rattle.std.proofs.Common.{◌≡◌, ◌∙◌, ℕ, List, [], ◌∷◌, ◌++◌, Option, None, Some, Result, Ok, Err, IfOk, ap, append_assoc, append-nil, refl, subst, sym}
use Rattle.vf_base.specs.declared.events.ScriptEvent.{ScriptEvent}
use Rattle.vf_cli_script.specs.declared.line.Act.{Act}
use Rattle.vf_cli_script.specs.declared.line.LinkLine.{LinkLine}
use Rattle.vf_disk.specs.Memory.{Memory}
use Rattle.vf_responder.proofs.CommitLemmas.{made-join}
use Rattle.vf_responder.specs.Commits.{AreMade, Commit, commits_by}
use Rattle.vf_responder.specs.Serving.{Serving}
use Rattle.vf_store.specs.StoreState.{StoreState}
use Rattle.vf_cli_replay.proofs.Committed.{commits_append, commits_one}
use Rattle.vf_cli_replay.proofs.Serving.{brings_serves, course_runs}
use Rattle.vf_cli_replay.specs.Calls.{commits_in}
use Rattle.vf_cli_replay.specs.Running.{Brings, Comes, Course, Event, GoesAlong, Running, Speaks, answered, answered_if, events_by, events_of, no_course, then_on}
use Rattle.vf_cli_replay.specs.Standing.{HasCome, HasEnded, HasGone, HasHappened, Stands, tells}
use Rattle.vf_cli_replay.specs.declared.halt.Halt.{Halt}
use Rattle.vf_cli_replay.specs.declared.links.Links.{Links}

-- ---- COURSES
then_nothing : (first : Course) → then_on first (no_course first.after) ≡ first
then_nothing first = λ i. record { events = append-nil first.events i; lines = append-nil first.lines i; after = first.after }

then_joins : (one two three : Course) → then_on (then_on one two) three ≡ then_on one (then_on two three)
then_joins one two three = λ i. record {
  events = append_assoc one.events two.events three.events i;
  lines = append_assoc one.lines two.lines three.lines i;
  after = three.after;
}

pub goes_one : (running now : Running) (event : Event) (brought : Option ScriptEvent) → Brings running event now brought → GoesAlong running (event ∷ []) (answered_if now brought)
goes_one running now event brought brings =
    let first = answered_if now brought in
    (first, no_course first.after, ((now, brought, (brings, refl)), refl, sym (then_nothing first)))

pub goes_then : (running : Running) (first second : List Event) (one two : Course) → GoesAlong running first one → GoesAlong one.after second two
    → GoesAlong running (first ++ second) (then_on one two)
goes_then running [] second one two is later =
    (subst (λ (c : Course). GoesAlong c.after second two → GoesAlong running second (then_on c two)) (sym is) (λ (goes : GoesAlong running second two). goes)) later
goes_then running (event ∷ first) second one two goes later =
    let rest = goes_then goes.0.after first second goes.1 two goes.2.1 (subst (λ (c : Course). GoesAlong c.after second two) goes.2.2 later) in
    (goes.0, then_on goes.1 two, (goes.2.0, rest, ap (λ (c : Course). then_on c two) goes.2.2 ∙ then_joins goes.0 goes.1 two))

-- the commits of events that follow others
commits_then : (running : Running) (first : List Event) (one : Course) (later : List ScriptEvent) → GoesAlong running first one
    → commits_in running.serving (one.events ++ later) ≡ commits_in running.serving one.events ++ commits_in one.after.serving later
commits_then running first one later goes =
    commits_append one.events later running.serving ∙ ap (λ (s : Serving). commits_in running.serving one.events ++ commits_in s later) (sym (course_runs running first one goes))

-- ---- ONE EVENT
pub event_comes : (running now : Running) (event : Event) (brought : ScriptEvent) (text : List ℕ) (store : StoreState Memory) (links : Links) (text' : List ℕ) (halt : Option Halt)
    → Brings running event now (Some brought) → HasCome now brought text store links text' halt → HasHappened running (event ∷ []) text store links text' halt
event_comes running now event brought text store links text' None brings come = record {
  course = answered now brought;
  goes = goes_one running now event (Some brought) brings;
  lines = come.0;
  stands = come.1;
  made =
      subst (λ (l : List Commit). AreMade tells l store links.responder.store)
      (ap (commits_by brought) (brings_serves running event now (Some brought) brings) ∙ sym (commits_one brought running.serving)) come.2;
}
event_comes running now event brought text store links text' (Some halt) brings come = record {
  within = record { before = []; event = event; later = []; all_are = refl; course = no_course running; goes = refl; now = now; brought = brought; brings = brings };
  lines = come.0 ∙ sym (append-nil text);
  leaves = come.1;
  between = store;
  before = refl;
  halts = come.2;
}

-- with which nothing comes
pub nothing_comes : (running : Running) (event : Event) (text : List ℕ) (store : StoreState Memory) (links : Links) → Brings running event running None → Stands links running → links.responder.store ≡ store
    → HasGone running (event ∷ []) text store links text
nothing_comes running event text store links brings stands same = record {
  course = no_course running;
  goes = goes_one running running event None brings;
  lines = sym (append-nil text);
  stands = stands;
  made = same;
}

-- ---- MORE EVENTS
pub happens_then : (running : Running) (first second : List Event) (text : List ℕ) (store : StoreState Memory) (between links : Links) (text' text'' : List ℕ) (halt : Option Halt)
    → (gone : HasGone running first text store between text') → HasHappened gone.course.after second text' between.responder.store links text'' halt
    → HasHappened running (first ++ second) text store links text'' halt
happens_then running first second text store between links text' text'' None gone later = record {
  course = then_on gone.course later.course;
  goes = goes_then running first second gone.course later.course gone.goes later.goes;
  lines = later.lines ∙ ap (λ (t : List ℕ). t ++ later.course.lines) gone.lines ∙ append_assoc text gone.course.lines later.course.lines;
  stands = later.stands;
  made =
      subst (λ (l : List Commit). AreMade tells l store links.responder.store) (sym (commits_then running first gone.course later.course.events gone.goes))
      (made-join tells (commits_in running.serving gone.course.events) (commits_in gone.course.after.serving later.course.events) store between.responder.store links.responder.store gone.made later.made);
}
happens_then running first second text store between links text' text'' (Some halt) gone later =
    let within = later.within in
    record {
      within = record {
        before = first ++ within.before;
        event = within.event;
        later = within.later;
        all_are = ap (λ (l : List Event). first ++ l) within.all_are ∙ sym (append_assoc first within.before (within.event ∷ within.later));
        course = then_on gone.course within.course;
        goes = goes_then running first within.before gone.course within.course gone.goes within.goes;
        now = within.now;
        brought = within.brought;
        brings = within.brings;
      };
      lines = later.lines ∙ ap (λ (t : List ℕ). t ++ within.course.lines) gone.lines ∙ append_assoc text gone.course.lines within.course.lines;
      leaves = later.leaves;
      between = later.between;
      before =
          subst (λ (l : List Commit). AreMade tells l store later.between) (sym (commits_then running first gone.course within.course.events gone.goes))
          (made-join tells (commits_in running.serving gone.course.events) (commits_in gone.course.after.serving within.course.events) store between.responder.store later.between gone.made later.before);
      halts = later.halts;
    }

-- It ended before others came.
pub ended_before : (running : Running) (first second : List Event) (text : List ℕ) (store : StoreState Memory) (halt : Halt) (last : StoreState Memory) (text' : List ℕ)
    → HasEnded running first text store halt last text' → HasEnded running (first ++ second) text store halt last text'
ended_before running first second text store halt last text' ended =
    let within = ended.within in
    record {
      within = record {
        before = within.before;
        event = within.event;
        later = within.later ++ second;
        all_are = ap (λ (l : List Event). l ++ second) within.all_are ∙ append_assoc within.before (within.event ∷ within.later) second;
        course = within.course;
        goes = within.goes;
        now = within.now;
        brought = within.brought;
        brings = within.brings;
      };
      lines = ended.lines;
      leaves = ended.leaves;
      between = ended.between;
      before = ended.before;
      halts = ended.halts;
    }

-- ---- LINES
events_append : (first second : List LinkLine) → events_of (first ++ second) ≡ events_of first ++ events_of second
events_append [] second = refl
events_append (line ∷ first) second =
    ap (λ (l : List Event). events_by line.link line.act ++ l) (events_append first second) ∙ sym (append_assoc (events_by line.link line.act) (events_of first) (events_of second))

events_last : (lines : List LinkLine) (line : LinkLine) → events_of (lines ++ line ∷ []) ≡ events_of lines ++ events_by line.link line.act
events_last lines line = events_append lines (line ∷ []) ∙ ap (λ (l : List Event). events_of lines ++ l) (append-nil (events_by line.link line.act))

-- none has come yet,
pub none_gone : (running : Running) (text : List ℕ) (links : Links) → Stands links running → HasGone running (events_of []) text links.responder.store links text
none_gone running text links stands = record { course = no_course running; goes = refl; lines = sym (append-nil text); stands = stands; made = refl }

-- one line more,
pub line_gone : (running : Running) (before : List LinkLine) (line : LinkLine) (text : List ℕ) (store : StoreState Memory) (between links : Links) (text' text'' : List ℕ)
    → (gone : HasGone running (events_of before) text store between text') → HasHappened gone.course.after (events_by line.link line.act) text' between.responder.store links text'' None
    → HasGone running (events_of (before ++ line ∷ [])) text store links text''
line_gone running before line text store between links text' text'' gone later =
    subst (λ (l : List Event). HasGone running l text store links text'') (sym (events_last before line))
    (happens_then running (events_of before) (events_by line.link line.act) text store between links text' text'' None gone later)

-- and one within which it ended
pub line_ended : (running : Running) (before : List LinkLine) (line : LinkLine) (later : List LinkLine) (text : List ℕ) (store : StoreState Memory) (between links : Links) (text' text'' : List ℕ) (halt : Halt)
    → (gone : HasGone running (events_of before) text store between text') → HasHappened gone.course.after (events_by line.link line.act) text' between.responder.store links text'' (Some halt)
    → HasEnded running (events_of (before ++ line ∷ later)) text store halt links.responder.store text''
line_ended running before line later text store between links text' text'' halt gone ended =
    let one = happens_then running (events_of before) (events_by line.link line.act) text store between links text' text'' (Some halt) gone ended in
    let all : events_of (before ++ line ∷ later) ≡ (events_of before ++ events_by line.link line.act) ++ events_of later =
    events_append before (line ∷ later) ∙ sym (append_assoc (events_of before) (events_by line.link line.act) (events_of later)) in
    subst (λ (l : List Event). HasEnded running l text store halt links.responder.store text'') (sym all)
    (ended_before running (events_of before ++ events_by line.link line.act) (events_of later) text store halt links.responder.store text'' one)

-- ---- WHAT A LINE has happen, by what it is
module _ {E : Type 0} (running : Running) (link : ℕ) (text : List ℕ) (store : StoreState Memory) (links : Links) (text' : List ℕ) (answer : Result (Option Halt) E) where
  abbrev pub Happens : List Event → Type 0
  Happens all = IfOk answer (HasHappened running all text store links text')

  pub line_happens : (act act' : Act) → act ≡ act' → Happens (events_by link act') → Happens (events_by link act)
  line_happens act act' is happens = subst (λ (a : Act). Happens (events_by link a)) (sym is) happens

  -- one event comes
  pub line_comes : (event : ScriptEvent) → IfOk answer (HasCome running event text store links text') → Happens (Comes event ∷ [])
  line_comes event come = by answer come
    where
      by : (answer : Result (Option Halt) E) → IfOk answer (HasCome running event text store links text') → IfOk answer (HasHappened running (Comes event ∷ []) text store links text')
      by (Ok halt) come = event_comes running running (Comes event) event text store links text' halt (refl, refl) come
      by (Err error) come = tt

  -- a calling end says something
  pub line_says : (act act' : Act) → act ≡ act' → events_by link act' ≡ Speaks link act' ∷ [] → Happens (Speaks link act ∷ []) → Happens (events_by link act)
  line_says act act' is one happens = line_happens act act' is (subst Happens (sym one) (subst (λ (a : Act). Happens (Speaks link a ∷ [])) is happens))
