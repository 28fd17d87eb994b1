-- What a life comes to, by how its events went.
use Rattle.std.proofs.Common.{◌≡◌, ◌∙◌, inl, inr, ℕ, Bool, List, [], ◌∷◌, ◌++◌, Option, None, Some, ap, append_assoc, refl, sym, subst}
use Rattle.std.specs.Prelude.{IsSome}
use Rattle.vf_base.specs.declared.events.ScriptEvent.{ScriptEvent}
use Rattle.vf_cli_script.specs.declared.line.Stop.{Stop}
use Rattle.vf_cli_script.specs.declared.script.Life.{Life}
use Rattle.vf_disk.specs.Memory.{Memory, state as state_of}
use Rattle.vf_disk.specs.Plans.{after_change}
use Rattle.vf_disk.specs.State.{State as DiskState, left_by as left_in, settled}
use Rattle.vf_disk.specs.Steps.{Ending, ending_of}
use Rattle.vf_filestore.specs.State.{State}
use Rattle.vf_filestore.specs.Tables.{tables_of}
use Rattle.vf_incarnations.specs.Incarnations.{left_by}
use Rattle.vf_journal.specs.JournalState.{JournalState}
use Rattle.vf_responder.specs.Answers.{at_end}
use Rattle.vf_responder.specs.Commits.{Commit, commits_by}
use Rattle.vf_responder.specs.Run.{run}
use Rattle.vf_responder.specs.Serving.{Serving, unheard}
use Rattle.vf_store.specs.Represented.{Represents}
use Rattle.vf_store.specs.StoreState.{StoreState}
use Rattle.vf_tables.specs.declared.tables.Tables.{Tables}
use Rattle.vf_cli_calling.specs.Lines.{stopped_line}
use Rattle.vf_cli_replay.proofs.Committed.{Comes, calls_same, commits_append, commits_one, halted_after, halted_comes, made_comes, outcome_at}
use Rattle.vf_cli_replay.proofs.Rows.{SameStop, behind_sync, ends_same}
use Rattle.vf_cli_replay.proofs.Serving.{last_serves, nothing_leaves, store_leaves, through_leaves, within_leaves}
use Rattle.vf_cli_replay.specs.Calls.{Calls, Outcome, Through, Stopped, calls_by, calls_of, commits_in, ending, form_by, left_after, outcome, outcome_by, plan_by}
use Rattle.vf_cli_replay.specs.Halting.{halt_line}
use Rattle.vf_cli_replay.specs.Living.{EndsBy, EndsWithin, GoesOn, Lived, Stops, ended_within, opened, stopped_at_once, through, with_last}
use Rattle.vf_cli_replay.specs.Running.{IsWithin, events_of}
use Rattle.vf_cli_replay.specs.Disks.{may_leave}
use Rattle.vf_cli_replay.specs.Standing.{Halted, HasEnded, HasGone, IsOpened, LivesOn}
use Rattle.vf_cli_replay.specs.declared.halt.Halt.{Halt}
use Rattle.vf_cli_replay.specs.declared.halt.Halt.TheVariants as halts
use Rattle.vf_cli_replay.specs.declared.links.Links.{Links}

-- ---- FROM THE OPENED STORE ON its calls are those of the whole incarnation behind the first.
pub none_fails : (stop : Option Stop) → (plan_by stop).numbers.failing ≡ []
none_fails None = refl
none_fails (Some stop) = refl

pub record HasComeTo (life : Life) (image : List ℕ) (state : State) (events : List ScriptEvent) (how : Outcome) (left : DiskState) : Type 0 where
  pub comes : outcome life image state events ≡ how
  pub leaves : left_after life image state events ≡ left_in (form_by life.stop) left

comes_to : (life : Life) (image : List ℕ) (state : State) (events : List ScriptEvent) (how : Outcome) (left : DiskState) (store : StoreState Memory) → IsOpened life image store
    → Comes (calls_by store.journal (commits_in (unheard state) events)) store.disk.plan (state_of store.disk) left how → HasComeTo life image state events how left
comes_to life image state events how left store opened come =
    let commits = commits_in (unheard state) events in
    let calls = calls_of life image state events in
    let plan = plan_by life.stop in
    let same : SameStop store.disk.plan (after_change plan) = record { none = opened.failing; other = none_fails life.stop; stop = opened.stop } in
    let are : calls_by store.journal commits ≡ calls = calls_same store.journal commits ∙ ap (λ (j : JournalState). calls_by j commits) opened.journal in
    let here : Comes calls store.disk.plan (settled image) left how =
    subst (λ (s : DiskState). Comes calls store.disk.plan s left how) opened.state (subst (λ (k : Calls). Comes k store.disk.plan (state_of store.disk) left how) are come) in
    let alike = ends_same calls.steps store.disk.plan (after_change plan) (settled image) same in
    let whole : ending life image state events ≡ ending_of calls.steps (after_change plan) (settled image) = behind_sync calls.steps plan (settled image) opened.goes in
    record {
      comes = ap (λ (e : Ending). outcome_by e.failed calls.full) whole ∙ ap (λ (b : Bool). outcome_by b calls.full) (sym alike.failed) ∙ here.outcome;
      leaves = ap (λ (e : Ending). left_in (form_by life.stop) e.state) whole ∙ ap (λ (s : DiskState). left_in (form_by life.stop) s) (sym alike.state ∙ here.leaves);
    }

-- with the event within which it ended
last_commits : (state : State) (life : Life) (within : IsWithin (opened state) (events_of life.lines))
    → commits_in (unheard state) (with_last within) ≡ commits_in (unheard state) within.course.events ++ commits_by within.brought within.now.serving
last_commits state life within =
    let before = commits_in (unheard state) within.course.events in
    commits_append within.course.events (within.brought ∷ []) (unheard state) ∙ ap (λ (l : List Commit). before ++ l) (commits_one within.brought (at_end (unheard state) (run within.course.events (unheard state))))
    ∙ ap (λ (s : Serving). before ++ commits_by within.brought s) (sym (last_serves state (events_of life.lines) within))

-- ---- all events were answered
goes_on : (stop : Option Stop) (life : Life) (image : List ℕ) (state : State) (lived : Lived) → GoesOn life image state lived → EndsBy stop life image state lived
goes_on None life image state lived goes = goes
goes_on (Some stop) life image state lived goes = inl goes

pub stops : (stop : Option Stop) (life : Life) (image : List ℕ) (state : State) (lived : Lived) → IsSome stop → Stops life image state lived → EndsBy stop life image state lived
stops None life image state lived asked it = absurd cc
stops (Some stop) life image state lived asked it = inr it

pub lives_through : (life : Life) (image : List ℕ) (state : State) (text text' : List ℕ) (store : StoreState Memory) (links : Links) → IsOpened life image store
    → HasGone (opened state) (events_of life.lines) text store links text' → LivesOn life image state text links.responder.store.disk text'
lives_through life image state text text' store links opened gone = record {
  each = λ left memory may is.
      let course = gone.course in
      let lived = through course (left_after life image state course.events) in
      let came = comes_to life image state course.events Through (state_of links.responder.store.disk) store opened
      (made_comes (commits_in (unheard state) course.events) store links.responder.store gone.made) in
      let here : left ≡ lived.left = is ∙ sym came.leaves in
      record {
        lived = lived;
        lives = record {
          ends = goes_on life.stop life image state lived (inl (course, (gone.goes, came.comes, refl)));
          represents =
              subst (λ (o : List ℕ). Represents o (tables_of (left_by lived.incarnation state))) here
              (subst (λ (t : Tables). Represents left t) (sym gone.stands.responder.tables ∙ sym (through_leaves state (events_of life.lines) course gone.goes))
              (store_leaves links.responder.store left gone.stands.stored may));
        };
        lines = gone.lines;
        leaves = sym here;
      };
}

-- ---- it ended within one
ends_so : (halt : Halt) (life : Life) (image : List ℕ) (state : State) (lived : Lived) → (halt ≡ halts.Stopped → IsSome life.stop) → EndsWithin (outcome_at halt) (halt_line halt) life image state lived
    → EndsBy life.stop life image state lived
ends_so halts.Stopped life image state lived asked ends = stops life.stop life image state lived (asked refl) (inr ends)
ends_so halts.Full life image state lived asked ends = goes_on life.stop life image state lived (inr ends)

pub lives_to_halt : (life : Life) (image : List ℕ) (state : State) (text text' text'' : List ℕ) (store : StoreState Memory) (halt : Halt) (last : StoreState Memory) → IsOpened life image store
    → HasEnded (opened state) (events_of life.lines) text store halt last text' → (halt ≡ halts.Stopped → IsSome life.stop) → text'' ≡ text' ++ halt_line halt
    → LivesOn life image state text last.disk text''
lives_to_halt life image state text text' text'' store halt last opened ended asked line = record {
  each = λ left memory may is.
      let within = ended.within in
      let along = ended.leaves.each left may in
      let lived = ended_within within along.0 (halt_line halt) (left_after life image state (with_last within)) in
      let first = commits_in (unheard state) within.course.events in
      let next = commits_by within.brought within.now.serving in
      let before = comes_to life image state within.course.events Through (state_of ended.between.disk) store opened (made_comes first store ended.between ended.before) in
      let halted : Halted halt (commits_in (unheard state) (with_last within)) store last =
      subst (λ (l : List Commit). Halted halt l store last) (sym (last_commits state life within)) (halted_after halt first next store ended.between last ended.before ended.halts) in
      let came = comes_to life image state (with_last within) (outcome_at halt) (state_of last.disk) store opened (halted_comes halt (commits_in (unheard state) (with_last within)) store last halted memory) in
      let here : left ≡ lived.left = is ∙ sym came.leaves in
      record {
        lived = lived;
        lives = record {
          ends = ends_so halt life image state lived asked (within, along.0, (before.comes, came.comes, refl));
          represents =
              subst (λ (o : List ℕ). Represents o (tables_of (left_by lived.incarnation state))) here
              (subst (λ (t : Tables). Represents left t) (sym (within_leaves state (events_of life.lines) within along.0)) along.1);
        };
        lines = line ∙ ap (λ (t : List ℕ). t ++ halt_line halt) ended.lines ∙ append_assoc text within.course.lines (halt_line halt);
        leaves = sym here;
      };
}

-- ---- or it stopped at the first call
pub lives_not : (life : Life) (image : List ℕ) (state : State) (text text' : List ℕ) (disk : Memory) → IsSome life.stop → outcome life image state [] ≡ Stopped
    → left_after life image state [] ≡ left_in (form_by life.stop) (state_of disk) → text' ≡ text ++ stopped_line
    → ((left : List ℕ) → may_leave disk left → Represents left (tables_of state)) → LivesOn life image state text disk text'
lives_not life image state text text' disk asked how same line leaves = record {
  each = λ left memory may is.
      let lived = stopped_at_once (left_after life image state []) in
      let here : left ≡ lived.left = is ∙ sym same in
      record {
        lived = lived;
        lives = record {
          ends = stops life.stop life image state lived asked (inl (how, refl));
          represents = subst (λ (o : List ℕ). Represents o (tables_of (left_by lived.incarnation state))) here (subst (λ (t : Tables). Represents left t) (sym (nothing_leaves state)) (leaves left may));
        };
        lines = line;
        leaves = sym here;
      };
}
