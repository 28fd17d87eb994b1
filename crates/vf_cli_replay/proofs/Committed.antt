-- How far commits come that were made, one after another, on a disk in memory.
use Rattle.std.proofs.Common.{◌≡◌, ◌∙◌, ℕ, ◌<◌, ◌≤◌, nat_lt, Bool, true, false, cond, List, [], ◌∷◌, ◌++◌, Option, None, Some, ap, append_assoc, append-nil, refl, sym, subst, arith}
use Rattle.std.proofs.lemmas.Bool.Decides.{nat_tests}
use Rattle.vf_base.specs.declared.events.ScriptEvent.{ScriptEvent}
use Rattle.vf_disk.specs.Memory.{Memory, state as state_of}
use Rattle.vf_disk.specs.Plans.{StopPlan}
use Rattle.vf_disk.specs.State.{State as DiskState}
use Rattle.vf_disk.specs.Steps.{Ending, ending_of}
use Rattle.vf_disk.specs.declared.step.Step.{Step}
use Rattle.vf_journal.specs.JournalState.{JournalState, after_append}
use Rattle.vf_journal.specs.declared.error.JournalError.TheVariants.{DiskFault, Full}
use Rattle.vf_responder.proofs.ChainLemmas.{at_end-join}
use Rattle.vf_responder.proofs.CommitLemmas.{up-after}
use Rattle.vf_responder.specs.Answers.{at_end}
use Rattle.vf_responder.specs.Commits.{AreMade, Commit, IsMade, IsNext, commits_by}
use Rattle.vf_responder.specs.Run.{run, trail}
use Rattle.vf_responder.specs.Serving.{Serving}
use Rattle.vf_store.specs.Commit.{after_commit, after_move, area_planned, commit_steps, placed, written_steps}
use Rattle.vf_store.specs.StoreState.{StoreState}
use Rattle.vf_cli_replay.proofs.Rows.{fell, row_fails, row_then, went}
use Rattle.vf_cli_replay.specs.Calls.{Calls, Outcome, Through, Stopped, Filled, calls_by, commits_in, outcome_by, then_calls}
use Rattle.vf_cli_replay.specs.Standing.{Halted, tells}
use Rattle.vf_cli_replay.specs.declared.halt.Halt.{Halt}
use Rattle.vf_cli_replay.specs.declared.halt.Halt.TheVariants as halts

-- ---- THE CALLS of a commit and of those behind it
not_past : (limit end : ℕ) → end ≤ limit → nat_lt limit end ≡ false
not_past limit end within = grind (arith, nat_tests)

is_past : (limit end : ℕ) → limit < end → nat_lt limit end ≡ true
is_past limit end past = grind (arith, nat_tests)

abbrev none_more : Calls
none_more = record { steps = []; full = true }

abbrev calls_on : JournalState → Commit → List Commit → Calls
calls_on journal commit later = then_calls (commit_steps journal commit.tables commit.changes) (calls_by (after_commit journal commit.tables commit.changes) later)

calls_go : (journal : JournalState) (commit : Commit) (later : List Commit) → (placed journal commit.tables commit.changes).end ≤ journal.limit
    → calls_by journal (commit ∷ later) ≡ calls_on journal commit later
calls_go journal commit later within =
    ap (λ (b : Bool). cond b none_more (calls_on journal commit later)) (not_past journal.limit (placed journal commit.tables commit.changes).end within)

calls_end : (journal : JournalState) (commit : Commit) (later : List Commit) → journal.limit < (placed journal commit.tables commit.changes).end → calls_by journal (commit ∷ later) ≡ none_more
calls_end journal commit later past =
    ap (λ (b : Bool). cond b none_more (calls_on journal commit later)) (is_past journal.limit (placed journal commit.tables commit.changes).end past)

-- An area that was prepared for a switch changes nothing of them.
abbrev pub unprepared : JournalState → JournalState
unprepared journal = record journal { prepared = None }

steps_same : (journal : JournalState) (area : Option (List ℕ)) (entry : List ℕ) → written_steps journal area entry ≡ written_steps (unprepared journal) area entry
steps_same journal None entry = refl
steps_same journal (Some area) entry = refl

after_same : (journal : JournalState) (area : Option (List ℕ)) (count : ℕ) → after_append (after_move journal area) count ≡ after_append (after_move (unprepared journal) area) count
after_same journal None count = refl
after_same journal (Some area) count = refl

pub calls_same : (journal : JournalState) (commits : List Commit) → calls_by journal commits ≡ calls_by (unprepared journal) commits
calls_same journal [] = refl
calls_same journal (commit ∷ later) =
    let area = area_planned commit.tables (placed journal commit.tables commit.changes).switch in
    let steps : commit_steps journal commit.tables commit.changes ≡ commit_steps (unprepared journal) commit.tables commit.changes = steps_same journal area _ in
    let next : after_commit journal commit.tables commit.changes ≡ after_commit (unprepared journal) commit.tables commit.changes = after_same journal area _ in
    ap (λ (calls : Calls). cond (nat_lt journal.limit (placed journal commit.tables commit.changes).end) none_more calls)
    (ap (λ (l : List Step). then_calls l (calls_by (after_commit journal commit.tables commit.changes) later)) steps
    ∙ ap (λ (j : JournalState). then_calls (commit_steps (unprepared journal) commit.tables commit.changes) (calls_by j later)) next)

-- ---- HOW FAR THEY COME from some plan and state on, and the state that they leave
pub record Comes (calls : Calls) (plan : StopPlan) (state left : DiskState) (how : Outcome) : Type 0 where
  pub outcome : outcome_by (ending_of calls.steps plan state).failed calls.full ≡ how
  pub leaves : (ending_of calls.steps plan state).state ≡ left

abbrev ComesOn : List Commit → StoreState Memory → DiskState → Outcome → Type 0
ComesOn commits store left how = Comes (calls_by store.journal commits) store.disk.plan (state_of store.disk) left how

comes_then : (steps : List Step) (rest : Calls) (plan plan' : StopPlan) (state state' left : DiskState) (how : Outcome) → (ending_of steps plan state).failed ≡ false
    → plan' ≡ (ending_of steps plan state).plan → state' ≡ (ending_of steps plan state).state → Comes rest plan' state' left how → Comes (then_calls steps rest) plan state left how
comes_then steps rest plan plan' state state' left how goes next leaves come =
    let there : ending_of rest.steps plan' state' ≡ ending_of rest.steps (ending_of steps plan state).plan (ending_of steps plan state).state =
    λ i. ending_of rest.steps (next i) (leaves i) in
    let whole : ending_of (steps ++ rest.steps) plan state ≡ ending_of rest.steps plan' state' = row_then steps rest.steps plan state goes ∙ sym there in
    record { outcome = ap (λ (e : Ending). outcome_by e.failed rest.full) whole ∙ come.outcome; leaves = ap (λ (e : Ending). e.state) whole ∙ come.leaves }

-- one commit more
one_comes : (commit : Commit) (later : List Commit) (old mid : StoreState Memory) (left : DiskState) (how : Outcome) → IsMade tells commit old mid → ComesOn later mid left how → ComesOn (commit ∷ later) old left how
one_comes commit later old mid left how made come =
    let steps = commit_steps old.journal commit.tables commit.changes in
    let after = after_commit old.journal commit.tables commit.changes in
    let it = went steps old.disk.plan mid.disk.plan (state_of old.disk) (state_of mid.disk) old.disk.lacks mid.disk.lacks made.written.steps in
    let rest : Comes (calls_by after later) mid.disk.plan (state_of mid.disk) left how =
    subst (λ (j : JournalState). Comes (calls_by j later) mid.disk.plan (state_of mid.disk) left how) made.journal come in
    subst (λ (calls : Calls). Comes calls old.disk.plan (state_of old.disk) left how) (sym (calls_go old.journal commit later made.written.within))
    (comes_then steps (calls_by after later) old.disk.plan mid.disk.plan (state_of old.disk) (state_of mid.disk) left how it.goes it.next it.leaves rest)

-- ALL OF THEM were made,
pub made_comes : (commits : List Commit) (old new : StoreState Memory) → AreMade tells commits old new → ComesOn commits old (state_of new.disk) Through
made_comes [] old new is = record { outcome = refl; leaves = ap (λ (store : StoreState Memory). state_of store.disk) (sym is) }
made_comes (commit ∷ later) old new made = one_comes commit later old made.0 (state_of new.disk) Through made.1 (made_comes later made.0 new made.2)

-- or the first of them, and it ends so in the others
ends_comes : (made rest : List Commit) (old between : StoreState Memory) (left : DiskState) (how : Outcome) → AreMade tells made old between → ComesOn rest between left how → ComesOn (made ++ rest) old left how
ends_comes [] rest old between left how is come = subst (λ (store : StoreState Memory). ComesOn rest store left how) is come
ends_comes (commit ∷ made) rest old between left how first come =
    one_comes commit (made ++ rest) old first.0 left how first.1 (ends_comes made rest first.0 between left how first.2 come)

-- at a call that fails,
stop_comes : (rest : List Commit) (old new : StoreState Memory) → IsNext tells DiskFault rest old new → new.disk.lacks ≡ 0 → ComesOn rest old (state_of new.disk) Stopped
stop_comes [] old new next none = absurd next
stop_comes (commit ∷ later) old new next none =
    let steps = commit_steps old.journal commit.tables commit.changes in
    let rest = calls_by (after_commit old.journal commit.tables commit.changes) later in
    let it = fell steps old.disk.plan new.disk.plan (state_of old.disk) (state_of new.disk) old.disk.lacks new.disk.lacks next.steps none in
    let whole : ending_of (steps ++ rest.steps) old.disk.plan (state_of old.disk) ≡ ending_of steps old.disk.plan (state_of old.disk) =
    row_fails steps rest.steps old.disk.plan (state_of old.disk) it.fails in
    subst (λ (calls : Calls). Comes calls old.disk.plan (state_of old.disk) (state_of new.disk) Stopped) (sym (calls_go old.journal commit later next.within))
    (record {
      outcome = ap (λ (e : Ending). outcome_by e.failed rest.full) whole ∙ ap (λ (b : Bool). outcome_by b rest.full) it.fails;
      leaves = ap (λ (e : Ending). e.state) whole ∙ sym it.leaves;
    })

-- or at a record that would end past the limit
fill_comes : (rest : List Commit) (old new : StoreState Memory) (place limit : ℕ) → IsNext tells (Full place limit) rest old new → ComesOn rest old (state_of new.disk) Filled
fill_comes [] old new place limit next = absurd next
fill_comes (commit ∷ later) old new place limit next =
    let past : old.journal.limit < (placed old.journal commit.tables commit.changes).end = subst (λ (n : ℕ). old.journal.limit < n) next.2 next.3 in
    subst (λ (calls : Calls). Comes calls old.disk.plan (state_of old.disk) (state_of new.disk) Filled) (sym (calls_end old.journal commit later past))
    (record { outcome = refl; leaves = ap (λ (store : StoreState Memory). state_of store.disk) (sym next.0) })

abbrev pub outcome_at : Halt → Outcome
outcome_at halts.Stopped = Stopped
outcome_at halts.Full = Filled

pub halted_comes : (halt : Halt) (commits : List Commit) (old new : StoreState Memory) → Halted halt commits old new → new.disk.lacks ≡ 0 → ComesOn commits old (state_of new.disk) (outcome_at halt)
halted_comes halts.Stopped commits old new up none =
    subst (λ (l : List Commit). ComesOn l old (state_of new.disk) Stopped) (sym up.is)
    (ends_comes up.made up.rest old up.between (state_of new.disk) Stopped up.first (stop_comes up.rest up.between new up.next none))
halted_comes halts.Full commits old new (place, limit, up) none =
    subst (λ (l : List Commit). ComesOn l old (state_of new.disk) Filled) (sym up.is)
    (ends_comes up.made up.rest old up.between (state_of new.disk) Filled up.first (fill_comes up.rest up.between new place limit up.next))

-- behind others that were made
pub halted_after : (halt : Halt) (first next : List Commit) (old mid new : StoreState Memory) → AreMade tells first old mid → Halted halt next mid new → Halted halt (first ++ next) old new
halted_after halts.Stopped first next old mid new made up = up-after tells DiskFault first next old mid new made up
halted_after halts.Full first next old mid new made (place, limit, up) = (place, limit, up-after tells (Full place limit) first next old mid new made up)

-- ---- THE COMMITS of events, one after another
pub commits_append : (first later : List ScriptEvent) (serving : Serving) → commits_in serving (first ++ later) ≡ commits_in serving first ++ commits_in (at_end serving (run first serving)) later
commits_append [] later serving = refl
commits_append (event ∷ first) later serving =
    let one = trail event serving in
    let then = at_end serving one in
    let its = commits_by event serving in
    ap (λ (l : List Commit). its ++ l) (commits_append first later then) ∙ sym (append_assoc its (commits_in then first) (commits_in (at_end then (run first then)) later))
    ∙ ap (λ (s : Serving). (its ++ commits_in then first) ++ commits_in s later) (sym (at_end-join serving one (run first then)))

pub commits_one : (event : ScriptEvent) (serving : Serving) → commits_in serving (event ∷ []) ≡ commits_by event serving
commits_one event serving = append-nil (commits_by event serving)
