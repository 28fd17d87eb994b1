-- How a life begins on a disk that keeps a state, and what a crash leaves at its end.
use Rattle.std.proofs.Common.{◌≡◌, ◌∙◌, ℕ, length, nat_lt, Bool, true, false, List, [], ◌∷◌, ◌++◌, Option, None, Some, Result, Ok, Err, IfOk, ap, arith, refl, sym, subst}
use Rattle.std.proofs.lemmas.Bool.Decides.{nat_tests}
use Rattle.std.proofs.lemmas.Option.{same_Some}
use Rattle.std.specs.Prelude.{IsSome}
use Rattle.vf_base.specs.declared.errors.NoMemory.{NoMemory as OutOfMemory}
use Rattle.vf_disk.specs.Calls.{SyncsAndLooks}
use Rattle.vf_disk.specs.Disk.{LeavesOnly, LeavesShown}
use Rattle.vf_disk.specs.Memory.{LeftSince, Memory, fresh, state as state_in}
use Rattle.vf_disk.specs.Plans.{StopPlan}
use Rattle.vf_disk.specs.State.{State as DiskState, left_by, settled}
use Rattle.vf_disk.specs.Steps.{Ending, LeavesState, ending_of, step_fails}
use Rattle.vf_disk.specs.declared.step.Step.TheVariants.{Synced}
use Rattle.vf_filestore.specs.State.{State}
use Rattle.vf_filestore.specs.Tables.{tables_of}
use Rattle.vf_journal.specs.Answers.{OpenCauses, is_fault}
use Rattle.vf_journal.specs.Image.{records_of}
use Rattle.vf_journal.specs.JournalState.{area_of, when_opened}
use Rattle.vf_journal.specs.Laws.{HeldIsRead}
use Rattle.vf_journal.specs.Layout.{selected_start, selects_second}
use Rattle.vf_journal.specs.declared.error.JournalError.{JournalError}
use Rattle.vf_journal.specs.declared.error.JournalError.TheVariants.{NotAStore, Full, DiskFault, NoMemory}
use Rattle.vf_store.specs.Represented.{Represents}
use Rattle.vf_store.specs.StoreState.{IsRepresented, StoreState}
use Rattle.vf_cli_script.specs.declared.line.Stop.{Stop}
use Rattle.vf_cli_script.specs.declared.script.Life.{Life}
use Rattle.vf_cli_replay.proofs.Delivering.{left_now}
use Rattle.vf_cli_replay.proofs.InARow.{crash_leaves}
use Rattle.vf_cli_replay.proofs.Lived.{lives_not, none_fails}
use Rattle.vf_cli_replay.proofs.Plans.{fails_at_once, opens_well, opens_with, plan_is, plan_of, stops_at_once}
use Rattle.vf_cli_replay.proofs.Rows.{at_sync, behind_sync, early}
use Rattle.vf_cli_replay.specs.Calls.{ending, form_by, outcome_by, plan_by}
use Rattle.vf_cli_replay.specs.Disks.{Keeps, may_leave, shown}
use Rattle.vf_cli_replay.specs.Halting.{halt_by, halt_line}
use Rattle.vf_cli_replay.specs.Standing.{HasLived, IsOpened, LivesOn, with_stop}
use Rattle.vf_cli_replay.specs.declared.halt.Halt.{Halt}
use Rattle.vf_cli_replay.specs.declared.halt.Halt.TheVariants as halts

-- ---- the disk with its stop
shown_by : (stop : Option Stop) (image : List ℕ) → shown (with_stop stop (fresh image [])) ≡ Some image
shown_by None image = refl
shown_by (Some stop) image = refl

left_by_stop : (stop : Option Stop) (disk : Memory) (image : List ℕ) → may_leave (with_stop stop disk) image → may_leave disk image
left_by_stop None disk image left = left
left_by_stop (Some stop) disk image left = left

-- what it shows,
pub shows_it : (stop : Option Stop) (disk disk' : Memory) (image : List ℕ) (state : State) → Keeps disk image state → disk' ≡ with_stop stop disk → shown disk' ≡ Some image
shows_it stop disk disk' image state keeps is = ap shown (is ∙ ap (with_stop stop) keeps.disk_is) ∙ shown_by stop image

-- and what a crash leaves of it
pub leaves_it : (stop : Option Stop) (disk disk' : Memory) (image : List ℕ) (state : State) → Keeps disk image state → disk' ≡ with_stop stop disk → (left : List ℕ) → may_leave disk' left
    → Represents left (tables_of state)
leaves_it stop disk disk' image state keeps is left may =
    let here = left_by_stop stop disk left (subst (λ (d : Memory). may_leave d left) is may) in
    let it : image ≡ left = same_Some image left (keeps.synced left here) in
    subst (λ (o : List ℕ). Represents o (tables_of state)) it keeps.represents

-- ---- it is opened. The journal is as what the disk holds is read.
journal_is : (image : List ℕ) (limit : ℕ) (store : StoreState Memory) → HeldIsRead → IsRepresented shown may_leave store → store.journal.limit ≡ limit → shown store.disk ≡ Some image
    → record store.journal { prepared = None } ≡ when_opened image limit
journal_is image limit store read stands bound shows =
    let same : stands.on.image ≡ image = same_Some stands.on.image image (sym stands.on.shows ∙ shows) in
    let records : records_of stands.on.image ≡ stands.records = (read stands.on.image stands.records stands.on.holds).1 in
    let second : store.journal.second ≡ selects_second image = stands.on.second ∙ ap selects_second same in
    let area : store.journal.area ≡ area_of (selected_start image) (records_of image) =
    stands.on.area ∙ ap (area_of (selected_start stands.on.image)) (sym records) ∙ ap (λ (o : List ℕ). area_of (selected_start o) (records_of o)) same in
    λ i. record { second = second i; area = area i; limit = bound i; prepared = None }

state_with : (stop : Option Stop) (image : List ℕ) → state_in (with_stop stop (fresh image [])) ≡ settled image
state_with None image = refl
state_with (Some stop) image = refl

begins_settled : (stop : Option Stop) (image : List ℕ) (disk disk' : Memory) → disk ≡ fresh image [] → disk' ≡ with_stop stop disk → state_in disk' ≡ settled image
begins_settled stop image disk disk' is by = ap state_in (by ∙ ap (with_stop stop) is) ∙ state_with stop image

begins_planned : (stop : Option Stop) (image : List ℕ) (disk disk' : Memory) → disk ≡ fresh image [] → disk' ≡ with_stop stop disk → disk'.plan ≡ plan_by stop
begins_planned stop image disk disk' is by = ap (λ (d : Memory). d.plan) (by ∙ ap (with_stop stop) is) ∙ plan_is stop image

-- the state of its disk then
pub leaves_settled : (plan : StopPlan) (state left : DiskState) → LeavesState (Synced ∷ []) (Some plan) (Some state) (Some left) → step_fails plan Synced ≡ false → left ≡ settled state.shown
leaves_settled plan state left made goes =
    same_Some left (ending_of (Synced ∷ []) plan state).state made ∙ ap (λ (e : Ending). e.state) (behind_sync [] plan state goes)

pub opens_so : (life : Life) (image : List ℕ) (state : State) (disk disk' : Memory) (store : StoreState Memory) → Keeps disk image state → disk' ≡ with_stop life.stop disk → HeldIsRead
    → IsRepresented shown may_leave store → store.journal.limit ≡ life.limit → shown store.disk ≡ shown disk' → SyncsAndLooks (Some disk'.plan) (Some store.disk.plan) false
    → LeavesState (Synced ∷ []) (Some disk'.plan) (Some (state_in disk')) (Some (state_in store.disk)) → IsOpened life image store
opens_so life image state disk disk' store keeps is read stands bound same looks made =
    let plan = plan_by life.stop in
    let planned = begins_planned life.stop image disk disk' keeps.disk_is is in
    let began = begins_settled life.stop image disk disk' keeps.disk_is is in
    let looked : SyncsAndLooks (Some plan) (Some store.disk.plan) false = subst (λ (p : StopPlan). SyncsAndLooks (Some p) (Some store.disk.plan) false) planned looks in
    let has = opens_with plan store.disk.plan (none_fails life.stop) looked in
    let goes = opens_well plan store.disk.plan looked in
    let left : LeavesState (Synced ∷ []) (Some plan) (Some (settled image)) (Some (state_in store.disk)) =
    subst (λ (s : DiskState). LeavesState (Synced ∷ []) (Some plan) (Some s) (Some (state_in store.disk))) began
    (subst (λ (p : StopPlan). LeavesState (Synced ∷ []) (Some p) (Some (state_in disk')) (Some (state_in store.disk))) planned made) in
    record {
      goes = goes;
      failing = has.none;
      stop = has.stop;
      state = leaves_settled plan (settled image) (state_in store.disk) left goes;
      journal = journal_is image life.limit store read stands bound (same ∙ shows_it life.stop disk disk' image state keeps is);
    }

-- ---- or it stops there
pub record IsStopped (error : JournalError) (halt : Halt) : Type 0 where
  pub stopped : halts.Stopped ≡ halt
  pub fault : is_fault {T = Unit {0}} (Err error) ≡ true

stops_so : (error : JournalError) (halt : Halt) (before after : ℕ) → halt_by error ≡ Some halt → OpenCauses {T = Unit {0}} before after (Err error) → IsStopped error halt
stops_so DiskFault halt before after is causes = record { stopped = cc; fault = refl }
stops_so (Full length limit) halt before after is causes = absurd causes
stops_so NoMemory halt before after is causes = absurd cc
stops_so (NotAStore place found expected) halt before after is causes = absurd cc

pub stops_opening : (life : Life) (image : List ℕ) (state : State) (text text' : List ℕ) (disk disk' left : Memory) (error : JournalError) (halt : Halt) (before after : ℕ) → Keeps disk image state
    → disk' ≡ with_stop life.stop disk → halt_by error ≡ Some halt → OpenCauses {T = Unit {0}} before after (Err error)
    → SyncsAndLooks (Some disk'.plan) (Some left.plan) (is_fault {T = Unit {0}} (Err error)) → LeavesState (Synced ∷ []) (Some disk'.plan) (Some (state_in disk')) (Some (state_in left))
    → LeavesOnly (λ (d : Memory). length d.steps) LeftSince disk' left (λ image. Represents image (tables_of state)) → text' ≡ text ++ halt_line halt → (halt ≡ halts.Stopped → IsSome life.stop)
    → LivesOn life image state text left text'
stops_opening life image state text text' disk disk' left error halt before after keeps is by causes looks made run line asked =
    let so = stops_so error halt before after by causes in
    let some : IsSome life.stop = asked (sym so.stopped) in
    let plan = plan_by life.stop in
    let planned = begins_planned life.stop image disk disk' keeps.disk_is is in
    let began = begins_settled life.stop image disk disk' keeps.disk_is is in
    let faulty = subst (λ (b : Bool). SyncsAndLooks (Some disk'.plan) (Some left.plan) b) so.fault looks in
    let looked : SyncsAndLooks (Some (plan_of life.stop image)) (Some left.plan) true =
    subst (λ (p : StopPlan). SyncsAndLooks (Some p) (Some left.plan) true) (planned ∙ sym (plan_is life.stop image)) faulty in
    let fails : step_fails plan Synced ≡ true = fails_at_once life.stop (stops_at_once life.stop image (Some left.plan) looked some) in
    let ends : ending life image state [] ≡ early Synced plan (settled image) = at_sync [] plan (settled image) fails in
    let stays : Some (state_in left) ≡ Some (ending life image state []).state =
    subst (λ (s : DiskState). LeavesState (Synced ∷ []) (Some plan) (Some s) (Some (state_in left))) began
    (subst (λ (p : StopPlan). LeavesState (Synced ∷ []) (Some p) (Some (state_in disk')) (Some (state_in left))) planned made) in
    let there : state_in left ≡ (ending life image state []).state = same_Some (state_in left) (ending life image state []).state stays in
    lives_not life image state text text' left some (ap (λ (e : Ending). outcome_by e.failed false) ends) (ap (left_by (form_by life.stop)) (sym there))
    (line ∙ ap (λ (h : Halt). text ++ halt_line h) (sym so.stopped)) (λ image may. run.each image (left_now left (length disk'.steps) image run.later may))

-- ---- the crash at its end
none_lacked : (lacks : ℕ) → nat_lt 0 lacks ≡ false → lacks ≡ 0
none_lacked lacks none = grind (arith, nat_tests)

pub crashes : (life : Life) (image : List ℕ) (state : State) (text text' : List ℕ) (disk end : Memory) (answer : Result Memory OutOfMemory) → Keeps disk image state
    → LivesOn life image state text end text' → nat_lt 0 end.lacks ≡ false → IfOk answer (λ left. left ≡ fresh (left_by (form_by life.stop) (state_in end)) []) → IfOk answer (λ left. may_leave end left.first)
    → IfOk answer (λ left. LeavesShown (Some left.first) (may_leave left)) → IfOk answer (λ left. HasLived life image state text left text')
crashes life image state text text' disk end (Ok left) keeps lives memory is may synced =
    crash_leaves life image state text text' disk end left keeps lives (none_lacked end.lacks memory) is may synced
crashes life image state text text' disk end (Err error) keeps lives memory is may synced = tt
