-- What an event that comes to the responder comes to: its answers are heard, or it can't go on.
use Rattle.std.proofs.Common.{◌≡◌, ℕ, ◌≤◌, length, List, [], Option, None, Some, Result, Ok, Err, IfOk, arith, refl, sym, subst}
use Rattle.std.proofs.lemmas.List.{take_all}
use Rattle.std.proofs.lemmas.Option.{none-some, same_Some}
use Rattle.vf_base.specs.declared.events.ScriptEvent.{ScriptEvent}
use Rattle.vf_base.specs.declared.events.ScriptEvent.TheVariants.{Octets}
use Rattle.vf_cli_calling.specs.Calling.{Calling}
use Rattle.vf_cli_script.specs.declared.line.Act.{Act}
use Rattle.vf_disk.specs.Disk.{LeavesOnly}
use Rattle.vf_disk.specs.Memory.{LeftSince, Memory}
use Rattle.vf_disk.specs.State.{IsImage, state_of}
use Rattle.vf_disk.specs.declared.step.Step.{Step}
use Rattle.vf_journal.specs.declared.error.JournalError.{JournalError}
use Rattle.vf_journal.specs.declared.error.JournalError.TheVariants.{NotAStore, Full, DiskFault, NoMemory}
use Rattle.vf_responder.specs.Along.{RepresentsAlong}
use Rattle.vf_responder.specs.Commits.{AreMade, AreMadeUpTo, Commit, commits_by}
use Rattle.vf_responder.specs.Represents.{Answers}
use Rattle.vf_responder.specs.Run.{trail}
use Rattle.vf_responder.specs.Serving.{Serving}
use Rattle.vf_responder.specs.declared.event.Reply.{Reply}
use Rattle.vf_store.specs.StoreState.{IsRepresented, StoreState}
use Rattle.vf_cli_calling.specs.declared.caller.Caller.{Caller}
use Rattle.vf_cli_replay.specs.Halting.{halt_by}
use Rattle.vf_cli_replay.specs.Hearing.{AreEnds, AreOthers, HasHeard}
use Rattle.vf_cli_replay.specs.Running.{Ends, Running, Spoken, heard_all, joined, moment_of, with_end}
use Rattle.vf_cli_replay.specs.Disks.{may_leave, shown}
use Rattle.vf_cli_replay.specs.Standing.{Halted, HasCome, Leaves, SpeaksOn, Stands, tells}
use Rattle.vf_cli_replay.specs.declared.halt.Halt.{Halt}
use Rattle.vf_cli_replay.specs.declared.halt.Halt.TheVariants as halts
use Rattle.vf_cli_replay.specs.declared.links.Links.{Links}

pub if_ok : {T E : Type 0} (answer : Result T E) (P Q : T → Type 0) → ((x : T) → P x → Q x) → IfOk answer P → IfOk answer Q
if_ok (Ok x) P Q by holds = by x holds
if_ok (Err error) P Q by holds = tt

-- ---- its answers are heard
pub comes_well : (running : Running) (event : ScriptEvent) (text text' : List ℕ) (store : StoreState Memory) (links : Links) (told : List Reply)
    → Answers (trail event running.serving) running.serving [] links.responder told → IsRepresented shown may_leave links.responder.store
    → HasHeard (heard_all (joined told) running.ends) text links.callers.entries text' → AreMade tells (commits_by event running.serving) store links.responder.store
    → HasCome running event text store links text' None
comes_well running event text text' store links told answers stored heard made =
    let it = subst (λ (replies : List Reply). HasHeard (heard_all (joined replies) running.ends) text links.callers.entries text') answers.spoken heard in
    (it.lines, record { responder = answers.represents; stored = stored; callers = it.ends }, made)

-- ---- it can't go on. What may be left now might have been left since it began.
pub left_now : (disk : Memory) (since : ℕ) (image : List ℕ) → since ≤ length disk.steps → may_leave disk image → LeftSince disk since image
left_now disk since image le now =
    let all = take_all (length disk.steps) disk.steps (omega arith) in
    (length disk.steps, le, omega arith, subst (λ (steps : List Step). IsImage (state_of disk.first steps) image) (sym all) now)

leaves : (serving : Serving) (event : ScriptEvent) (old new : Memory)
    → LeavesOnly (λ (disk : Memory). length disk.steps) LeftSince old new (RepresentsAlong serving (trail event serving)) → Leaves serving event new
leaves serving event old new run = record { each = λ image left. run.each image (left_now new (length old.steps) image run.later left) }

halts_so : (error : JournalError) (halt : Halt) (commits : List Commit) (old new : StoreState Memory) → halt_by error ≡ Some halt → AreMadeUpTo tells error commits old new → Halted halt commits old new
halts_so DiskFault halt commits old new is up = subst (λ (h : Halt). Halted h commits old new) (same_Some halts.Stopped halt is) up
halts_so (Full length limit) halt commits old new is up = subst (λ (h : Halt). Halted h commits old new) (same_Some halts.Full halt is) (length, limit, up)
halts_so NoMemory halt commits old new is up = absurd (none-some halt is)
halts_so (NotAStore place found expected) halt commits old new is up = absurd (none-some halt is)

pub comes_to_halt : (running : Running) (event : ScriptEvent) (text : List ℕ) (store : StoreState Memory) (error : JournalError) (halt : Halt) (links : Links) → halt_by error ≡ Some halt
    → LeavesOnly (λ (disk : Memory). length disk.steps) LeftSince store.disk links.responder.store.disk (RepresentsAlong running.serving (trail event running.serving))
    → AreMadeUpTo tells error (commits_by event running.serving) store links.responder.store → HasCome running event text store links text (Some halt)
comes_to_halt running event text store error halt links is run up =
    (refl, leaves running.serving event store.disk links.responder.store.disk run, halts_so error halt (commits_by event running.serving) store links.responder.store is up)

-- ---- all ends are those of the others too
pub all_but : (link : ℕ) (callers : List (ℕ × Caller)) (ends : Ends) → AreEnds callers ends → AreOthers link callers ends
all_but link callers ends are = record { each = λ other apart. are.each other }

-- ---- what a calling end says comes next
pub record ComesOf (running : Running) (link : ℕ) (act : Act) (caller : Option Calling) (octets : List ℕ) (links : Links) : Type 0 where
  pub now : Running
  pub spoken : Spoken running link act caller now (Some (Octets link (moment_of act) octets))
  pub stands : Stands links now

pub comes_of : (running : Running) (link : ℕ) (act : Act) (caller : Option Calling) (octets : List ℕ) (links : Links) → SpeaksOn running link act caller (Some octets) links
    → ComesOf running link act caller octets links
comes_of running link act None octets links speaks = absurd cc
comes_of running link act (Some caller) octets links speaks = record {
  now = record running { ends = with_end link speaks.0 running.ends };
  spoken = (octets, speaks.0, (speaks.1.0, refl, refl));
  stands = speaks.1.1;
}

pub none_of : (running : Running) (link : ℕ) (act : Act) (caller : Option Calling) (links : Links) → SpeaksOn running link act caller None links
    → Spoken running link act caller running None × Stands links running
none_of running link act None links speaks = ((refl, refl), speaks.1)
none_of running link act (Some caller) links speaks = absurd speaks
