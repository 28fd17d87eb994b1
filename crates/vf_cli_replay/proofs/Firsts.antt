-- The disk of a script before its first life.
use Rattle.std.proofs.Common.{◌≡◌, ◌∙◌, ℕ, zero, suc, ◌<◌, ◌≤◌, true, false, List, [], ◌∷◌, None, Some, Result, Ok, Err, IfOk, length, ap, refl, arith, sym, subst}
use Rattle.std.proofs.lemmas.Option.{same_Some}
use Rattle.vf_base.specs.declared.errors.NoMemory.{NoMemory as OutOfMemory}
use Rattle.vf_disk.specs.Calls.{MakesChanges, SyncsAndLooks, after_changes}
use Rattle.vf_disk.specs.Disk.{LeavesShown}
use Rattle.vf_disk.specs.Memory.{Memory, fresh, state as state_of}
use Rattle.vf_disk.specs.Plans.{StopPlan, counted_down, planned}
use Rattle.vf_disk.specs.State.{State as DiskState, left_by, settled}
use Rattle.vf_disk.specs.Steps.{LeavesState, MakesSteps, ending_of}
use Rattle.vf_disk.specs.declared.crash_form.CrashForm.TheVariants.{Keep}
use Rattle.vf_disk.specs.declared.step.Step.TheVariants.{Synced}
use Rattle.vf_filestore.specs.Runs.{beginning}
use Rattle.vf_incarnations.proofs.Lives.{new_stores_begin}
use Rattle.vf_journal.specs.JournalState.{JournalState, when_opened}
use Rattle.vf_journal.specs.Layout.{new_journal}
use Rattle.vf_responder.specs.Commits.{AreMade, Commit}
use Rattle.vf_store.specs.Commit.{AreFitting, after_commit, commit_steps, placed}
use Rattle.vf_store.specs.Represented.{Represents}
use Rattle.vf_store.specs.StoreState.{IsRepresented, StoreState}
use Rattle.vf_store_commands.specs.Making.{users_alone}
use Rattle.vf_tables.specs.Changes.{after_all}
use Rattle.vf_tables.specs.Entries.{no_tables}
use Rattle.vf_tables.specs.Laws.{SnapshotMakes}
use Rattle.vf_tables.specs.Snapshot.{snapshot}
use Rattle.vf_tables.specs.Validity.{is_valid}
use Rattle.vf_tables.specs.declared.change.Change.{Change}
use Rattle.vf_tables.specs.declared.tables.Tables.{Tables}
use Rattle.vf_tables.specs.declared.user.User.{User}
use Rattle.vf_cli_replay.proofs.Bools.{first_of}
use Rattle.vf_cli_replay.proofs.Committed.{Comes, made_comes}
use Rattle.vf_cli_replay.proofs.Opening.{leaves_settled}
use Rattle.vf_cli_replay.proofs.Plans.{HasNone, opens_well, opens_with}
use Rattle.vf_cli_replay.proofs.Rows.{SameStop, ends_same}
use Rattle.vf_cli_replay.proofs.Serving.{store_leaves}
use Rattle.vf_cli_replay.specs.Calls.{Calls, Through, calls_by, first_commits, first_image, no_limit}
use Rattle.vf_cli_replay.specs.Disks.{Keeps, may_leave, shown}
use Rattle.vf_cli_replay.specs.Standing.{IsFirst, IsNew, Opens, tells}
use Rattle.vf_cli_replay.specs.Users.{AreGood}

pub first_keeps : (users : List User) (store : StoreState Memory) (left : Memory) (image : List ℕ) → AreGood users → store.tables ≡ users_alone users → IsRepresented shown may_leave store
    → left ≡ fresh image [] → may_leave store.disk left.first → LeavesShown (Some left.first) (may_leave left) → Keeps left image (beginning users [])
first_keeps users store left image good tables stands is may synced =
    let first : left.first ≡ image = ap (λ (d : Memory). d.first) is in
    let represents : Represents left.first (users_alone users) = subst (λ (t : Tables). Represents left.first t) tables (store_leaves store left.first stands may) in
    record {
      disk_is = is;
      synced = subst (λ (o : List ℕ). LeavesShown (Some o) (may_leave left)) first synced;
      represents = subst (λ (o : List ℕ). Represents o (users_alone users)) first represents;
      begins = new_stores_begin users good.valid good.ranged;
    }

-- It is crashed. What it leaves is a variable, since the checker would else compute the image of the first disk at each step.
crashes_to : (users : List User) (store : StoreState Memory) (disk : Memory) (image : List ℕ) (answer : Result Memory OutOfMemory) → AreGood users
    → store.tables ≡ users_alone users → IsRepresented shown may_leave store → left_by Keep (state_of store.disk) ≡ image → disk ≡ store.disk
    → IfOk answer (λ left. left ≡ fresh (left_by Keep (state_of disk)) []) → IfOk answer (λ left. may_leave disk left.first) → IfOk answer (λ left. LeavesShown (Some left.first) (may_leave left))
    → IfOk answer (λ left. Keeps left image (beginning users []))
crashes_to users store disk image (Ok left) good tables stands leaves same is may synced =
    let kept : left_by Keep (state_of disk) ≡ image = ap (λ (d : Memory). left_by Keep (state_of d)) same ∙ leaves in
    first_keeps users store left image good tables stands (is ∙ ap (λ (o : List ℕ). fresh o []) kept) (subst (λ (d : Memory). may_leave d left.first) same may) synced
crashes_to users store disk image (Err error) good tables stands leaves same is may synced = tt

pub first_crashes : (users : List User) (store : StoreState Memory) (disk : Memory) (answer : Result Memory OutOfMemory) → AreGood users
    → (store.tables ≡ users_alone users) × IsRepresented shown may_leave store × IsFirst users store → disk ≡ store.disk
    → IfOk answer (λ left. left ≡ fresh (left_by Keep (state_of disk)) []) → IfOk answer (λ left. may_leave disk left.first) → IfOk answer (λ left. LeavesShown (Some left.first) (may_leave left))
    → IfOk answer (λ left. Keeps left (first_image users) (beginning users []))
first_crashes users store disk answer good has same is may synced =
    crashes_to users store disk (first_image users) answer good has.0 has.1 (ap (left_by Keep) has.2) same is may synced

pub no_users : (users : List User) → length users ≡ 0 → users ≡ []
no_users [] none = refl
no_users (user ∷ users) none = absurd (omega (arith, none))

pub some_users : (users : List User) (count : ℕ) → count ≡ length users → (count ≡ 0 → ⊥) → 0 < length users
some_users users count is some = omega arith

-- ---- THE COMMIT of the users
pub users_fit : (tables : Tables) (changes : List Change) (users : List User) → SnapshotMakes → AreGood users → tables ≡ no_tables → changes ≡ snapshot (users_alone users)
    → AreFitting tables changes × (after_all tables changes ≡ users_alone users)
users_fit tables changes users makes good empty is =
    subst (λ (t : Tables). AreFitting t changes × (after_all t changes ≡ users_alone users)) (sym empty)
    (subst (λ (l : List Change). AreFitting no_tables l × (after_all no_tables l ≡ users_alone users)) (sym is) here)
  where
    here : AreFitting no_tables (snapshot (users_alone users)) × (after_all no_tables (snapshot (users_alone users)) ≡ users_alone users)
    here =
        let law = makes (users_alone users) good.kept in
        let valid : is_valid (users_alone users) ≡ true = first_of (is_valid (users_alone users)) _ good.kept in
        (record { each = law.0; valid = subst (λ (t : Tables). is_valid t ≡ true) (sym law.1) valid }, law.1)

-- from a new store on
first_commit : (users : List User) → 0 < length users → first_commits users ≡ record { tables = no_tables; changes = snapshot (users_alone users) } ∷ []
first_commit [] some = absurd (omega (arith, some))
first_commit (user ∷ users) some = refl

-- The calls and the state that they begin with are variables, for the same reason.
first_by : (calls : Calls) (begun : DiskState) (commits : List Commit) (store new : StoreState Memory) → calls_by store.journal commits ≡ calls → state_of store.disk ≡ begun → HasNone store.disk.plan None
    → AreMade tells commits store new → state_of new.disk ≡ (ending_of calls.steps (planned []) begun).state
first_by calls begun commits store new are state has made =
    let there : Comes calls store.disk.plan begun (state_of new.disk) Through =
    subst (λ (s : DiskState). Comes calls store.disk.plan s (state_of new.disk) Through) state
    (subst (λ (k : Calls). Comes k store.disk.plan (state_of store.disk) (state_of new.disk) Through) are (made_comes commits store new made)) in
    let same : SameStop store.disk.plan (planned []) = record { none = has.none; other = refl; stop = has.stop } in
    sym there.leaves ∙ (ends_same calls.steps store.disk.plan (planned []) begun same).state

calls_are : (journal journal' : JournalState) (commits commits' : List Commit) → journal ≡ journal' → commits' ≡ commits → calls_by journal commits ≡ calls_by journal' commits'
calls_are journal journal' commits commits' is are = λ i. calls_by (is i) (sym are i)

first_is : (users : List User) (commits : List Commit) (store new : StoreState Memory) → first_commits users ≡ commits → IsNew store → AreMade tells commits store new → IsFirst users new
first_is users commits store new is begun made =
    first_by (calls_by (when_opened new_journal no_limit) (first_commits users)) (settled new_journal) commits store new
    (calls_are store.journal (when_opened new_journal no_limit) commits (first_commits users) begun.journal is) begun.state (record { none = begun.failing; stop = begun.stop }) made

pub users_made : (changes : List Change) (users : List User) (old new : StoreState Memory) → SnapshotMakes → AreGood users → 0 < length users → old.tables ≡ no_tables → changes ≡ snapshot (users_alone users)
    → IsNew old → new.tables ≡ after_all old.tables changes → (AreFitting old.tables changes → IsRepresented shown may_leave new) → (placed old.journal old.tables changes).end ≤ old.journal.limit
    → MakesSteps (commit_steps old.journal old.tables changes) (tells.plan old.disk) (tells.plan new.disk) (tells.state old.disk) (tells.state new.disk) false old.disk.lacks new.disk.lacks
    → new.journal ≡ after_commit old.journal old.tables changes → (new.tables ≡ users_alone users) × IsRepresented shown may_leave new × IsFirst users new
users_made changes users old new makes good some empty is begun made stands within steps journal =
    let fits = users_fit old.tables changes users makes good empty is in
    let commit : Commit = record { tables = old.tables; changes = changes } in
    let all : first_commits users ≡ commit ∷ [] = first_commit users some ∙ (λ i. record { tables = sym empty i; changes = sym is i } ∷ []) in
    let written : AreMade tells (commit ∷ []) old new = (new, record { written = record { tables = refl; within = within; steps = steps }; journal = journal }, refl) in
    (made ∙ fits.1, stands fits.0, first_is users (commit ∷ []) old new all begun written)

-- without users nothing is written
pub none_made : (users : List User) (store : StoreState Memory) → length users ≡ 0 → store.tables ≡ no_tables → IsRepresented shown may_leave store → IsNew store
    → (store.tables ≡ users_alone users) × IsRepresented shown may_leave store × IsFirst users store
none_made users store none empty stands begun =
    let is : users ≡ [] = no_users users none in
    let first : IsFirst [] store = begun.state in
    (empty ∙ ap users_alone (sym is), stands, subst (λ (l : List User). IsFirst l store) (sym is) first)

-- ---- A NEW STORE
changes_have : (count : ℕ) (plan : StopPlan) → HasNone plan None → HasNone (after_changes count plan) None
changes_have zero plan has = has
changes_have (suc count) plan has = let before = changes_have count plan has in record { none = before.none; stop = ap counted_down before.stop }

pub made_with : (plan plan' : StopPlan) → plan ≡ planned [] → MakesChanges 6 (Some plan) (Some plan') false → HasNone plan' None
made_with plan plan' is made =
    let same : plan' ≡ after_changes 6 plan = same_Some plan' (after_changes 6 plan) made.1 in
    let begun : HasNone (planned []) None = record { none = refl; stop = refl } in
    subst (λ (p : StopPlan). HasNone p None) (sym same) (changes_have 6 plan (subst (λ (p : StopPlan). HasNone p None) (sym is) begun))

-- opened on any image: what is computed of a new journal has no part in it
record IsBegun (image : List ℕ) (store : StoreState Memory) : Type 0 where
  pub has : HasNone store.disk.plan None
  pub state : state_of store.disk ≡ settled image

begins_on : (image : List ℕ) (disk : Memory) (store : StoreState Memory) → shown disk ≡ Some image → HasNone disk.plan None → SyncsAndLooks (Some disk.plan) (Some store.disk.plan) false
    → LeavesState (Synced ∷ []) (Some disk.plan) (Some (state_of disk)) (Some (state_of store.disk)) → IsBegun image store
begins_on image disk store shows has calls made =
    let next = opens_with disk.plan store.disk.plan has.none calls in
    let goes = opens_well disk.plan store.disk.plan calls in
    record {
      has = record { none = next.none; stop = next.stop ∙ ap counted_down has.stop };
      state = leaves_settled disk.plan (state_of disk) (state_of store.disk) made goes ∙ ap settled (same_Some (state_of disk).shown image shows);
    }

pub begins_new : (disk : Memory) (store : StoreState Memory) → shown disk ≡ Some new_journal → HasNone disk.plan None → Opens new_journal disk store → IsNew store
begins_new disk store shows has opens =
    let begun = begins_on new_journal disk store shows has opens.calls opens.made in record { failing = begun.has.none; stop = begun.has.stop; state = begun.state; journal = opens.journal }
