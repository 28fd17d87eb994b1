-- What calls of the store owe, in the words of the responder.
use Rattle.std.proofs.Common.{◌≡◌, ℕ, ◌<◌, List, [], ◌∷◌, length, Option, Result, Ok, Err, refl, sym, subst, ap}
use Rattle.std.specs.Prelude.{IfSome}
use Rattle.vf_disk.proofs.Runs.{weaker}
use Rattle.vf_disk.specs.Disk.{LeavesOnly}
use Rattle.vf_journal.specs.declared.error.JournalError.{JournalError}
use Rattle.vf_journal.specs.declared.error.JournalError.TheVariants.{NotAStore, Full, DiskFault, NoMemory}
use Rattle.vf_store.proofs.Runs.{idle}
use Rattle.vf_store.specs.Answers.{CommitAnswers}
use Rattle.vf_store.specs.Represented.{Represents as ImageRepresents}
use Rattle.vf_store.specs.StoreState.{IsRepresented, StoreState}
use Rattle.vf_tables.specs.Changes.{after_all}
use Rattle.vf_tables.specs.declared.change.Change.{Change}
use Rattle.vf_tables.specs.declared.tables.Tables.{Tables}
use Rattle.vf_responder.proofs.ChainLemmas.{along-none}
use Rattle.vf_responder.specs.Along.{RepresentsAlong}
use Rattle.vf_responder.specs.Answers.{Answer}
use Rattle.vf_responder.specs.Represents.{AnswerCauses}
use Rattle.vf_responder.specs.Run.{tables_in}
use Rattle.vf_responder.specs.Serving.{Serving}

pub commit-causes : {D : Type 0} (fault_count : D → ℕ) (old new : StoreState D) (end limit : ℕ) (result : Result (Unit {0}) JournalError)
    → CommitAnswers {S = StoreState D} {T = Unit {0}} old new end limit (fault_count old.disk) (fault_count new.disk) result
    → AnswerCauses {T = Unit {0}} limit (fault_count old.disk) (fault_count new.disk) result
commit-causes fault_count old new end limit (Ok done) h = h.1
commit-causes {D} fault_count old new end limit (Err (Full length bound)) h =
    (subst (λ (n : ℕ). limit < n) (sym h.1) h.0, h.2, ap (λ (s : StoreState D). fault_count s.disk) h.3)
commit-causes fault_count old new end limit (Err DiskFault) h = h.1
commit-causes {D} fault_count old new end limit (Err NoMemory) h = ap (λ (s : StoreState D). fault_count s.disk) h
commit-causes fault_count old new end limit (Err (NotAStore place found expected)) h = h

-- No changes lead on, and a second of the tables after them is one before them.
pub after-none : (tables : Tables) (changes : List Change) → length changes ≡ 0 → tables ≡ after_all tables changes
after-none tables [] none = refl
after-none tables (change ∷ changes) none = cc

pub still-second : (tables : Tables) (changes : List Change) (ahead : Option Tables) → length changes ≡ 0 → IfSome ahead (λ next. next ≡ after_all tables changes) → IfSome ahead (λ second. second ≡ tables)
still-second tables [] ahead none is = is
still-second tables (change ∷ changes) ahead none is = cc

-- No call was made.
pub idle-along : {D : Type 0} (shown : D → Option (List ℕ)) (may_leave : D → List ℕ → Type 0) (moment : D → ℕ) (left_since : D → ℕ → List ℕ → Type 0)
    (only_now : (disk : D) (image : List ℕ) → left_since disk (moment disk) image → may_leave disk image)
    (store : StoreState D) (serving : Serving) (answers : List Answer) → IsRepresented shown may_leave store → tables_in serving ≡ store.tables
    → LeavesOnly moment left_since store.disk store.disk (RepresentsAlong serving answers)
idle-along shown may_leave moment left_since only_now store serving answers stands are =
    weaker moment left_since store.disk store.disk (λ image. ImageRepresents image store.tables) (RepresentsAlong serving answers)
    (idle shown may_leave moment left_since only_now store.disk store.journal store.tables stands)
    (λ image represents. along-none serving answers image (subst (λ (t : Tables). ImageRepresents image t) (sym are) represents))
