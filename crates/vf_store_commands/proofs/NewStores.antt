-- A store that is just made, and what a commit of users makes of it.
use Rattle.std.proofs.Common.{◌≡◌, inl, inr, ⊎_elim, ℕ, true, List, [], ◌∷◌, length, Option, Some, None, Result, Ok, Err, refl, sym, ap, subst, ◌∙◌, arith}
use Rattle.std.specs.Prelude.{IfOk, IfErr}
use Rattle.vf_disk.specs.Disk.{LeavesOnly}
use Rattle.vf_disk.proofs.Runs.{joined, weaker}
use Rattle.vf_base.specs.Faults.{HasRisen}
use Rattle.vf_journal.specs.Answers.{OpenCauses}
use Rattle.vf_journal.specs.Image.{Holds, records_of, refusal}
use Rattle.vf_journal.specs.JournalState.{area_of}
use Rattle.vf_journal.specs.Laws.{HeldIsRead}
use Rattle.vf_journal.specs.Layout.{new_journal, place_named, place_octets, selected_start}
use Rattle.vf_journal.specs.declared.error.JournalError.{JournalError}
use Rattle.vf_journal.specs.declared.error.JournalError.TheVariants.{NotAStore, Full, DiskFault, NoMemory}
use Rattle.vf_store.specs.Answers.{IsOpenError, OpenAnswers}
use Rattle.vf_store.specs.Commit.{AreFitting}
use Rattle.vf_store.specs.Represented.{IsNoneOrNew, Represents, RepresentsEither}
use Rattle.vf_store.specs.StoreState.{IsRepresented, StoreState, answer_of, disk_of}
use Rattle.vf_store.proofs.Runs.{idle, represented}
use Rattle.vf_tables.specs.Changes.{after_all}
use Rattle.vf_tables.specs.Entries.{no_tables}
use Rattle.vf_tables.specs.Laws.{SnapshotMakes}
use Rattle.vf_tables.specs.Snapshot.{snapshot}
use Rattle.vf_tables.specs.Validity.{is_valid}
use Rattle.vf_tables.specs.declared.change.Change.{Change}
use Rattle.vf_tables.specs.declared.tables.Tables.{Tables}
use Rattle.vf_tables.specs.declared.user.User.{User}
use Rattle.vf_store_commands.specs.Making.{AreUsers, IsMaking, IsNew, IsOutside, IsStoreOf, users_alone}
use Rattle.vf_store_commands.specs.declared.limits.TheConstants.{STORE_LIMIT}
use Rattle.vf_store_commands.proofs.Bools.{first_of}

new_starts : selected_start new_journal ≡ 33
unfolding place_named place_octets
new_starts = refl

-- a new journal is opened, or the outside keeps it from that
open_outside : (error : JournalError) → refusal new_journal ≡ None → IsOpenError new_journal error → IsOutside error
open_outside (NotAStore place found expected) none is = absurd cc
open_outside (Full end limit) none is = is
open_outside DiskFault none is = tt
open_outside NoMemory none is = tt

-- the faults of the disk since before the journal was made
module _ {D : Type 0} (count : D → ℕ) (before between : ℕ) where
  pub opened_count : (result : Result (StoreState D) (D × JournalError)) → OpenCauses between (count (disk_of result)) (answer_of result) → between ≡ before
      → IfOk result (λ store. count store.disk ≡ before)
  opened_count (Ok store) causes same = causes ∙ same
  opened_count (Err back) causes same = tt

  pub opened_cause : (result : Result (StoreState D) (D × JournalError)) → OpenCauses between (count (disk_of result)) (answer_of result) → between ≡ before
      → IfErr result (λ back. back.1 ≡ DiskFault → HasRisen before (count back.0))
  opened_cause (Ok store) causes same = tt
  opened_cause (Err back) causes same = λ fault.
      let risen : HasRisen between (count back.0) = subst (λ (error : JournalError). OpenCauses {T = StoreState D} between (count back.0) (Err error)) fault causes in
      subst (λ (n : ℕ). HasRisen n (count back.0)) same risen

module _ {D : Type 0} (shown : D → Option (List ℕ)) (may_leave : D → List ℕ → Type 0) where
  -- OPENING a disk that holds a new journal
  module _ (law : HeldIsRead) (none : Holds new_journal []) where
    no_records : (image : List ℕ) (records : List (List ℕ)) → image ≡ new_journal → Holds image records → records ≡ []
    no_records image records is holds = sym (law image records holds).1 ∙ ap records_of is ∙ (law new_journal [] none).1

    new_if : (store : StoreState D) → shown store.disk ≡ Some new_journal → store.tables ≡ no_tables → store.journal.limit ≡ STORE_LIMIT → IsRepresented shown may_leave store → IsNew shown may_leave store
    new_if store shows tables limit stands =
        let same : Some stands.on.image ≡ Some new_journal = sym stands.on.shows ∙ shows in
        let image : stands.on.image ≡ new_journal = cc in
        let empty = no_records stands.on.image stands.records image stands.on.holds in
        record {
          tables = tables;
          stands = stands;
          area = stands.on.area ∙ ap (λ (l : List (List ℕ)). area_of (selected_start stands.on.image) l) empty ∙ ap (λ (l : List ℕ). area_of (selected_start l) []) image
              ∙ ap (λ (n : ℕ). area_of n []) new_starts;
          limit = limit;
        }

    pub is_new : (result : Result (StoreState D) (D × JournalError)) → shown (disk_of result) ≡ Some new_journal
        → IfOk result (λ store. (store.tables ≡ no_tables) × IsRepresented shown may_leave store) → IfOk result (λ store. store.journal.limit ≡ STORE_LIMIT)
        → IfOk result (IsNew shown may_leave)
    is_new (Ok store) shows opened limit = new_if store shows opened.0 limit opened.1
    is_new (Err back) shows opened limit = tt

    pub opens_outside : (result : Result (StoreState D) (D × JournalError)) → OpenAnswers new_journal (answer_of result) → IfErr result (λ back. IsOutside back.1)
    opens_outside (Ok store) answers = tt
    opens_outside (Err back) answers = open_outside back.1 (law new_journal [] none).0 answers

  -- WHAT STANDS
  pub store_of : (store : StoreState D) (users : List User) → IsRepresented shown may_leave store → store.tables ≡ users_alone users → IsStoreOf shown may_leave store.disk users
  store_of store users stands is = record {
    image = stands.on.image;
    shows = stands.on.shows;
    represents = subst (λ (t : Tables). Represents stands.on.image t) is (represented stands.on.image stands.records store.tables stands.making stands.on.holds);
    synced = stands.on.synced;
  }

-- THE COMMIT
pub fitting : SnapshotMakes → (users : List User) → AreUsers users → (AreFitting no_tables (snapshot (users_alone users))) × (after_all no_tables (snapshot (users_alone users)) ≡ users_alone users)
fitting makes users are =
    let law = makes (users_alone users) are.kept in
    let valid : is_valid (users_alone users) ≡ true = first_of (is_valid (users_alone users)) _ are.kept in
    (record { each = law.0; valid = subst (λ (t : Tables). is_valid t ≡ true) (sym law.1) valid }, law.1)

pub making : (users : List User) (image : List ℕ) → RepresentsEither no_tables (users_alone users) image → IsMaking users image
making users image either = ⊎_elim (λ new. inl (inr new)) (λ held. inr held) either

module _ {D : Type 0} (moment : D → ℕ) (left_since : D → ℕ → List ℕ → Type 0) where
  pub commit_leaves : (old new : D) (tables : Tables) (changes : List Change) (users : List User) → SnapshotMakes → AreUsers users → tables ≡ no_tables → changes ≡ snapshot (users_alone users)
      → LeavesOnly moment left_since old new (RepresentsEither tables (after_all tables changes)) → LeavesOnly moment left_since old new (IsMaking users)
  commit_leaves old new tables changes users makes are empty is run =
      weaker moment left_since old new (RepresentsEither tables (after_all tables changes)) (IsMaking users) run (λ image either.
      let first : RepresentsEither no_tables (after_all no_tables changes) image = subst (λ (t : Tables). RepresentsEither t (after_all t changes) image) empty either in
      making users image (subst (λ (t : Tables). RepresentsEither no_tables t image) (ap (after_all no_tables) is ∙ (fitting makes users are).1) first))

  pub store_leaves : (disk between new : D) (users : List User) → LeavesOnly moment left_since disk between IsNoneOrNew → LeavesOnly moment left_since between new (IsMaking users)
      → LeavesOnly moment left_since disk new (IsMaking users)
  store_leaves disk between new users first second =
      joined moment left_since disk between new IsNoneOrNew (IsMaking users) (IsMaking users) first second (λ image none. inl none) (λ image held. held)

-- the changes fit where there are no tables yet
pub fits_here : (tables : Tables) (changes : List Change) (users : List User) → SnapshotMakes → AreUsers users → tables ≡ no_tables → changes ≡ snapshot (users_alone users)
    → AreFitting tables changes × (after_all tables changes ≡ users_alone users)
fits_here tables changes users makes are empty is =
    subst (λ (t : Tables). AreFitting t changes × (after_all t changes ≡ users_alone users)) (sym empty)
    (subst (λ (l : List Change). AreFitting no_tables l × (after_all no_tables l ≡ users_alone users)) (sym is) (fitting makes users are))

-- WHERE THERE ARE NO CHANGES. There are no users, and the store stays as it is.
pub no_users : (users : List User) (changes : List Change) → changes ≡ snapshot (users_alone users) → length changes ≡ 0 → users ≡ []
no_users [] changes is none = refl
no_users (user ∷ users) changes is none = absurd (omega (arith, ap length is, none))

pub store_stays : {D : Type 0} (shown : D → Option (List ℕ)) (may_leave : D → List ℕ → Type 0) (moment : D → ℕ) (left_since : D → ℕ → List ℕ → Type 0)
    → ((disk : D) (image : List ℕ) → left_since disk (moment disk) image → may_leave disk image) → (store : StoreState D) (users : List User)
    → IsRepresented shown may_leave store → store.tables ≡ users_alone users → LeavesOnly moment left_since store.disk store.disk (IsMaking users)
store_stays shown may_leave moment left_since only_now store users stands is =
    weaker moment left_since store.disk store.disk (λ image. Represents image store.tables) (IsMaking users)
    (idle shown may_leave moment left_since only_now store.disk store.journal store.tables stands) (λ image held. inr (subst (λ (t : Tables). Represents image t) is held))
