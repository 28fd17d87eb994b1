-- What images and disks represent, from what a journal says of them.
use Rattle.std.proofs.Common.{◌≡◌, inl, inr, ⊎_elim, ℕ, List, [], ◌∷◌, ◌++◌, Option, Some, refl, sym}
use Rattle.vf_disk.specs.Disk.{LeavesOnly}
use Rattle.vf_disk.proofs.Runs.{leaves_at_first, leaves_octets, weaker}
use Rattle.vf_journal.specs.Image.{Holds, HoldsEither, IsNoneOrNew as IsNoneOrEmpty}
use Rattle.vf_journal.specs.JournalState.{JournalState}
use Rattle.vf_journal.specs.Writes.{Shows}
use Rattle.vf_tables.specs.declared.tables.Tables.{Tables}
use Rattle.vf_tables.specs.Entries.{no_tables}
use Rattle.vf_store.specs.Represented.{IsNoneOrNew, Represents, RepresentsEither, after_record, made}
use Rattle.vf_store.specs.StoreState.{TablesStand}
use Rattle.vf_store.proofs.Making.{made_push}

pub represented : (image : List ℕ) (records : List (List ℕ)) (tables : Tables) → made records ≡ Some tables → Holds image records → Represents image tables
represented image records tables making holds = record { records = records; holds = holds; making = making }

-- images that hold the records before an append, or those after it
pub either : (image : List ℕ) (records : List (List ℕ)) (item : List ℕ) (before after : Tables) → made records ≡ Some before → after_record before item ≡ Some after
    → HoldsEither records (records ++ item ∷ []) image → RepresentsEither before after image
either image records item before after first second holds =
    ⊎_elim (λ h. inl (represented image records before first h)) (λ h. inr (represented image (records ++ item ∷ []) after (made_push records item before after first second) h)) holds

-- images that hold the one or the other records of the same tables
pub same_either : (image : List ℕ) (records others : List (List ℕ)) (tables : Tables) → made records ≡ Some tables → made others ≡ Some tables → HoldsEither records others image → Represents image tables
same_either image records others tables first second holds = ⊎_elim (represented image records tables first) (represented image others tables second) holds

-- a journal without records represents the tables of a new filestore
pub new_represents : (image : List ℕ) → Holds image [] → Represents image no_tables
new_represents image holds = record { records = []; holds = holds; making = refl }

pub none_or_new : (image : List ℕ) → IsNoneOrEmpty image → IsNoneOrNew image
none_or_new image either = ⊎_elim inl (λ holds. inr (new_represents image holds)) either

-- a read gives an image with another property
pub shows_weaker : (shown : Option (List ℕ)) (P Q : List ℕ → Type 0) → Shows shown P → ((image : List ℕ) → P image → Q image) → Shows shown Q
shows_weaker shown P Q seen weaken = (seen.0, seen.1, weaken seen.0 seen.2)

-- no call was made
module _ {D : Type 0} (shown : D → Option (List ℕ)) (may_leave : D → List ℕ → Type 0) (moment : D → ℕ) (left_since : D → ℕ → List ℕ → Type 0)
    (only_now : (disk : D) (image : List ℕ) → left_since disk (moment disk) image → may_leave disk image) where
  pub idle : (disk : D) (journal : JournalState) (tables : Tables) → TablesStand shown may_leave journal disk tables → LeavesOnly moment left_since disk disk (λ image. Represents image tables)
  idle disk journal tables stands = leaves_at_first moment left_since disk (λ image. Represents image tables) (λ image left.
      let is : stands.on.image ≡ image = sym (leaves_octets (shown disk) (may_leave disk) stands.on.image image stands.on.synced stands.on.shows (only_now disk image left)) in
      represented image stands.records tables stands.making (rw (← is) stands.on.holds))

  pub idle_either : (disk : D) (journal : JournalState) (tables then : Tables) → TablesStand shown may_leave journal disk tables → LeavesOnly moment left_since disk disk (RepresentsEither tables then)
  idle_either disk journal tables then stands =
      weaker moment left_since disk disk (λ image. Represents image tables) (RepresentsEither tables then) (idle disk journal tables stands) (λ image represents. inl represents)

  pub idle_seen : (disk : D) (journal : JournalState) (tables then : Tables) → TablesStand shown may_leave journal disk tables → Shows (shown disk) (RepresentsEither tables then)
  idle_seen disk journal tables then stands = (stands.on.image, stands.on.shows, inl (represented stands.on.image stands.records tables stands.making stands.on.holds))
