-- A store whose changes are made whole or not at all.
use Rattle.std.proofs.Common.{◌≡◌, ◌≤◌, inl, inr, ⊎_elim, ℕ, Bool, false, List, [], ◌∷◌, length, Option, Err, sym, ap, subst, ◌∙◌, arith}
use Rattle.vf_disk.specs.Disk.{LeavesOnly}
use Rattle.vf_disk.proofs.Runs.{leaves_octets, weaker}
use Rattle.vf_initiator.specs.Keepable.{LeadTo}
use Rattle.vf_journal.specs.declared.error.JournalError.{JournalError}
use Rattle.vf_journal.specs.declared.error.JournalError.TheVariants.{NotAStore, Full, DiskFault, NoMemory}
use Rattle.vf_store.specs.Answers.{CommitAnswers}
use Rattle.vf_store.specs.Commit.{AreFitting}
use Rattle.vf_store.specs.Represented.{Represents, RepresentsEither}
use Rattle.vf_store.specs.StoreState.{IsRepresented, StoreState}
use Rattle.vf_store.proofs.Runs.{idle}
use Rattle.std.proofs.lemmas.Bool.{true≢false}
use Rattle.vf_tables.specs.Changes.{after_all}
use Rattle.vf_tables.specs.Validity.{is_valid}
use Rattle.vf_tables.specs.declared.change.Change.{Change}
use Rattle.vf_tables.specs.declared.tables.Tables.{Tables}
use Rattle.vf_transact.specs.Transaction.{KeepsStore, RepresentsOneOf, is_disk}
use Rattle.vf_transact.specs.declared.error.TransactError.TheVariants as errors

pub fitting : (tables : Tables) (changes : List Change) (tables' : Tables) → LeadTo tables changes tables' → AreFitting tables changes
fitting tables changes tables' leads = record { each = leads.fit; valid = ap (λ (t : Tables). is_valid t) leads.lead ∙ leads.valid }

-- ---- which tables an image represents

one_here : (tables : Tables) (others : List Tables) (image : List ℕ) → Represents image tables → RepresentsOneOf (tables ∷ others) image
one_here tables others image is = inl is

either_of : (before after after' : Tables) (image : List ℕ) → after ≡ after' → RepresentsEither before after image → RepresentsOneOf (before ∷ after' ∷ []) image
either_of before after after' image same is = ⊎_elim (λ old. inl old) (λ new. inr (inl (subst (λ (t : Tables). Represents image t) same new))) is

module _ {D : Type 0} (shown : D → Option (List ℕ)) (may_leave : D → List ℕ → Type 0) (moment : D → ℕ) (left_since : D → ℕ → List ℕ → Type 0) where
  -- a crash leaves what a store represents
  left_represents : (store : StoreState D) (image : List ℕ) → IsRepresented shown may_leave store → may_leave store.disk image → Represents image store.tables
  left_represents store image stands left =
      let is : image ≡ stands.on.image = leaves_octets (shown store.disk) (may_leave store.disk) stands.on.image image stands.on.synced stands.on.shows left in
      subst (λ (i : List ℕ). Represents i store.tables) (sym is) (record { records = stands.records; holds = stands.on.holds; making = stands.making })

  -- a store to which nothing is done
  pub untouched : ((disk : D) (image : List ℕ) → left_since disk (moment disk) image → may_leave disk image) → (store : StoreState D) (trail : List Tables) (tables' : Tables) (is_fault : Bool)
      → IsRepresented shown may_leave store → store.tables ≡ tables' → KeepsStore shown may_leave moment left_since store store trail tables' is_fault
  untouched only_now store trail tables' is_fault represented same = record {
    any_moment = weaker moment left_since store.disk store.disk (λ image. Represents image store.tables) (RepresentsOneOf (store.tables ∷ trail))
        (idle shown may_leave moment left_since only_now store.disk store.journal store.tables represented) (one_here store.tables trail);
    now = λ image left. inl (subst (λ (t : Tables). Represents image t) same (left_represents store image represented left));
    stands = λ none. (represented, same);
  }

  pub committed : (old new : StoreState D) (changes : List Change) (tables' : Tables) → LeadTo old.tables changes tables'
      → LeavesOnly moment left_since old.disk new.disk (RepresentsEither old.tables (after_all old.tables changes)) → IsRepresented shown may_leave new → new.tables ≡ after_all old.tables changes
      → KeepsStore shown may_leave moment left_since old new (tables' ∷ []) tables' false
  committed old new changes tables' leads run represented is = record {
    any_moment = weaker moment left_since old.disk new.disk (RepresentsEither old.tables (after_all old.tables changes)) (RepresentsOneOf (old.tables ∷ tables' ∷ [])) run
        (λ image. either_of old.tables (after_all old.tables changes) tables' image leads.lead);
    now = λ image left. inl (subst (λ (t : Tables). Represents image t) (is ∙ leads.lead) (left_represents new image represented left));
    stands = λ none. (represented, is ∙ leads.lead);
  }

  -- where a commit fails by anything but the disk, the store is as before
  as_before : (old new : StoreState D) (end limit before now : ℕ) (error : JournalError) → CommitAnswers {S = StoreState D} {T = Unit {0}} old new end limit before now (Err error) → is_disk (errors.Store error) ≡ false → new ≡ old
  as_before old new end limit before now (NotAStore place found expected) answers other = absurd answers
  as_before old new end limit before now (Full length bound) answers other = answers.3
  as_before old new end limit before now DiskFault answers other = absurd (true≢false other)
  as_before old new end limit before now NoMemory answers other = answers

  pub lost : ((disk : D) (since : ℕ) (image : List ℕ) → since ≤ moment disk → may_leave disk image → left_since disk since image) → (old new : StoreState D) (changes : List Change) (tables' : Tables) (end limit before now : ℕ) (error : JournalError) → LeadTo old.tables changes tables'
      → CommitAnswers {S = StoreState D} {T = Unit {0}} old new end limit before now (Err error)
      → LeavesOnly moment left_since old.disk new.disk (RepresentsEither old.tables (after_all old.tables changes)) → IsRepresented shown may_leave old
      → KeepsStore shown may_leave moment left_since old new (tables' ∷ []) old.tables (is_disk (errors.Store error))
  lost counts_now old new changes tables' end limit before now error leads answers run represented = record {
    any_moment = weaker moment left_since old.disk new.disk (RepresentsEither old.tables (after_all old.tables changes)) (RepresentsOneOf (old.tables ∷ tables' ∷ [])) run
        (λ image. either_of old.tables (after_all old.tables changes) tables' image leads.lead);
    now = λ image left. either_of old.tables (after_all old.tables changes) tables' image leads.lead (run.each image (counts_now new.disk (moment old.disk) image run.later left));
    stands = λ other. let same = as_before old new end limit before now error answers other in
        (subst (λ (store : StoreState D). IsRepresented shown may_leave store) (sym same) represented, ap (λ (store : StoreState D). store.tables) same);
  }

-- no changes lead to the same tables
pub none_lead : (tables : Tables) (changes : List Change) (tables' : Tables) → length changes ≡ 0 → LeadTo tables changes tables' → tables ≡ tables'
none_lead tables [] tables' none leads = leads.lead
none_lead tables (change ∷ changes) tables' none leads = absurd (omega (arith, none))
