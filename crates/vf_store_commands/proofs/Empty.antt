-- A disk that is asked whether it is empty, and what lines lead to.
use Rattle.std.proofs.Common.{◌≡◌, inl, inr, ⊎_elim, ℕ, List, [], ◌∷◌, length, Option, Some, Ok, Err, refl, sym, subst, ◌∙◌}
use Rattle.vf_disk.specs.Disk.{Elapses, LeavesOnly, LeavesShown, Within}
use Rattle.vf_disk.proofs.Runs.{joined, leaves_after, leaves_at_first, leaves_octets}
use Rattle.vf_journal.specs.Image.{refusal}
use Rattle.vf_tables.specs.declared.user.User.{User}
use Rattle.vf_store_commands.specs.Making.{IsMaking, MayLeave, printed_by_init, printed_told}
use Rattle.vf_cli_printing.specs.Printed.{IsOneOf, Prints}
use Rattle.vf_store_commands.specs.ErrorLines.{no_store_line}
use Rattle.vf_store_commands.specs.Reading.{Tells}
use Rattle.vf_store_commands.specs.UserLines.{users_told}
use Rattle.vf_store_commands.specs.declared.user_lines.Told.{Told}
use Rattle.vf_store_commands.specs.declared.user_lines.Told.TheVariants.{Users, Bad}
use Rattle.vf_store_commands.proofs.Faults.{status_of}
use Rattle.vf_store_commands.proofs.Statuses.{apart}

-- the disk is empty, or it isn't
pub on_empty_disk : (octets lines : List ℕ) → length octets ≡ 0 → printed_told (users_told lines) ≡ printed_by_init octets lines
on_empty_disk [] lines none = refl
on_empty_disk (octet ∷ octets) lines none = absurd cc

pub on_other_disk : (octets lines : List ℕ) → (length octets ≡ 0 → ⊥) → record { octets = no_store_line 0; status = 8 } ≡ printed_by_init octets lines
on_other_disk [] lines some = absurd (some refl)
on_other_disk (octet ∷ octets) lines some = refl

pub is_nothing : (octets : List ℕ) → length octets ≡ 0 → octets ≡ []
is_nothing [] none = refl
is_nothing (octet ∷ octets) none = absurd cc

-- octets that are none are no store
pub empty_may : (lines : List ℕ) → MayLeave lines []
unfolding refusal
empty_may lines = inl (inl refl)

pub making_may : (lines : List ℕ) (users : List User) → users_told lines ≡ Ok users → (image : List ℕ) → IsMaking users image → MayLeave lines image
making_may lines users told image making = ⊎_elim (λ none. inl none) (λ held. inr (users, told, held)) making

-- what was told is these users, or a bad line
pub tells_users : (lines : List ℕ) (told : Told) (users : List User) → told ≡ Users users → Tells lines told → users_told lines ≡ Ok users
tells_users lines told users is tells = subst (Tells lines) is tells

pub tells_bad : (lines : List ℕ) (told : Told) (number : ℕ) → told ≡ Bad number → Tells lines told → users_told lines ≡ Err number
tells_bad lines told number is tells = subst (Tells lines) is tells

-- a store of users was made, or is being made
pub zero_alone : (octets : List ℕ) (status : ℕ) (old new : Option (List ℕ)) → Prints (4 ∷ 5 ∷ 9 ∷ []) (record { octets = octets; status = 0 }) status old new
    → IsOneOf (3 ∷ 8 ∷ 11 ∷ []) status → ⊥
zero_alone octets status old new prints is =
    apart (0 ∷ 4 ∷ 5 ∷ 9 ∷ []) (3 ∷ 8 ∷ 11 ∷ []) status refl (status_of (4 ∷ 5 ∷ 9 ∷ []) (record { octets = octets; status = 0 }) status old new prints) is

pub empty_making : (users : List User) → IsMaking users []
unfolding refusal
empty_making users = inl (inl refl)

module _ {D : Type 0} (shown : D → Option (List ℕ)) (may_leave : D → List ℕ → Type 0) (moment : D → ℕ) (left_since : D → ℕ → List ℕ → Type 0)
    (only_now : (disk : D) (image : List ℕ) → left_since disk (moment disk) image → may_leave disk image) where
  module _ (old : D) (P : List ℕ → Type 0) (none : P []) (shows : shown old ≡ Some []) (synced : LeavesShown (shown old) (may_leave old)) where
    empty_only : (image : List ℕ) → may_leave old image → P image
    empty_only image may = subst P (sym (leaves_octets (shown old) (may_leave old) [] image synced shows may)) none

    -- nothing was done to it
    pub idle_leaves : LeavesOnly moment left_since old old P
    idle_leaves = leaves_at_first moment left_since old P (λ image left. empty_only image (only_now old image left))

    -- it was looked at
    pub look_leaves : (new : D) → Elapses (moment old) (moment new) (left_since old) (left_since new) (may_leave new) → Within (may_leave old) (may_leave new) → LeavesOnly moment left_since old new P
    look_leaves new time within = leaves_after moment left_since old old new P (may_leave new) idle_leaves time (λ image may. empty_only image (within image may))

    pub then_leaves : (between new : D) → Elapses (moment old) (moment between) (left_since old) (left_since between) (may_leave between) → Within (may_leave old) (may_leave between)
        → LeavesOnly moment left_since between new P → LeavesOnly moment left_since old new P
    then_leaves between new time within later =
        joined moment left_since old between new P P P (look_leaves between time within) later (λ image first. first) (λ image second. second)

pub shown_still : (old new : Option (List ℕ)) (images others : List ℕ → Type 0) → new ≡ old → Within images others → LeavesShown old images → LeavesShown new others
shown_still old new images others same within synced = λ image may. same ∙ synced image (within image may)
