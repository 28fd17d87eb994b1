-- A change of attributes changes the selected file in its place, and who holds each file, as it does in the filestore.
use Rattle.std.proofs.Common.{◌≡◌, ℕ, Bool, true, false, List, Option, None, Some, refl, sym, subst, ◌∙◌}
use Rattle.std.specs.Str.{bytes_eq}
use Rattle.vf_attr.specs.Change.{after_change}
use Rattle.vf_attr.specs.declared.changes.AttributeChange.{AttributeChange}
use Rattle.vf_attr.specs.declared.file.File.{File}
use Rattle.vf_attr.specs.declared.stamp.Stamp.{Stamp}
use Rattle.vf_base.specs.declared.action.Controls.{Controls}
use Rattle.vf_filestore.specs.Changes.{file_changes}
use Rattle.vf_filestore.specs.Effects.{changed, put_where}
use Rattle.vf_filestore.specs.Files.{file_named}
use Rattle.vf_filestore.specs.History.{Selection}
use Rattle.vf_filestore.specs.Holders.{controls_by}
use Rattle.vf_filestore.specs.HoldersAfter as whole
use Rattle.vf_filestore.specs.HoldersAfter.{Keeps}
use Rattle.vf_filestore.specs.State.{State}
use Rattle.vf_filestore.proofs.HeldCalls.{moves_follow}
use Rattle.vf_filestore.proofs.Unchanged.{files_themselves}
use Rattle.vf_party_steps.specs.Renames.{IsMoved, IsMovedUnless, IsRenamed, changes_where}
use Rattle.vf_party_steps.specs.Steps.{HoldersOfFiles}
use Rattle.vf_party_steps.proofs.FileChanges.{changes_placed}

-- the file of this name has other attributes, where it is there
pub changes_named : (name : List ℕ) (files : List File) (stamp : Stamp) (change : AttributeChange)
    → changes_where (file_named name files) stamp change ≡ file_changes files (put_where name (changed (file_named name files) stamp change) files)
changes_named name files stamp change = by (file_named name files) refl
  where
    by : (found : Option File) → file_named name files ≡ found → changes_where found stamp change ≡ file_changes files (put_where name (changed found stamp change) files)
    by None is = sym (files_themselves files)
    by (Some file) is = sym (changes_placed name files file (after_change file stamp change) is)

-- the two calls that move its holder
pub moved_to : (link : ℕ) (old new : List ℕ) (controls : Controls) (before after : HoldersOfFiles) → bytes_eq new old ≡ false
    → IsMoved link old new controls before after → IsMovedUnless (bytes_eq new old) link old new controls before after
moved_to link old new controls before after other moved = subst (λ (b : Bool). IsMovedUnless b link old new controls before after) (sym other) moved

-- a party without an open has another name for its file, or none
pub renames_follow : (table later : HoldersOfFiles) (before after : State) (link : ℕ) (one : Selection) (name : Option (List ℕ)) → Keeps table before
    → IsRenamed link one.file name (controls_by one None) table later → whole.IsRenamed link name None (Some one) before after → Keeps later after
renames_follow table later before after link one None keeps same becomes = λ file. same file ∙ keeps file ∙ sym (becomes file)
renames_follow table later before after link one (Some name) keeps moved becomes = by (bytes_eq name one.file) refl moved becomes
  where
    by : (b : Bool) → bytes_eq name one.file ≡ b → IsMovedUnless b link one.file name (controls_by one None) table later
        → whole.IsMovedUnless b link one.file name (controls_by one None) before after → Keeps later after
    by true is same becomes = λ file. same file ∙ keeps file ∙ sym (becomes file)
    by false is moved becomes =
        moves_follow table moved.between later before after link one.file name (controls_by one None) is keeps moved.granted moved.released becomes
