-- The changes by which a store keeps a task as it stands (profile): its row where it differs, a cut to the last piece up to
-- which its pieces are those that are kept, where fewer stand, and each piece after it; or it is dropped.
use Rattle.std.specs.Prelude.{ℕ, Bool, true, false, ◌&&◌, nat_eq, nat_lt, List, [], ◌∷◌, ◌++◌, drop, length, Option, None, Some, if◌then◌else◌}
use Rattle.vf_base.specs.declared.element.Element.{Element}
use Rattle.vf_initiator.specs.Assignments.{row_of}
use Rattle.vf_initiator.specs.Gathering.{common}
use Rattle.vf_initiator.specs.Says.{activity_kept}
use Rattle.vf_initiator.specs.declared.conduct.Conduct.{Conduct}
use Rattle.vf_initiator.specs.declared.given.Given.{Given}
use Rattle.vf_initiator.specs.declared.mark.Mark.{Mark}
use Rattle.vf_initiator.specs.declared.progress.Progress.{Progress}
use Rattle.vf_tables.specs.Snapshot.{task_stages_after}
use Rattle.vf_tables.specs.declared.change.Change.{Change}
use Rattle.vf_tables.specs.declared.change.Change.TheVariants.{PutTask, CutTask, DropTask}
use Rattle.vf_tables.specs.declared.task.Phase.{Phase}
use Rattle.vf_tables.specs.declared.task.Phase.TheVariants.{New, Open, Whole, Concluded}
use Rattle.vf_tables.specs.declared.task.Way.TheVariants.{Get}

abbrev pub is_same_phase : Phase → Phase → Bool
is_same_phase New New = true
is_same_phase Open Open = true
is_same_phase Whole Whole = true
is_same_phase Concluded Concluded = true
is_same_phase phase other = false

abbrev pub is_same_progress : Progress → Progress → Bool
is_same_progress one other =
    nat_eq one.number other.number && nat_eq one.point other.point && is_same_phase one.phase other.phase && nat_eq one.outcome other.outcome

-- how it is kept: under which activity, and how far it has come
abbrev pub mark_of : Given → Conduct → Mark
mark_of given c =
    record { kept = activity_kept c.stage given.assignment.activity; progress = c.progress }

abbrev pub row_change : Given → (activity : ℕ) → Progress → Progress → List Change
row_change given activity before now = if is_same_progress before now then [] else PutTask (row_of given.assignment activity now) ∷ []

abbrev pub cut_change : (activity standing pieces : ℕ) → List Change
cut_change activity standing pieces = if nat_lt standing pieces then CutTask activity standing ∷ [] else []

-- the pieces after so many
abbrev pub stages_from : (activity standing : ℕ) → List (List Element) → List Change
stages_from activity standing pieces = task_stages_after Get activity standing (drop standing pieces)

-- from these pieces to those
abbrev pub piece_changes : (activity : ℕ) → (before after : List (List Element)) → List Change
piece_changes activity before after =
    let both = common before after in (cut_change activity both (length before) ++ stages_from activity both after)

abbrev pub changes_of : Given → Mark → Conduct → (activity : ℕ) → List Change
changes_of given mark c activity =
    row_change given activity mark.progress c.progress ++ piece_changes activity c.gathered.kept c.gathered.pieces

abbrev pub changes_by : Given → Mark → Conduct → (before now : Option ℕ) → List Change
changes_by given mark c None now = []
changes_by given mark c (Some activity) None = DropTask activity ∷ []
changes_by given mark c (Some activity) (Some same) = changes_of given mark c activity

abbrev pub changes_since : Given → Mark → Conduct → List Change
changes_since given mark c = changes_by given mark c mark.kept (activity_kept c.stage mark.kept)
