-- How many calls of a disk are made, told by the plan of a disk that tells which are to fail (profile).
use Rattle.std.specs.Prelude.{◌≡◌, ◌⊎◌, ℕ, zero, suc, ◌<◌, Bool, true, false, not, ◌&&◌, Option, None, Some}
use Rattle.vf_disk.specs.Plans.{StopPlan, after_look, after_change, look_fails, change_fails}

-- after so many writes and syncs
abbrev pub after_changes : ℕ → StopPlan → StopPlan
after_changes zero plan = plan
after_changes (suc count) plan = after_change (after_changes count plan)

-- none of so many writes and syncs is planned to fail
abbrev pub no_change_fails : ℕ → StopPlan → Bool
no_change_fails zero plan = true
no_change_fails (suc count) plan = no_change_fails count plan && not (change_fails (after_changes count plan))

-- So many writes and syncs are made, none of which is planned to fail; or fewer, of which the last one fails.
abbrev pub MakesChanges : ℕ → Option StopPlan → Option StopPlan → Bool → Type 0
MakesChanges count None new failed = new ≡ None
MakesChanges count (Some old) new false = (no_change_fails count old ≡ true) × (new ≡ Some (after_changes count old))
MakesChanges count (Some old) new true = (made : ℕ) × (made < count) × (no_change_fails made old ≡ true) × (new ≡ Some (after_changes (suc made) old))

-- after so many calls of `len` and `read`
abbrev pub after_looks : ℕ → StopPlan → StopPlan
after_looks zero plan = plan
after_looks (suc count) plan = after_look (after_looks count plan)

abbrev pub no_look_fails : ℕ → StopPlan → Bool
no_look_fails zero plan = true
no_look_fails (suc count) plan = no_look_fails count plan && not (look_fails (after_looks count plan))

-- Some calls of `len` and `read` are made, none of which is planned to fail, or none but the last.
abbrev pub MakesLooks : Option StopPlan → Option StopPlan → Bool → Type 0
MakesLooks None new failed = new ≡ None
MakesLooks (Some old) new false = (count : ℕ) × (no_look_fails count old ≡ true) × (new ≡ Some (after_looks count old))
MakesLooks (Some old) new true =
    (count : ℕ) × (no_look_fails count old ≡ true) × (look_fails (after_looks count old) ≡ true) × (new ≡ Some (after_looks (suc count) old))

-- A sync is made and after it only calls of `len` and `read`, each as planned.
abbrev pub SyncsAndLooks : Option StopPlan → Option StopPlan → Bool → Type 0
SyncsAndLooks None new failed = new ≡ None
SyncsAndLooks (Some old) new false = (change_fails old ≡ false) × MakesLooks (Some (after_change old)) new false
SyncsAndLooks (Some old) new true =
    ((change_fails old ≡ true) × (new ≡ Some (after_change old))) ⊎ ((change_fails old ≡ false) × MakesLooks (Some (after_change old)) new true)
