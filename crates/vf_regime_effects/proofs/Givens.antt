-- What requests of transfers are given that no row before their act refuses.
use Rattle.std.proofs.Common.{◌≡◌, ℕ, Bool, true, false, cond, not, [], ◌∷◌, None, Some, Result, Ok, Err, refl}
use Rattle.vf_attr.specs.Access.{has}
use Rattle.vf_attr.specs.declared.file.File.{File}
use Rattle.vf_base.specs.declared.access.Context.{Context}
use Rattle.vf_base.specs.declared.access.FaduId.{FaduId}
use Rattle.vf_base.specs.declared.action.Action.TheVariants as actions
use Rattle.vf_base.specs.declared.action.Actions.{Actions}
use Rattle.vf_filestore.specs.Diagnostics.{first_row, not_permitted, plain, row, unit_not_agreed}
use Rattle.vf_filestore.specs.Opening.{act_row, given_unless, read_given, showing}
use Rattle.vf_filestore.specs.Units.{read_unit}
use Rattle.vf_tables.specs.Validity.{includes}
use Rattle.vf_regime_effects.specs.Steps.{shown_by}
use Rattle.vf_tree.specs.Actions.{Outcome}
use Rattle.vf_tree.specs.Acts.{Reads, does, shown_of}
use Rattle.vf_tree.specs.TreeRefusal.{TreeRefusal}

showing_by : (version : ℕ) (outcome : Result Outcome TreeRefusal)
    → given_unless (first_row (act_row outcome ∷ [])) version (showing version outcome) ≡ shown_by version (shown_of outcome)
showing_by version (Ok outcome) = refl
showing_by version (Err refusal) = refl

behind : (agreed may : Bool) (version : ℕ) (outcome : Result Outcome TreeRefusal) → agreed ≡ true → may ≡ true
    → given_unless (first_row (cond agreed None (Some (plain unit_not_agreed)) ∷ row (not may) not_permitted ∷ act_row outcome ∷ [])) version (showing version outcome)
    ≡ shown_by version (shown_of outcome)
behind true true version outcome agrees permits = showing_by version outcome
behind true false version outcome agrees permits = absurd cc
behind false may version outcome agrees permits = absurd cc

-- a read whose unit is agreed and whose action is in the mode
pub read_by : (file : File) (units : ℕ) (mode : Actions) (position : ℕ) (fadu : FaduId) (context : Context)
    → includes units read_unit ≡ true → has mode actions.Read ≡ true
    → read_given (Some file) units mode position fadu context ≡ shown_by file.version (shown_of (does file.tree position (Reads fadu context)))
read_by file units mode position fadu context agrees permits =
    behind (includes units read_unit) (has mode actions.Read) file.version (does file.tree position (Reads fadu context)) agrees permits
