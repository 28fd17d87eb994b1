-- Why an action on a file is refused (ISO 8571-3, diagnostic; the numbers are profile).
use Rattle.std.specs.Prelude.{◌≡◌, Result, Ok, Err, IsOk}
use Rattle.vf_tree.specs.declared.errors.TreeError.{TreeError}
use Rattle.vf_tree.specs.declared.errors.TreeError.TheVariants as errors

pub data TreeRefusal : Type 0 where
  -- the constraint set has no such action: 18
  Outside : TreeRefusal
  -- the identity means no FADU, or none that the action takes: 19
  NotFound : TreeRefusal
  -- the constraint set has no such access context: 20
  BadContext : TreeRefusal

abbrev pub error_of : TreeRefusal → TreeError
error_of Outside = errors.Outside
error_of NotFound = errors.NotFound
error_of BadContext = errors.BadContext

-- what a call answers that takes no memory
abbrev pub answered : {A : Type 0} → Result A TreeRefusal → Result A TreeError
answered (Ok value) = Ok value
answered (Err refusal) = Err (error_of refusal)

-- Why a call does nothing: it is refused, or memory is wanting, but only where nothing is refused.
abbrev pub IsCause : {A : Type 0} → Result A TreeRefusal → TreeError → Type 0
IsCause answer errors.Outside = answer ≡ Err Outside
IsCause answer errors.NotFound = answer ≡ Err NotFound
IsCause answer errors.BadContext = answer ≡ Err BadContext
IsCause answer errors.NoMemory = IsOk answer

-- What a call answers is, seen so, what the definition answers, each refusal included.
abbrev pub Meets : {A B : Type 0} → (A → B) → Result B TreeRefusal → Result A TreeError → Type 0
Meets seen answer (Ok value) = answer ≡ Ok (seen value)
Meets seen answer (Err error) = IsCause answer error
