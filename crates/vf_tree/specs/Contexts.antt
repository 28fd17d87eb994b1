-- What a read shows (ISO 8571-2, access contexts; which of them are allowed where is profile): a list of data
-- elements in preorder, and the position after it.
use Rattle.std.specs.Prelude.{ℕ, Bool, true, false, List, [], ◌∷◌, ◌++◌, length, ◌-◌, Option, Some, None, Result, Ok, Err, if◌then◌else◌, nat_eq, slice_get}
use Rattle.vf_base.specs.declared.access.Constraint.{Constraint}
use Rattle.vf_base.specs.declared.access.Constraint.TheVariants.{Unstructured, SequentialFlat}
use Rattle.vf_base.specs.declared.access.Context.{Context}
use Rattle.vf_base.specs.declared.access.Context.TheVariants.{HA, FA, UA, US}
use Rattle.vf_base.specs.declared.access.FaduId.{FaduId}
use Rattle.vf_base.specs.declared.access.FaduId.TheVariants.{Begin, First}
use Rattle.vf_base.specs.declared.element.Element.{Element}
use Rattle.vf_base.specs.declared.element.Element.TheVariants.{Descriptor, Enter, Exit}
use Rattle.vf_tree.specs.FileTree.{FileTree, DataUnit, strings}
use Rattle.vf_tree.specs.Identities.{meant, standing}
use Rattle.vf_tree.specs.TreeRefusal.{TreeRefusal, NotFound, BadContext}

-- the contexts that a constraint set takes
abbrev pub takes : Constraint → Context → Bool
takes Unstructured UA = true
takes Unstructured US = true
takes SequentialFlat HA = true
takes SequentialFlat FA = true
takes SequentialFlat UA = true
takes _ _ = false

-- the descriptor of a FADU without a name; one is filled where it has a data unit of its own
abbrev pub descriptor : Bool → Element
descriptor filled = Descriptor None filled

-- each unit's descriptor and strings
abbrev pub described : List DataUnit → List Element
described [] = []
described (unit ∷ units) = descriptor true ∷ (unit ++ described units)

-- the whole file: the hierarchy with all data units, the data units with their descriptors, or the strings alone
abbrev pub whole : Context → List DataUnit → List Element
whole HA units = descriptor false ∷ Enter ∷ (described units ++ Exit ∷ [])
whole FA units = described units
whole UA units = strings units
whole US units = strings units

-- one unit of a sequential flat file
abbrev pub one : Context → DataUnit → List Element
one HA unit = descriptor true ∷ unit
one FA unit = descriptor true ∷ unit
one UA unit = unit
one US unit = unit

-- the unit at a position; none at begin and end
abbrev pub unit_there : List DataUnit → ℕ → Option DataUnit
unit_there units i = if nat_eq i 0 then None else slice_get units (i - 1)

-- an unstructured file is read whole, and has no position but 0
abbrev pub reading_whole : List DataUnit → FaduId → Result (List Element × ℕ) TreeRefusal
reading_whole units Begin = Ok (strings units, 0)
reading_whole units First = Ok (strings units, 0)
reading_whole units _ = Err NotFound

-- a unit, which is then the position
abbrev pub reading_one : Context → ℕ → Option DataUnit → Result (List Element × ℕ) TreeRefusal
reading_one context i (Some unit) = Ok (one context unit, i)
reading_one context i None = Err NotFound

-- a sequential flat file is read whole from its begin, and leaves the position there; else one unit is read
abbrev pub reading_flat : List DataUnit → ℕ → FaduId → Context → Result (List Element × ℕ) TreeRefusal
reading_flat units p Begin context = Ok (whole context units, 0)
reading_flat units p id context = let i = meant (length units) p id in reading_one context i (unit_there units i)

abbrev pub reading : Constraint → List DataUnit → ℕ → FaduId → Context → Result (List Element × ℕ) TreeRefusal
reading Unstructured units p id context = reading_whole units id
reading SequentialFlat units p id context = reading_flat units (standing (length units) p) id context

-- F-READ: the context is looked at before the identity
abbrev pub shown : FileTree → ℕ → FaduId → Context → Result (List Element × ℕ) TreeRefusal
shown tree p id context =
    if takes tree.constraint context then reading tree.constraint tree.units p id context else Err BadContext
