-- The contents of one file and the position of each regime in which it is open, and what their operations do to these
-- (ISO 8571-2, file model; profile). Each acts on the contents as a whole, from the position of its own regime.
use Rattle.std.specs.Prelude.{◌≡◌, ℕ, Bool, true, false, List, if◌then◌else◌, nat_eq, Result, Ok, Err}
use Rattle.vf_base.specs.declared.element.Element.{Element}
use Rattle.vf_tree.specs.Actions.{Outcome}
use Rattle.vf_tree.specs.Acts.{Act, Locates, Reads, Inserts, Replaces, Extends, Erases, does}
use Rattle.vf_tree.specs.FileTree.{FileTree}
use Rattle.vf_tree.specs.TreeRefusal.{TreeRefusal}
use Rattle.vf_serial.specs.Schedule.{AreApart, AreShown, CeasesOnce, Place, performed, serial}

-- an operation: the act, with its identity and its values, and the elements that it showed in the run
pub record Operation : Type 0 where
  pub act : Act
  pub shown : List Element

pub record World : Type 0 where
  pub tree : FileTree
  pub position : (regime : ℕ) → ℕ

abbrev pub placed : (regime position : ℕ) → ((regime : ℕ) → ℕ) → (regime : ℕ) → ℕ
placed regime position before other = if nat_eq other regime then position else before other

-- what is refused leaves all as it was
abbrev pub left_by : World → (regime : ℕ) → Result Outcome TreeRefusal → World
left_by world regime (Ok outcome) =
    record { tree = outcome.tree; position = placed regime outcome.position world.position }
left_by world regime (Err refusal) = world

abbrev pub step : (regime : ℕ) → Operation → World → World
step regime operation world = left_by world regime (does world.tree (world.position regime) operation.act)

-- it isn't refused, and shows what it showed
abbrev pub IsShowing : List Element → Result Outcome TreeRefusal → Type 0
IsShowing shown (Ok outcome) = outcome.shown ≡ shown
IsShowing shown (Err refusal) = ⊥

abbrev pub Shows : (regime : ℕ) → Operation → World → Type 0
Shows regime operation world = IsShowing operation.shown (does world.tree (world.position regime) operation.act)

-- it doesn't change the contents
abbrev pub is_reading : Act → Bool
is_reading (Locates id) = true
is_reading (Reads id context) = true
is_reading (Inserts id units) = false
is_reading (Replaces id unit) = false
is_reading (Extends id unit) = false
is_reading (Erases id) = false

-- operations of two regimes are apart where neither changes the contents
abbrev pub Apart : Operation → Operation → Type 0
Apart one other = (is_reading one.act ≡ true) × (is_reading other.act ≡ true)

-- what a schedule leaves of the file, from these contents and positions on
abbrev pub contents_after : List (Place Operation) → World → FileTree
contents_after schedule world = (performed step schedule world).tree

-- where each operation shows what it showed, from there on
abbrev pub ShowsAll : List (Place Operation) → World → Type 0
ShowsAll schedule world = AreShown step Shows schedule world

-- SERIAL USE. Where each operation of a schedule shows in its own order what it showed in the run, and leaves these
-- contents, it does so one regime after another in the serial order.
pub record IsSerial (schedule : List (Place Operation)) (world : World) (tree : FileTree) : Type 0 where
  pub leaves : contents_after (serial schedule) world ≡ tree
  pub shows : ShowsAll (serial schedule) world

abbrev pub FilesAreSerial : Type 0
FilesAreSerial =
    (schedule : List (Place Operation)) (world : World) → CeasesOnce schedule → AreApart Apart schedule → ShowsAll schedule world
    → IsSerial schedule world (contents_after schedule world)
