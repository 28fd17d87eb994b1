-- Serial use of each file of a run (profile): where all its open regimes isolate, what was read and what is left are as
-- if they had used it one after another, in the order in which they ceased to hold.
use Rattle.std.specs.Prelude.{◌≡◌, true, List, [], ◌∷◌, IfSome, Some, option_map}
use Rattle.std.specs.List.{AllByRecursion}
use Rattle.vf_attr.specs.declared.file.File.{File}
use Rattle.vf_filestore.specs.Files.{file_named}
use Rattle.vf_tree.specs.FileTree.{FileTree}
use Rattle.vf_filestore.specs.Keeping.{AreHistoriesKept}
use Rattle.vf_filestore.specs.Laws.{IsNew}
use Rattle.vf_filestore.specs.Sound.{IsSound}
use Rattle.vf_filestore.specs.State.{State}
use Rattle.vf_serial.specs.FileModel.{Apart, ShowsAll, contents_after}
use Rattle.vf_serial.specs.Moves.{Happening, Happens, Drops, after, state_after}
use Rattle.vf_serial.specs.Schedule.{AreApart, CeasesOnce, serial}
use Rattle.vf_serial.specs.Uses.{Use, is_isolated, last_name, schedule_of, uses}

-- a link that arrives is none that stands
abbrev pub AreNew : List Happening → State → Type 0
AreNew [] state = Unit {0}
AreNew (Happens event ∷ later) state = IsNew event state × AreNew later (after state (Happens event))
AreNew (Drops identity activity ∷ later) state = AreNew later (after state (Drops identity activity))

-- FIRST HALF. The schedule of such a file is one that the law over lists speaks of.
pub record IsOrderly (one : Use) : Type 0 where
  pub once : CeasesOnce (schedule_of one)
  pub apart : AreApart Apart (schedule_of one)

abbrev pub EachUse : (Use → Type 0) → List Happening → State → Type 0
EachUse Is happenings state = AllByRecursion (λ (one : Use). is_isolated one ≡ true → Is one) (uses happenings state)

abbrev pub RunsAreOrderly : Type 0
RunsAreOrderly =
    (happenings : List Happening) (state : State) → AreNew happenings state → IsSound state → AreHistoriesKept state → EachUse IsOrderly happenings state

-- The file that it is at the end, unless it is deleted, has these contents.
abbrev pub Leaves : List File → FileTree → Use → Type 0
Leaves files tree one =
    IfSome (last_name one.file one.moves) (λ name. option_map (λ (file : File). file.tree) (file_named name files) ≡ Some tree)

-- Performed in their own order, its operations show what they showed, and leave what the file has.
pub record IsPerformed (files : List File) (one : Use) : Type 0 where
  pub shows : ShowsAll (schedule_of one) one.world
  pub leaves : Leaves files (contents_after (schedule_of one) one.world) one

abbrev pub RunsPerform : Type 0
RunsPerform =
    (happenings : List Happening) (state : State) → AreNew happenings state → IsSound state → AreHistoriesKept state
    → AllByRecursion (IsPerformed (state_after happenings state).files) (uses happenings state)

-- BOTH HALVES. In the serial order they show what they showed, and leave what the file has.
pub record IsUsedSerially (files : List File) (one : Use) : Type 0 where
  pub shows : ShowsAll (serial (schedule_of one)) one.world
  pub leaves : Leaves files (contents_after (serial (schedule_of one)) one.world) one

abbrev pub RunsAreSerial : Type 0
RunsAreSerial =
    (happenings : List Happening) (state : State) → AreNew happenings state → IsSound state → AreHistoriesKept state
    → EachUse (IsUsedSerially (state_after happenings state).files) happenings state
