-- What a get has received: pieces, each of which a checkpoint or the end of the data has ended, and what came after the
-- last one (profile).
use Rattle.std.specs.Prelude.{◌≡◌, ℕ, zero, suc, ◌+◌, ◌-◌, ◌≤◌, Bool, ◌&&◌, nat_le, nat_lt, List, [], ◌∷◌, ◌++◌, drop, length, min, take, if◌then◌else◌}
use Rattle.vf_base.specs.declared.element.Element.{Element}
use Rattle.vf_base.specs.declared.limits.TheConstants.{MOST_STRING_OCTETS}
use Rattle.vf_transfer.specs.Transfer.{joined}
use Rattle.vf_tree.specs.FileTree.{octets_of, octets_of_unit}
use Rattle.vf_tree.specs.Same.{is_same_unit}
use Rattle.vf_tree.specs.declared.limits.TheConstants.{MOST_FILE_OCTETS, MOST_FILE_PARTS}

pub record Gathering : Type 0 where
  pub pieces : List (List Element)
  pub fresh : List Element
  -- the pieces as they were kept last
  pub kept : List (List Element)

abbrev pub started : List (List Element) → Gathering
started pieces = record { pieces = pieces; fresh = []; kept = pieces }

-- all elements, in their order
abbrev pub all_of : Gathering → List Element
all_of g = joined g.pieces ++ g.fresh

-- An element within its own limit, and with which all are within a file.
abbrev pub has_room : Gathering → Element → Bool
has_room g element =
    nat_le (octets_of element) MOST_STRING_OCTETS
    && nat_le (octets_of_unit (all_of g) + octets_of element) MOST_FILE_OCTETS
    && nat_lt (length (all_of g)) MOST_FILE_PARTS

abbrev pub with_value : Gathering → Element → Gathering
with_value g element = record g { fresh = g.fresh ++ element ∷ [] }

-- what came after the last piece is a piece
abbrev pub kept_whole : Gathering → Gathering
kept_whole g = record g { pieces = g.pieces ++ g.fresh ∷ []; fresh = [] }

-- so many pieces are left, or all where they are fewer, and nothing after them
abbrev pub left_of : ℕ → Gathering → Gathering
left_of pieces g = record g { pieces = take pieces g.pieces; fresh = [] }

abbrev pub cut_to : ℕ → Gathering → Gathering
cut_to pieces g = left_of (min pieces (length g.pieces)) g

-- the pieces are kept as they are
abbrev pub marked : Gathering → Gathering
marked g = record g { kept = g.pieces }

-- how many pieces both begin with
abbrev pub common : List (List Element) → List (List Element) → ℕ
common [] others = 0
common (piece ∷ pieces) [] = 0
common (piece ∷ pieces) (other ∷ others) = if is_same_unit piece other then 1 + common pieces others else 0

-- ---- as the code keeps it: the elements in one list, and for each piece how many of them stand before its end; and the
-- pieces that were kept last in a list of their own, but only once some of them were cut

abbrev pub by_marks : (before : ℕ) → List ℕ → List Element → List (List Element)
by_marks before [] elements = []
by_marks before (mark ∷ marks) elements = take (mark - before) elements ∷ by_marks mark marks (drop (mark - before) elements)

abbrev pub after_marks : (before : ℕ) → List ℕ → List Element → List Element
after_marks before [] elements = elements
after_marks before (mark ∷ marks) elements = after_marks mark marks (drop (mark - before) elements)

-- they rise, and none is above the number of elements, of which so many stand before these
abbrev pub AreMarks : (before : ℕ) → List ℕ → List Element → Type 0
AreMarks before [] elements = Unit {0}
AreMarks before (mark ∷ marks) elements =
    (before ≤ mark) × (mark ≤ before + length elements) × AreMarks mark marks (drop (mark - before) elements)

-- how many of them stand before the end of so many pieces
abbrev pub end_of : (before pieces : ℕ) → List ℕ → ℕ
end_of before zero marks = before
end_of before (suc pieces) [] = before
end_of before (suc pieces) (mark ∷ marks) = end_of mark pieces marks

-- the pieces that were kept last: those in a list of their own, or, while there is none, so many of the pieces
abbrev pub kept_by : (before : List (List Element)) → (standing : ℕ) → (pieces : List (List Element)) → List (List Element)
kept_by [] standing pieces = take standing pieces
kept_by (piece ∷ before) standing pieces = piece ∷ before

-- another piece after these is the next one of those, or isn't
abbrev pub IsBack : (before : List (List Element)) → (standing : ℕ) → (pieces : List (List Element)) → (piece : List Element) → Type 0
IsBack before standing pieces piece = common (kept_by before standing pieces) (pieces ++ piece ∷ []) ≡ suc standing

abbrev pub IsOther : (before : List (List Element)) → (standing : ℕ) → (pieces : List (List Element)) → (piece : List Element) → Type 0
IsOther before standing pieces piece = common (kept_by before standing pieces) (pieces ++ piece ∷ []) ≡ standing
