-- Whether two tables are equal in files and dockets: then no change leads from the one to the other (profile).
use Rattle.std.specs.Prelude.{Bool, ◌&&◌, List, [], find, if◌then◌else◌}
use Rattle.std.specs.Cmp.Lexicographic.{pointwise}
use Rattle.std.specs.List.{list_all}
use Rattle.vf_base.specs.declared.element.Element.{Element}
use Rattle.vf_filestore.specs.Changes.{is_same_file, is_same_open, is_same_regime}
use Rattle.vf_tables.specs.Changes.{staged_in}
use Rattle.vf_tables.specs.declared.change.Change.{Change}
use Rattle.vf_tables.specs.declared.docket.Docket.{Docket}
use Rattle.vf_tables.specs.declared.tables.Tables.{Tables}
use Rattle.vf_tree.specs.Same.{is_same_unit}

-- dockets are equal but for their pieces
abbrev pub is_same_docket : Docket → Docket → Bool
is_same_docket one other = is_same_regime one.regime other.regime

abbrev pub are_same_pieces : (pieces others : List (List Element)) → Bool
are_same_pieces pieces others = pointwise is_same_unit pieces others

-- a docket has the pieces that the one of its open has among these; where there is none, it has no pieces
abbrev pub keeps_pieces : List Docket → Docket → Bool
keeps_pieces dockets docket = are_same_pieces (staged_in (find (is_same_open docket) dockets)) docket.staged

-- dockets first, and contents last
abbrev pub are_same_tables : Tables → Tables → Bool
are_same_tables before after =
    pointwise is_same_docket before.dockets after.dockets
    && (pointwise is_same_file before.files after.files && list_all (keeps_pieces before.dockets) after.dockets)

-- the changes, where they lead to other tables
abbrev pub unless_same : Tables → Tables → List Change → List Change
unless_same before after changes = if are_same_tables before after then [] else changes
