-- Tags (ISO 8825, 8.1.2): a class of 0 to 3 and a number, at most 16,383 in this profile. Universal 0 is the
-- end of contents, and no value has it.
use Rattle.std.specs.Prelude.{◌+◌, ◌≤◌, ◌<◌}
use Rattle.vf_ber.specs.Tree.{Tag, Tree, plain, built, Trees, none, more}

pub record IsTag (tag : Tag) : Type 0 where
  pub class_within : tag.class ≤ 3
  pub number_within : tag.number ≤ 16383
  pub some_value : 0 < tag.class + tag.number

abbrev mutual
  -- every tag of it is one
  pub IsTree : Tree → Type 0
  IsTree (plain tag octets) = IsTag tag
  IsTree (built tag parts) = IsTag tag × AreTrees parts

  pub AreTrees : Trees → Type 0
  AreTrees none = Unit {0}
  AreTrees (more part parts) = IsTree part × AreTrees parts
