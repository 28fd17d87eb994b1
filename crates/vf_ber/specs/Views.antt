-- Values of the code as trees.
use Rattle.std.specs.Prelude.{List, [], ◌∷◌}
use Rattle.vf_ber.specs.declared.tag.Tag.{Tag}
use Rattle.vf_ber.specs.declared.value.Value.{Value}
use Rattle.vf_ber.specs.declared.value.Value.TheVariants.{Plain, Built}
use Rattle.vf_ber.specs.declared.header.Name.{Name}
use Rattle.vf_ber.specs.Tree as trees
use Rattle.vf_ber.specs.Steps as steps

-- a tag without what its type keeps of it
abbrev pub tag_of : Tag → trees.Tag
tag_of tag = record { class = tag.class; number = tag.number }

abbrev pub tree_of : Value → trees.Tree
tree_of (Plain tag octets) = trees.plain (tag_of tag) octets
tree_of (Built tag parts) = trees.built (tag_of tag) parts

abbrev pub trees_in : List Value → trees.Trees
trees_in [] = trees.none
trees_in (value ∷ values) = trees.more (tree_of value) (trees_in values)

abbrev pub name_of : Name → steps.Name
name_of name = record { constructed = name.constructed; tag = tag_of name.tag }
