-- Values of the basic encoding rules (ISO 8825), apart from where they lie in memory: trees of tagged octets.
use Rattle.std.specs.Prelude.{ℕ, zero, suc, ◌+◌, max, List, Option, Some, None}

-- class: universal 0, application 1, context 2, private 3
pub record Tag : Type 0 where
  pub class : ℕ
  pub number : ℕ

mutual
  -- a value is primitive, with octets, or constructed, with parts (8.1.2.5)
  pub data Tree : Type 0 where
    plain : Tag → List ℕ → Tree
    built : Tag → Trees → Tree

  -- a list of trees
  pub data Trees : Type 0 where
    none : Trees
    more : Tree → Trees → Trees

abbrev mutual
  -- the outermost value has depth 1
  pub depth : Tree → ℕ
  depth (plain tag octets) = 1
  depth (built tag parts) = depth_in parts + 1

  pub depth_in : Trees → ℕ
  depth_in none = 0
  depth_in (more part parts) = max (depth part) (depth_in parts)

abbrev mutual
  -- how many values and ends of lists there are
  pub nodes : Tree → ℕ
  nodes (plain tag octets) = 1
  nodes (built tag parts) = nodes_in parts + 1

  pub nodes_in : Trees → ℕ
  nodes_in none = 1
  nodes_in (more part parts) = nodes part + nodes_in parts + 1

-- the parts of one list, and then those of another
abbrev pub joined : Trees → Trees → Trees
joined none others = others
joined (more part parts) others = more part (joined parts others)

abbrev pub count : Trees → ℕ
count none = 0
count (more part parts) = count parts + 1

-- the part at a place, from 0 on
abbrev pub part_at : Trees → ℕ → Option Tree
part_at none place = None
part_at (more part parts) zero = Some part
part_at (more part parts) (suc place) = part_at parts place

abbrev pub root : Tree → Tag
root (plain tag octets) = tag
root (built tag parts) = tag
