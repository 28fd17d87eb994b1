-- The attributes of a file without its name and its contents, and when two files have equal ones.
use Rattle.std.specs.Prelude.{ℕ, Bool, true, false, ◌&&◌, nat_eq, List, Option, Some, None}
use Rattle.std.specs.Cmp.Lexicographic.{pointwise}
use Rattle.vf_base.specs.declared.contents.Contents.{Contents}
use Rattle.vf_base.specs.declared.term.Term.{Term}
use Rattle.vf_attr.specs.declared.attributes.Attributes.{Attributes}
use Rattle.vf_attr.specs.declared.file.File.{File}
use Rattle.vf_attr.specs.declared.stamp.Stamp.{Stamp}

abbrev pub attributes_of : File → Attributes
attributes_of file = record {
  permitted = file.permitted;
  contents = file.contents;
  terms = file.terms;
  created = file.created;
  modified = file.modified;
  read = file.read;
  changed = file.changed;
  version = file.version;
}

-- the file with these attributes; its name and its contents stay
abbrev pub with_attributes : Attributes → File → File
with_attributes attributes file = record {
  name = file.name;
  permitted = attributes.permitted;
  contents = attributes.contents;
  terms = attributes.terms;
  created = attributes.created;
  modified = attributes.modified;
  read = attributes.read;
  changed = attributes.changed;
  version = attributes.version;
  tree = file.tree;
}

abbrev pub is_same_stamp : Stamp → Stamp → Bool
is_same_stamp stamp other = nat_eq stamp.moment other.moment && pointwise nat_eq stamp.identity other.identity

abbrev pub is_same_option : Option Stamp → Option Stamp → Bool
is_same_option (Some stamp) (Some other) = is_same_stamp stamp other
is_same_option None None = true
is_same_option _ _ = false

abbrev pub is_same_text : Option (List ℕ) → Option (List ℕ) → Bool
is_same_text (Some text) (Some other) = pointwise nat_eq text other
is_same_text None None = true
is_same_text _ _ = false

abbrev pub is_same_term : Term → Term → Bool
is_same_term term other =
    is_same_text term.identity other.identity && nat_eq term.actions.value other.actions.value && is_same_text term.password other.password

abbrev pub is_same_contents : Contents → Contents → Bool
is_same_contents contents other =
    pointwise nat_eq contents.kind other.kind && nat_eq contents.class other.class && nat_eq contents.longest other.longest
    && nat_eq contents.significance other.significance

-- what is set at the creation or by F-CHANGE-ATTRIB
abbrev pub are_same_settings : Attributes → Attributes → Bool
are_same_settings one other =
    nat_eq one.permitted.value other.permitted.value && is_same_contents one.contents other.contents
    && pointwise is_same_term one.terms other.terms && is_same_stamp one.created other.created
    && is_same_option one.changed other.changed

-- these, what a write sets, and what a read does
unfoldable pub are_same_attributes : Attributes → Attributes → Bool
are_same_attributes one other =
    (nat_eq one.version other.version && are_same_settings one other && is_same_option one.modified other.modified)
    && is_same_option one.read other.read
