-- The document types FTAM-1, FTAM-2 and FTAM-3 (ISO 8571-2, document types), with the parameters that this profile
-- takes.
use Rattle.std.specs.Prelude.{ℕ, Bool, ◌&&◌, ◌||◌, not, nat_eq, nat_le, List, [], ◌∷◌, Option, Some, None, option_map, if◌then◌else◌}
use Rattle.std.specs.Str.{bytes_eq}
use Rattle.vf_base.specs.declared.limits.TheConstants.{MOST_STRING_OCTETS}
use Rattle.vf_base.specs.declared.access.Constraint.{Constraint}
use Rattle.vf_base.specs.declared.access.Constraint.TheVariants.{Unstructured, SequentialFlat}
use Rattle.vf_base.specs.declared.contents.Contents.{Contents}
use Rattle.vf_doctype.specs.declared.doc_type.DocType.{DocType}
use Rattle.vf_doctype.specs.declared.doc_type.Kind.{Kind}
use Rattle.vf_doctype.specs.declared.doc_type.Kind.TheVariants.{Ftam1, Ftam2, Ftam3}

-- the object identifier of an entry of the register: 1.0.8571.5 and its number
abbrev pub entry : ℕ → List ℕ
entry number = 1 ∷ 0 ∷ 8571 ∷ 5 ∷ number ∷ []

abbrev pub kind_of : List ℕ → Option Kind
kind_of arcs =
    if bytes_eq arcs (entry 1) then Some Ftam1
    else if bytes_eq arcs (entry 2) then Some Ftam2
    else if bytes_eq arcs (entry 3) then Some Ftam3
    else None

-- IA5 22, graphic 25, visible 26, general 27: the universal classes of character strings
abbrev pub is_class : ℕ → Bool
is_class class = nat_eq class 22 || nat_eq class 25 || nat_eq class 26 || nat_eq class 27

abbrev pub is_fixed : Contents → Bool
is_fixed contents = nat_eq contents.significance 1

-- strings of a fixed length have one
abbrev pub has_parameters : Contents → Bool
has_parameters contents =
    is_class contents.class && nat_le contents.longest MOST_STRING_OCTETS && nat_le contents.significance 2
    && not (is_fixed contents && nat_eq contents.longest 0)

-- the document type of a contents type, where it is one
abbrev pub doc_type : Contents → Option DocType
doc_type contents =
    if has_parameters contents
    then option_map (λ kind. record { kind = kind; class = contents.class; longest = contents.longest; is_fixed = is_fixed contents }) (kind_of contents.kind)
    else None

-- unstructured text and binary; sequential text
abbrev pub constraint_of : Kind → Constraint
constraint_of Ftam1 = Unstructured
constraint_of Ftam2 = SequentialFlat
constraint_of Ftam3 = Unstructured
