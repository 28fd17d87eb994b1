-- The parameters of PDUs that are constructed of fields of their own (profile).
use Rattle.std.specs.Prelude.{[], ◌∷◌}
use Rattle.vf_pdu_fields.specs.Content.{Listed, nothing}
use Rattle.vf_pdu_fields.specs.Rows.{Any, Integer, Text, String, Oid, Date, Need, required, optional, default, Form, one, sequence, list, Row, field, row, a, int, or}

abbrev pub diagnostic_fields : Row
diagnostic_fields = row (
    a 0 (int 1 65535) required ∷
    a 1 (one (Integer Any)) (or 0) ∷
    a 2 (one (Integer Any)) (or 0) ∷ [])

abbrev pub diagnostic : Form
diagnostic = sequence diagnostic_fields

-- a contents type: its document type, the class of its strings, the most octets of a string (0 without a limit)
-- and the string significance
abbrev pub contents_fields : Row
contents_fields = row (
    a 0 (one Oid) required ∷
    a 1 (int 0 255) (or 25) ∷
    a 2 (int 0 4294967295) (or 0) ∷
    a 3 (int 0 255) (or 0) ∷ [])

abbrev pub contents : Form
contents = sequence contents_fields

-- an access control list: whose term it is, the actions granted, and a password
abbrev pub term : Row
term = row (
    a 0 (one Text) optional ∷
    a 1 (int 0 255) required ∷
    a 2 (one String) optional ∷ [])

abbrev pub terms : Form
terms = list term

-- the same as it is shown, without passwords
abbrev pub grant : Row
grant = row (
    a 0 (one Text) optional ∷
    a 1 (int 0 255) required ∷ [])

abbrev pub grants : Form
grants = list grant

abbrev pub no_terms : Need
no_terms = default (Listed nothing)

abbrev pub stamp_fields : Row
stamp_fields = row (
    a 0 (one Date) required ∷
    a 1 (one Text) required ∷ [])

abbrev pub stamp : Form
stamp = sequence stamp_fields

abbrev pub attribute_stamps : Row
attribute_stamps = row (
    a 4 stamp optional ∷
    a 5 stamp optional ∷
    a 6 stamp optional ∷
    a 7 stamp optional ∷
    a 8 (one (Integer Any)) optional ∷ [])

-- name, permitted actions, contents type, access control; then the stamps of creation, modification, reading and
-- change of attributes, and the size
abbrev pub attribute_fields : Row
attribute_fields =
    field 0 (one Text) optional
    (field 1 (one (Integer Any)) optional
    (field 2 contents optional
    (field 3 grants optional attribute_stamps)))

abbrev pub attributes : Form
attributes = sequence attribute_fields
