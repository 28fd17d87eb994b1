-- What a change of attributes leaves (ISO 8571-3, F-CHANGE-ATTRIB).
use Rattle.std.specs.Prelude.{Some, unwrap_or}
use Rattle.vf_attr.specs.declared.changes.AttributeChange.{AttributeChange}
use Rattle.vf_attr.specs.declared.file.File.{File}
use Rattle.vf_attr.specs.declared.stamp.Stamp.{Stamp}

-- each attribute that has a new value, and who made the change and when, also where no attribute has a new value
abbrev pub after_change : File → Stamp → AttributeChange → File
after_change file stamp change =
    record file {
      name = unwrap_or change.name file.name;
      permitted = unwrap_or change.permitted file.permitted;
      terms = unwrap_or change.terms file.terms;
      changed = Some stamp;
    }
