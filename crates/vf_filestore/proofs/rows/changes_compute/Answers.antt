use Rattle.std.proofs.Common.{refl}
use Rattle.vf_attr.specs.Attributes.{are_same_attributes}
use Rattle.vf_tree.specs.Same.{are_same_units}
use Rattle.vf_filestore.proofs.rows.changes_compute.Goals as goal

pub returns : goal.returns
unfolding are_same_attributes are_same_units
returns c = record {
  a_create = record { kinds_are = refl; fits = refl; leads = refl };
  a_selection = record { kinds_are = refl; fits = refl; leads = refl };
  a_rename = record { kinds_are = refl; fits = refl; leads = refl };
  a_delete = record { kinds_are = refl; fits = refl; leads = refl };
  an_open = record { kinds_are = refl; fits = refl; leads = refl };
  a_write = record { kinds_are = refl; fits = refl; leads = refl };
  a_value = record { kinds_are = refl; fits = refl; leads = refl };
  a_check = record { kinds_are = refl; fits = refl; leads = refl };
  a_restart = record { kinds_are = refl; fits = refl; leads = refl };
  a_stop = record { kinds_are = refl; fits = refl; leads = refl };
  an_end = record { kinds_are = refl; fits = refl; leads = refl };
  a_close = record { kinds_are = refl; fits = refl; leads = refl };
}
