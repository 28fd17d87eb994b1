-- The ACSE value that an SPDU carries, by its name.
use Rattle.std.proofs.Common.{◌≡◌, refl, ap, sym, ◌∙◌}
use Rattle.vf_base.specs.declared.spdu_kind.SpduKind.{SpduKind}
use Rattle.vf_base.specs.declared.spdu_kind.SpduKind.TheVariants.{CN, AC, RF, FN, DN, AB, AA, DT, GT, MIP, MIA, RS, RA}
use Rattle.vf_upper_grammar.specs.declared.form.TypeName.{TypeName}
use Rattle.vf_upper_grammar.specs.Rows.{apdu_in, apdu_type, type_of}

pub apdu-read : (kind : SpduKind) → type_of kind (apdu_type kind) ≡ apdu_in kind
apdu-read CN = refl
apdu-read AC = refl
apdu-read RF = refl
apdu-read FN = refl
apdu-read DN = refl
apdu-read AB = refl
apdu-read AA = refl
apdu-read DT = refl
apdu-read GT = refl
apdu-read MIP = refl
apdu-read MIA = refl
apdu-read RS = refl
apdu-read RA = refl

pub apdu-read_as : (kind : SpduKind) (name : TypeName) → apdu_type kind ≡ name → type_of kind name ≡ apdu_in kind
apdu-read_as kind name same = ap (type_of kind) (sym same) ∙ apdu-read kind
