use Rattle.std.proofs.Common.{◌≡◌, refl, true, false}
use Rattle.std.specs.Prelude.{Bool, Some}
use Rattle.vf_ber.specs.Contents.{boolean_octets}
use Rattle.vf_ber.specs.Primitive.{boolean_at}
use Rattle.vf_ber.proofs.contents_laws.booleans_are_read.Goals as goal

read : (truth : Bool) → boolean_at (boolean_octets truth) ≡ Some truth
read true = refl
read false = refl

pub returns : goal.returns
returns c = λ tag truth. read truth
