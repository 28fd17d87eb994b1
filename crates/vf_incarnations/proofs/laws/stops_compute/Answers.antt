use Rattle.std.proofs.Common.{refl}
use Rattle.vf_incarnations.proofs.laws.stops_compute.Goals as goal

pub returns : goal.returns
returns c = record {
  four = λ journal entry. refl;
  nine = λ journal area entry. refl;
  second = λ journal. refl;
  third = λ journal. refl;
  third_lost = λ journal. refl;
  third_filled = λ journal. refl;
  third_closed = λ journal. refl;
  fourth = λ journal. refl;
  fifth = λ journal. refl;
}
