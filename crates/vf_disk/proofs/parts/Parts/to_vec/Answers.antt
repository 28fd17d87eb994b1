use Rattle.std.proofs.Common.{◌∙◌, List, ℕ, arith, length, ap, refl}
use Rattle.vf_disk.specs.Parts.{joined}
use Rattle.vf_disk.specs.declared.part.Part.{Part}
use Rattle.vf_disk.proofs.Joins.{first_short, last_joined, next_joined, next_short}
use Rattle.vf_disk.proofs.parts.Parts.to_vec.Goals as goal

pub loop-part-init : goal.loop-part-init
loop-part-init c = record {
  within = first_short _ _ _ _ _ _ c.self.invariant.0 c.as_slice-strings.ensures.value c.as_slice-rest.ensures.value;
  so_far = rw c.in_ok-octets.ensures.items refl;
}

pub split_at-requires : goal.split_at-requires
split_at-requires c = omega (arith, next_short c.as_slice-strings.result.now c.loop-part.part-index c.part-item.result (length c.loop-part.rest.now) (omega arith) c.part-item.is c.loop-part.invariant.within)

pub loop-part-preserved : goal.loop-part-preserved
loop-part-preserved c = record {
  within = omega (arith, next_short c.as_slice-strings.result.now c.loop-part.part-index c.part-item.result (length c.loop-part.rest.now) (omega arith) c.part-item.is c.loop-part.invariant.within, c.split_at.ensures.back_len);
  so_far = rw (c.in_ok-extend_from_slice-2.ensures.items, c.in_ok-extend_from_slice.ensures.items, c.as_slice.ensures, c.split_at.ensures.front, c.split_at.ensures.back)
      (next_joined c.as_slice-strings.result.now c.loop-part.part-index c.part-item.result c.loop-part.octets.items c.loop-part.rest.now _ (omega arith) c.part-item.is c.loop-part.invariant.so_far);
}

pub returns : goal.returns
returns c =
    c.in_ok-extend_from_slice-3.ensures.items
    ∙ last_joined c.as_slice-strings.result.now c.loop-part.part-index c.loop-part.octets.items c.loop-part.rest.now _ (omega arith) c.loop-part.invariant.so_far
    ∙ ap (λ (l : List ℕ). joined l c.as_slice-strings.result.now) c.as_slice-rest.ensures.value ∙ rw (← c.self.view_is) (ap (λ (l : List Part). joined c.self.inside.short.items l) c.as_slice-strings.ensures.value)
