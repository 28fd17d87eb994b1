use Rattle.std.proofs.Common.{◌≡◌, ◌∙◌, ℕ, false, sym, true≢false, get_or, below_more}
use Rattle.std.specs.List.{list_any}
use Rattle.vf_disk.specs.Replay.{covers}
use Rattle.vf_disk.proofs.admitted.keeps.Goals as goal
use Rattle.vf_disk.proofs.admitted.keeps.Goals.{else-image-place-via-then-image-place+else-not-is_covered, else-image-place-via-else-image-place}

pub loop-place-preserved : goal.loop-place-preserved
loop-place-preserved c =
    below_more (λ (k : ℕ). list_any (covers k) c.args.changes.now ≡ false → get_or c.args.image.now k 0 ≡ get_or c.args.synced.now k 0) c.loop-place.place c.loop-place.invariant
    (λ apart. elim c.else-image-place.branch [
      | else-image-place-via-then-image-place+else-not-is_covered w ↦ absurd (true≢false (sym w.if-not-is_covered.false ∙ w.is_covered.ensures ∙ apart))
      | else-image-place-via-else-image-place w ↦ w.if-image-place.false
    ])
