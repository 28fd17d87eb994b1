use Rattle.std.proofs.Common.{◌≡◌, ◌∙◌, ◌≤◌, ◌<◌, ◌||◌, true, sym, subst, true≢false, arith, nat_le, length, ℕ}
use Rattle.std.specs.Prelude.{fold}
use Rattle.std.specs.List.{list_any}
use Rattle.vf_disk.specs.Replay.{reaches, shorter}
use Rattle.vf_disk.proofs.Judged.{needs, serves}
use Rattle.vf_disk.proofs.admitted.is_admitted.Goals as goal
use Rattle.vf_disk.proofs.admitted.is_admitted.Goals.{then-image-least-via-then-image-least, then-image-least-via-else-image-least+then-not-is_reached}

pub returns-then-image-least : goal.returns-then-image-least
returns-then-image-least c = (
  λ no. absurd (true≢false (sym no)),
  λ left.
      let must = needs c.args.synced.now c.args.changes.now c.requires c.args.image.now left in
      absurd (elim c.then-image-least.branch [
        | then-image-least-via-then-image-least w ↦ omega (arith, must.0, c.least_length-least.ensures.value, w.if-image-least.true)
        | then-image-least-via-else-image-least+then-not-is_reached w ↦ true≢false (sym must.1 ∙ sym w.is_reached.ensures ∙ w.if-not-is_reached.true)
      ]),
)

pub returns : goal.returns
returns c =
    let least = c.least_length-least.ensures.value in
    let low : fold shorter (length c.args.synced.now) c.args.changes.now ≤ length c.args.image.now = omega (arith, least, c.if-image-least.false) in
    let high : (nat_le (length c.args.image.now) (length c.args.synced.now) || list_any (reaches (length c.args.image.now)) c.args.changes.now) ≡ true = sym c.is_reached.ensures ∙ c.if-not-is_reached.false in (
      λ so. serves c.args.synced.now c.args.changes.now c.requires c.args.image.now low high (λ place lt. c.keeps.ensures.0 so place (subst (λ (n : ℕ). place < n) (sym least) lt)),
      λ left. c.keeps.ensures.1 (λ place lt. (needs c.args.synced.now c.args.changes.now c.requires c.args.image.now left).2 place (subst (λ (n : ℕ). place < n) least lt)),
    )
