use Rattle.std.proofs.Common.{◌≡◌, ◌+◌, ◌≤◌, length, ℕ, List, ◌∙◌, ap, arith}
use Rattle.vf_disk.specs.Disk.{overwritten}
use Rattle.vf_disk.specs.Parts.{loose}
use Rattle.vf_disk.specs.declared.part.Part.{Part}
use Rattle.vf_disk.proofs.Joins.{items_over, sound_over}
use Rattle.vf_disk.proofs.parts.Parts.end.Goals as goal

pub invariant_of-self-then-at-over : goal.invariant_of-self-then-at-over
invariant_of-self-then-at-over c =
    let run : c.first_run.result ≡ loose c.self.inside.short.items c.self.inside.strings.items
    = c.first_run.ensures ∙ ap (λ (l : List ℕ). loose l c.as_slice-2.result.now) c.as_slice.ensures.value ∙ ap (λ (l : List Part). loose c.self.inside.short.items l) c.as_slice-2.ensures.value in
    let low : c.args.at + length c.args.over.now ≤ loose c.self.inside.short.items c.self.inside.strings.items = omega (arith, run, c.if-at-over.true) in
    let inside : c.args.at + length c.args.over.now ≤ c.self.inside.count = let held = rw (← c.self.view_is) at c.requires in omega (arith, held, c.self.invariant.0.counted) in (
      sound_over c.self.inside.short.items c.self.inside.strings.items c.self.inside.closed c.self.inside.count c.self.invariant.0 c.args.at c.args.last c.args.over.now c.put_over.new.octets.items c.in_ok-count.count
          (c.put_over.ensures ∙ ap (λ (l : List ℕ). overwritten l c.args.at c.args.over.now) c.in_ok-push.ensures.items) low inside (omega (arith, c.in_ok-count.ensures.sum)),
      c.in_ok-count.ensures.bound,
    )

pub returns-then-at-over-clause-ok : goal.returns-then-at-over-clause-ok
returns-then-at-over-clause-ok c =
    let run : c.first_run.result ≡ loose c.self.inside.short.items c.self.inside.strings.items
    = c.first_run.ensures ∙ ap (λ (l : List ℕ). loose l c.as_slice-2.result.now) c.as_slice.ensures.value ∙ ap (λ (l : List Part). loose c.self.inside.short.items l) c.as_slice-2.ensures.value in
    let low : c.args.at + length c.args.over.now ≤ loose c.self.inside.short.items c.self.inside.strings.items = omega (arith, run, c.if-at-over.true) in
    rw (← c.self.view_is) (items_over c.self.inside.short.items c.self.inside.strings.items c.self.inside.closed c.self.inside.count c.self.invariant.0 c.args.at c.args.last c.args.over.now c.put_over.new.octets.items
    (c.put_over.ensures ∙ ap (λ (l : List ℕ). overwritten l c.args.at c.args.over.now) c.in_ok-push.ensures.items) low)
