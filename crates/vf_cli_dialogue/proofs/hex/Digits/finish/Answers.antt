use Rattle.std.proofs.Common.{◌≡◌, refl, sym, ◌∙◌, ap, arith, inr, length, List, ℕ, ◌<◌, Some, Vec, Global}
use Rattle.std.specs.Prelude.{vec_len, ◌≢◌}
use Rattle.std.proofs.lemmas.Bool.{eqb-true, eqb-false}
use Rattle.std.proofs.lemmas.List.{nil_from_length}
use Rattle.vf_cli_dialogue.proofs.HexLemmas.{length_whole, none_spelled, not_waiting, forgotten, nothing_spelled, positive, spelled}
use Rattle.vf_cli_dialogue.proofs.hex.Digits.finish.Goals as goal
use Rattle.vf_cli_dialogue.proofs.hex.Digits.finish.Goals.{then-is_empty-via-then-is_empty, then-is_empty-via-else-is_empty+then-is_some}

pub returns-then-is_empty : goal.returns-then-is_empty
returns-then-is_empty c =
    let octets = c.self.inside.octets in
    elim c.then-is_empty.branch [
      | then-is_empty-via-then-is_empty w ↦
          let none : vec_len octets ≡ 0 = eqb-true _ _ (sym w.if-is_empty.ensures) in
          (nothing_spelled octets.items c.args.self.now c.self.inside.high c.self.view_is (nil_from_length octets.items (omega arith)), refl, refl)
      | then-is_empty-via-else-is_empty+then-is_some w ↦
          (inr (none_spelled octets.items c.args.self.now c.self.inside.high c.self.view_is (sym w.if-is_some.ensures)), refl, refl)
    ]

pub returns : goal.returns
returns c =
    let octets = c.self.inside.octets in
    let waits = sym c.if-is_some.ensures in
    let some : vec_len octets ≢ 0 = eqb-false _ _ (sym c.if-is_empty.ensures) in
    let above : 0 < vec_len octets = positive (vec_len octets) some in
    let len = length_whole octets.items c.args.self.now c.self.inside.high c.self.view_is (not_waiting c.self.inside.high waits) in
    let swapped = ap (λ (v : Vec ℕ Global). v.items) c.swap.ensures.y_after in
    let lens : length c.swap.new.y.items ≡ length octets.items = ap length swapped in (
      forgotten c.swap.new.x.items c.self.inside.high (ap (λ (v : Vec ℕ Global). v.items) c.swap.ensures.x_after ∙ c.clear.ensures.items) waits,
      spelled octets.items c.args.self.now c.self.inside.high c.self.view_is waits c.self.invariant.0 ∙ ap (λ (l : List ℕ). Some l) (sym swapped),
      omega arith,
      omega (arith, len, lens),
    )
