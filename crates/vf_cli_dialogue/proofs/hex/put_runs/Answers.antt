use Rattle.std.proofs.Common.{◌≡◌, ◌+◌, ◌*◌, ◌/◌, ◌≤◌, ◌++◌, List, ℕ, ap, append-nil, arith, length, sym, take, vec_len, ◌∙◌}
use Rattle.vf_cli_dialogue.specs.Hex.{hex_of}
use Rattle.vf_cli_dialogue.proofs.RunLemmas.{run_put}
use Rattle.vf_cli_dialogue.proofs.hex.put_runs.Goals as goal

pub loop-run-init : goal.loop-run-init
loop-run-init c = (sym (append-nil c.args.text.now.items), omega arith, omega arith)

pub loop-run-preserved : goal.loop-run-preserved
loop-run-preserved c =
    let octets = c.args.octets.now in
    let text : List ℕ = c.loop-run.text.items in
    let digits = c.digits_of_run-digits.result in
    let within : 32 * c.loop-run.run + 32 ≤ length octets = omega arith in
    let items : c.extend_from_slice.new.self.items ≡ text ++ digits = rw c.unwrap.ensures at c.extend_from_slice.ensures.items in
    let added : vec_len c.extend_from_slice.new.self ≡ vec_len c.loop-run.text + length digits = rw c.unwrap.ensures at c.extend_from_slice.ensures.len in
    let len = c.loop-run.invariant.1 in
    let capacity = c.loop-run.invariant.2 in (
      run_put octets c.args.text.now.items text c.extend_from_slice.new.self.items digits c.loop-run.run within c.loop-run.invariant.0 c.digits_of_run-digits.ensures.value items,
      omega (arith, len, added, c.digits_of_run-digits.ensures.len),
      omega (arith, capacity, c.extend_from_slice.ensures.capacity),
    )

pub returns-clause-items : goal.returns-clause-items
returns-clause-items c =
    let all : c.loop-run.run ≡ length c.args.octets.now / 32 = omega arith in
    c.loop-run.invariant.0 ∙ ap (λ (n : ℕ). c.args.text.now.items ++ hex_of (take (32 * n) c.args.octets.now)) all
