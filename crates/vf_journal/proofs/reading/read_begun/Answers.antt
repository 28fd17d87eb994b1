use Rattle.std.proofs.Common.{◌≤◌, ◌+◌, ℕ, List, length, drop, arith, ap, refl, sym, ◌∙◌, length-drop}
use Rattle.vf_journal.specs.Layout.{part}
use Rattle.vf_journal.proofs.Parts.{begun_part}
use Rattle.vf_journal.proofs.Prefixes.{begins_there, record_read}
use Rattle.vf_journal.proofs.reading.read_begun.Goals as goal

pub returns-in_default-clause-found : goal.returns-in_default-clause-found
returns-in_default-clause-found g c = λ image shows.
    let size = g.met.D.Disk.measured c.args.disk.now image shows in
    let begins = begins_there image c.split_at.result.1.now c.args.block.now c.args.gate c.args.from c.args.length (size ∙ sym c.requires.length) c.split_at.ensures.back (c.requires.begins image shows) in
    rw (c.in_default.ensures.none (drop c.args.gate image) begins) refl

pub read_octets-requires-clause-first : goal.read_octets-requires-clause-first
read_octets-requires-clause-first g c = λ image shows.
    let size = g.met.D.Disk.measured c.args.disk.now image shows in
    let begins = begins_there image c.split_at.result.1.now c.args.block.now c.args.gate c.args.from c.args.length (size ∙ sym c.requires.length) c.split_at.ensures.back (c.requires.begins image shows) in
    let long : 5 ≤ length c.split_at.result.1.now = omega (arith, ap length c.split_at.ensures.back, length-drop c.args.from c.args.block.now) in
    c.in_ok-begun.ensures ∙ begun_part image c.split_at.result.1.now c.args.gate c.in-Some.count begins.0 long ∙ ap (λ (l : List ℕ). part image (c.args.gate + 5) (length l)) (sym c.in_ok-begun.ensures)

pub returns-clause-found : goal.returns-clause-found
returns-clause-found g c = λ image shows.
    let size = g.met.D.Disk.measured c.args.disk.now image shows in
    let begins = begins_there image c.split_at.result.1.now c.args.block.now c.args.gate c.args.from c.args.length (size ∙ sym c.requires.length) c.split_at.ensures.back (c.requires.begins image shows) in
    let found = c.in-Some.ensures.some (drop c.args.gate image) begins in
    record_read image c.in_ok-record.record c.args.gate c.in-Some.count _ found (c.in_ok-record.ensures.octets image shows ∙ ap (λ (n : ℕ). part image (c.args.gate + 5) n) c.from.ensures)
