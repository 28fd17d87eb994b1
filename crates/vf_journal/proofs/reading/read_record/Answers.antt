use Rattle.std.proofs.Common.{◌≡◌, ◌<◌, ◌+◌, ◌-◌, ℕ, Err, false, length, take, drop, arith, ap, refl, sym, ◌∙◌, length-drop}
use Rattle.std.proofs.lemmas.Result.{err_from_is_err_and}
use Rattle.vf_journal.specs.Answers.{is_fault}
use Rattle.vf_journal.specs.Layout.{part}
use Rattle.vf_journal.proofs.Prefixes.{record_few, record_read}
use Rattle.vf_journal.proofs.Looks.{looked_then}
use Rattle.vf_journal.proofs.reading.read_record.Goals as goal

pub returns-then-left-lt6-clause-found : goal.returns-then-left-lt6-clause-found
returns-then-left-lt6-clause-found g c = λ image shows.
    let size = g.met.D.Disk.measured c.args.disk.now image shows in
    let few : length (drop c.args.gate image) < 6 = omega (arith, length-drop c.args.gate image, size, c.requires.length) in
    rw (record_few (drop c.args.gate image) few) refl

pub returns-in_err-record-clause-looks : goal.returns-in_err-record-clause-looks
returns-in_err-record-clause-looks g c =
    let p = err_from_is_err_and c.from_residual-in_err-record.result c.from_residual-in_err-record.ensures.1 in
    rw (p.1, p.2) (looked_then g.D.Disk.shown g.D.Disk.size g.D.Disk.may_leave g.D.Disk.moment g.D.Disk.left_since g.D.Disk.plan g.D.Disk.state g.D.Disk.lack_count c.args.disk.now c.read_at.new.disk c.read_octets.new.disk (is_fault {T = Unit {0}} (Err c.in_err-record.field-0.0)) c.in_ok-read_at.ensures.looks c.in_err-record.ensures.looks)

pub returns-clause-found : goal.returns-clause-found
returns-clause-found g c = λ image shows.
    let size = g.met.D.Disk.measured c.args.disk.now image shows in
    let head = c.in_ok-read_at.ensures.octets image shows in
    let five : length c.read_at.new.into ≡ 5 = c.read_at.auto.into in
    let prefix : c.read_at.new.into ≡ take (length c.read_at.new.into) (drop c.args.gate image) = head ∙ ap (λ (n : ℕ). take n (drop c.args.gate image)) (sym five) in
    let left : length (drop c.args.gate image) ≡ c.args.length - c.args.gate = length-drop c.args.gate image ∙ ap (λ (n : ℕ). n - c.args.gate) (size ∙ sym c.requires.length) in
    let found = c.in-Some.ensures.some (drop c.args.gate image) (prefix, left) in
    let read = c.in_ok-record.ensures.octets image (c.in_ok-read_at.ensures.looks.same ∙ shows) in
    record_read image c.in_ok-record.record c.args.gate c.in-Some.count _ found (read ∙ ap (λ (n : ℕ). part image (c.args.gate + 5) n) c.from.ensures)

pub returns-clause-looks : goal.returns-clause-looks
returns-clause-looks g c = looked_then g.D.Disk.shown g.D.Disk.size g.D.Disk.may_leave g.D.Disk.moment g.D.Disk.left_since g.D.Disk.plan g.D.Disk.state g.D.Disk.lack_count c.args.disk.now c.read_at.new.disk c.read_octets.new.disk false c.in_ok-read_at.ensures.looks c.in_ok-record.ensures.looks
