use Rattle.std.proofs.Common.{◌≡◌, true, false, arith}
use Rattle.vf_ber.specs.Steps.{first_fits}
use Rattle.vf_ber.specs.Reading.{bounded}
use Rattle.vf_ber_scan.specs.Frames.{depth_in, room_in}
use Rattle.vf_ber_scan.proofs.StepLemmas.{first_none, first_short, first_long}
use Rattle.vf_ber_scan.proofs.step.after_first.Goals as goal

pub returns-then-not-is_first : goal.returns-then-not-is_first
returns-then-not-is_first c =
    let fails : first_fits bounded (depth_in c.args.frames.now) (room_in c.args.frames.now) c.args.first ≡ false = cc in first_none c.args.frames.now c.args.first fails

pub returns-then-first-lt31 : goal.returns-then-first-lt31
returns-then-first-lt31 c =
    let fits : first_fits bounded (depth_in c.args.frames.now) (room_in c.args.frames.now) c.args.first ≡ true = cc in
    first_short c.args.frames.now c.args.first (omega arith) fits c.if-first-lt31.true

pub returns-else-first-lt31 : goal.returns-else-first-lt31
returns-else-first-lt31 c =
    let fits : first_fits bounded (depth_in c.args.frames.now) (room_in c.args.frames.now) c.args.first ≡ true = cc in
    first_long c.args.frames.now c.args.first (omega arith) fits c.if-first-lt31.false
