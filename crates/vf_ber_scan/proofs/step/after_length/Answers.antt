use Rattle.std.proofs.Common.{true, arith}
use Rattle.vf_ber_scan.proofs.StepLemmas.{length_short, length_long, length_around}
use Rattle.vf_ber_scan.proofs.step.after_length.Goals as goal

pub returns : goal.returns
returns c =
    let fits = length_around c.args.frames.now c.around.result c.args.constructed c.args.prefix c.args.octet c.is_length.result true c.around.ensures c.is_length.ensures c.if-not-is_length.false in
    length_long c.args.frames.now c.args.constructed c.args.prefix c.args.octet fits c.requires (omega arith) c.if-octet-eq128.false

pub returns-then-octet-lt128 : goal.returns-then-octet-lt128
returns-then-octet-lt128 c =
    let fits = length_around c.args.frames.now c.around.result c.args.constructed c.args.prefix c.args.octet c.is_length.result true c.around.ensures c.is_length.ensures c.if-not-is_length.false in
    length_short c.args.frames.now c.after_header.new.frames c.args.constructed c.args.prefix c.args.octet c.after_header.result fits c.if-octet-lt128.true c.after_header.ensures
