use Rattle.std.proofs.Common.{◌≡◌, ◌∙◌, ap}
use Rattle.std.specs.Prelude.{Ok, Err}
use Rattle.vf_ber.specs.declared.errors.BerError.TheVariants as ber
use Rattle.vf_upper_grammar.proofs.Readings.{answered, read_bad, read_deep, read_long, read_short, read_value}
use Rattle.vf_upper_grammar.proofs.values.stopped.Goals as goal

pub returns-in-Ok : goal.returns-in-Ok
returns-in-Ok c =
    read_value c.args.octets.now c.in-Ok.value c.in-Ok.n (answered c.args.octets.now c.args.read (Ok (c.in-Ok.value, c.in-Ok.n)) c.in-Ok.is c.requires)

pub returns-in-Err-Short : goal.returns-in-Err-Short
returns-in-Err-Short c =
    let same : c.in-Err-Short.field-0 ≡ ber.Short = cc in
    read_short c.args.octets.now (answered c.args.octets.now c.args.read (Err ber.Short) (c.in-Err-Short.is ∙ ap (λ e. Err e) same) c.requires)

pub returns-in-Err-Bad : goal.returns-in-Err-Bad
returns-in-Err-Bad c =
    let at = c.in-Err-Bad.at in
    let same : c.in-Err-Bad.field-0 ≡ ber.Bad at = cc in
    read_bad c.args.octets.now at (answered c.args.octets.now c.args.read (Err (ber.Bad at)) (c.in-Err-Bad.is ∙ ap (λ e. Err e) same) c.requires)

pub returns-in-Err-Deep : goal.returns-in-Err-Deep
returns-in-Err-Deep c =
    let at = c.in-Err-Deep.at in
    let same : c.in-Err-Deep.field-0 ≡ ber.Deep at = cc in
    read_deep c.args.octets.now at (answered c.args.octets.now c.args.read (Err (ber.Deep at)) (c.in-Err-Deep.is ∙ ap (λ e. Err e) same) c.requires)

pub returns-in-Err-Long : goal.returns-in-Err-Long
returns-in-Err-Long c =
    let at = c.in-Err-Long.at in
    let same : c.in-Err-Long.field-0 ≡ ber.Long at = cc in
    read_long c.args.octets.now at (answered c.args.octets.now c.args.read (Err (ber.Long at)) (c.in-Err-Long.is ∙ ap (λ e. Err e) same) c.requires)
