use Rattle.std.proofs.Common.{◌≡◌, ◌∙◌, nat_lt, false, [], IfOk, subst, sym}
use Rattle.vf_disk.specs.Memory.{fresh, state as state_of}
use Rattle.vf_disk.specs.State.{left_by}
use Rattle.vf_disk.specs.declared.crash_form.CrashForm.{CrashForm}
use Rattle.vf_cli_replay.proofs.Opening.{crashes}
use Rattle.vf_cli_replay.proofs.incarnation.live.Goals as goal

pub returns : goal.returns
returns c = λ image state keeps.
    let life = c.args.life.now in
    let end = c.in_ok-disk.disk in
    let memory : nat_lt 0 end.lacks ≡ false = sym c.lacked.ensures ∙ c.if-lacked.false in
    let left = subst (λ (form : CrashForm). IfOk c.crash.result (λ disk. disk ≡ fresh (left_by form (state_of end)) [])) c.form_of.ensures c.crash.ensures.left in
    crashes life image state c.args.text.now.items c.live_on.new.text.items c.args.disk end c.crash.result keeps (c.in_ok-disk.ensures image state keeps) memory left c.crash.ensures.image c.crash.ensures.synced
