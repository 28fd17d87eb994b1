use Rattle.std.proofs.Common.{[], OnOk, append-nil, refl, subst, sym}
use Rattle.vf_cli_calling.specs.Calling.{SaysAll}
use Rattle.vf_cli_calling.specs.Represents.{Speaks}
use Rattle.vf_cli_script.specs.declared.line.Act.{Act}
use Rattle.vf_cli_replay.specs.Saying.{SaysLine}
use Rattle.vf_cli_replay.proofs.saying.say.Goals as goal

pub returns-in-Said : goal.returns-in-Said
returns-in-Said c = λ calling represents.
    subst (λ (act : Act). OnOk c.say_all.result (Speaks (SaysLine calling act) c.args.octets.now.items c.say_all.new.self c.say_all.new.out.items)) (sym c.in-Said.is)
    (subst (λ l. OnOk c.say_all.result (Speaks (SaysAll calling l) c.args.octets.now.items c.say_all.new.self c.say_all.new.out.items)) c.as_slice.ensures (c.say_all.ensures calling represents))

pub returns-in-Check : goal.returns-in-Check
returns-in-Check c = λ calling represents.
    subst (λ (act : Act). OnOk c.check.result (Speaks (SaysLine calling act) c.args.octets.now.items c.check.new.self c.check.new.out.items)) (sym c.in-Check.is)
    (c.check.ensures calling represents)

pub returns-in-Acknowledge : goal.returns-in-Acknowledge
returns-in-Acknowledge c = λ calling represents.
    subst (λ (act : Act). OnOk c.acknowledge.result (Speaks (SaysLine calling act) c.args.octets.now.items c.acknowledge.new.self c.acknowledge.new.out.items)) (sym c.in-Acknowledge.is)
    (c.acknowledge.ensures calling represents)

pub returns-in-Restart : goal.returns-in-Restart
returns-in-Restart c = λ calling represents.
    subst (λ (act : Act). OnOk c.restart.result (Speaks (SaysLine calling act) c.args.octets.now.items c.restart.new.self c.restart.new.out.items)) (sym c.in-Restart.is)
    (c.restart.ensures calling represents)

pub returns-in-Pass : goal.returns-in-Pass
returns-in-Pass c = λ calling represents.
    subst (λ (act : Act). OnOk c.pass.result (Speaks (SaysLine calling act) c.args.octets.now.items c.pass.new.self c.pass.new.out.items)) (sym c.in-Pass.is)
    (c.pass.ensures calling represents)

pub returns-in-Arrive : goal.returns-in-Arrive
returns-in-Arrive c = λ calling represents.
    subst (λ (act : Act). Speaks (SaysLine calling act) c.args.octets.now.items c.args.caller.now c.args.octets.now.items) (sym c.in-Arrive.is)
    (record { octets = []; later = calling; says = (refl, refl); represents = represents; sent = sym (append-nil c.args.octets.now.items) })

pub returns-in-Octets : goal.returns-in-Octets
returns-in-Octets c = λ calling represents.
    subst (λ (act : Act). Speaks (SaysLine calling act) c.args.octets.now.items c.args.caller.now c.args.octets.now.items) (sym c.in-Octets.is)
    (record { octets = []; later = calling; says = (refl, refl); represents = represents; sent = sym (append-nil c.args.octets.now.items) })

pub returns-in-End : goal.returns-in-End
returns-in-End c = λ calling represents.
    subst (λ (act : Act). Speaks (SaysLine calling act) c.args.octets.now.items c.args.caller.now c.args.octets.now.items) (sym c.in-End.is)
    (record { octets = []; later = calling; says = (refl, refl); represents = represents; sent = sym (append-nil c.args.octets.now.items) })
