use Rattle.std.proofs.Common.{List, Option, subst}
use Rattle.vf_cli_script.specs.declared.line.LinkLine.{LinkLine}
use Rattle.vf_cli_replay.proofs.Lived.{lives_through, lives_to_halt}
use Rattle.vf_cli_replay.specs.Living.{opened}
use Rattle.vf_cli_replay.specs.Running.{events_of}
use Rattle.vf_cli_replay.specs.Standing.{HasHappened}
use Rattle.vf_cli_replay.specs.declared.halt.Halt.{Halt}
use Rattle.vf_cli_replay.proofs.incarnation.live_through.Goals as goal

pub returns-in_default : goal.returns-in_default
returns-in_default c = λ image state stands begun.
    let text = c.args.text.now.items in
    let store = c.args.links.now.responder.store in
    let links = c.happen_all.new.self in
    let told = c.happen_all.new.text.items in
    let happened = subst (λ (l : List LinkLine). HasHappened (opened state) (events_of l) text store links told c.in_ok-halted.halted) c.as_slice.ensures (c.in_ok-halted.ensures (opened state) stands) in
    lives_through c.args.life.now image state text told store links begun
    (subst (λ (h : Option Halt). HasHappened (opened state) (events_of c.args.life.now.lines) text store links told h) c.in_default.is happened)

pub returns : goal.returns
returns c = λ image state stands begun.
    let text = c.args.text.now.items in
    let store = c.args.links.now.responder.store in
    let links = c.happen_all.new.self in
    let told = c.happen_all.new.text.items in
    let happened = subst (λ (l : List LinkLine). HasHappened (opened state) (events_of l) text store links told c.in_ok-halted.halted) c.as_slice.ensures (c.in_ok-halted.ensures (opened state) stands) in
    lives_to_halt c.args.life.now image state text told c.append_halt.new.text.items store c.in-Some.halt links.responder.store begun
    (subst (λ (h : Option Halt). HasHappened (opened state) (events_of c.args.life.now.lines) text store links told h) c.in-Some.is happened)
    c.in_ok-append_halt.ensures.asked c.in_ok-append_halt.ensures.line
