use Rattle.vf_filestore.specs.Tables.{tables_of}
use Rattle.vf_incarnations.proofs.Lives.{begins_so}
use Rattle.vf_responder.specs.Serving.{unheard}
use Rattle.vf_cli_replay.proofs.Opening.{leaves_it, opens_so, shows_it, stops_opening}
use Rattle.vf_cli_replay.proofs.incarnation.live_on.Goals as goal

pub returns-in-Ok : goal.returns-in-Ok
returns-in-Ok c = λ image state keeps.
    let life = c.args.life.now in
    let disk = c.stopping-disk.result in
    let store = c.in-Ok.responder.store in
    let is = c.stopping-disk.ensures in
    let looks = c.in-Ok.ensures.looks in
    let shows = shows_it life.stop c.args.disk disk image state keeps is in
    let stands = (c.in-Ok.ensures.represented image (tables_of state) shows keeps.represents).1 in
    c.live_in.ensures image state (c.in-Ok.ensures.begins image (tables_of state) (unheard state) shows keeps.represents (begins_so state keeps.begins)) stands
    (opens_so life image state c.args.disk disk store keeps is c.held_is_read.ensures stands c.in-Ok.ensures.limit looks.same looks.calls looks.made)

pub returns-in_ok-append_halt-in-Err : goal.returns-in_ok-append_halt-in-Err
returns-in_ok-append_halt-in-Err c = λ image state keeps.
    let life = c.args.life.now in
    let is = c.stopping-disk.ensures in
    let disk = c.stopping-disk.result in
    let looks = c.in-Err.ensures.looks in
    stops_opening life image state c.args.text.now.items c.append_halt.new.text.items c.args.disk disk c.in-Err.disk c.in-Err.error c.in_ok-halt-in-Err.halt disk.faults c.in-Err.disk.faults keeps is
    c.in_ok-halt-in-Err.ensures c.in-Err.ensures.causes looks.calls looks.made (c.in-Err.ensures.any_moment (tables_of state) (leaves_it life.stop c.args.disk disk image state keeps is))
    c.in_ok-append_halt-in-Err.ensures.line c.in_ok-append_halt-in-Err.ensures.asked
