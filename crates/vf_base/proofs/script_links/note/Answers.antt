use Rattle.std.proofs.Common.{◌≡◌, sym, ◌∙◌, ap, arith, rules, length, true, false}
use Rattle.vf_base.specs.Links.{has_arrived, has_note}
use Rattle.vf_base.proofs.LinkLemmas.{once_noted, room_for}
use Rattle.vf_base.proofs.script_links.note.Goals as goal

pub returns-clause-once : goal.returns-clause-once
returns-clause-once c =
    let here : has_arrived c.args.link c.args.events.now ≡ true = search rules in
    let new : has_note c.args.link c.args.notes.now.items ≡ false = search rules in
    rw c.push_reserved.ensures.items (once_noted c.args.events.now c.args.notes.now.items c.args.link (length c.args.events.now) c.requires.once here new)

pub push_reserved-requires : goal.push_reserved-requires
push_reserved-requires c =
    let here : has_arrived c.args.link c.args.events.now ≡ true = search rules in
    let new : has_note c.args.link c.args.notes.now.items ≡ false = search rules in
    let room = room_for c.args.events.now c.args.notes.now.items c.args.link 0 c.requires.once here new in
    let long = sym (ap length c.as_slice.ensures.value) ∙ c.as_slice.ensures.len in
    omega arith
