use Rattle.std.proofs.Common.{◌≡◌, ℕ, List, Option, None, length, length-drop, ap, sym, subst, ◌∙◌, arith, false, refl, [], ◌≤◌}
use Rattle.std.proofs.lemmas.List.{drop_all}
use Rattle.vf_filestore.specs.State.{State}
use Rattle.vf_cli_dialogue.specs.declared.conversation.After.{After}
use Rattle.vf_cli_dialogue.specs.declared.conversation.After.TheVariants as after
use Rattle.vf_cli_dialogue.specs.declared.conversation.Filestore.{Filestore}
use Rattle.vf_cli_dialogue.specs.declared.conversation.First.{First}
use Rattle.vf_cli_dialogue.specs.Conversation.{Appends, Holds, IsRest, TakesFirst}
use Rattle.vf_cli_dialogue.proofs.StreamLemmas.{none_left}
use Rattle.vf_cli_dialogue.proofs.TakenLemmas.{appends_first}
use Rattle.vf_cli_dialogue.proofs.conversation.take_messages.Goals as goal
use Rattle.vf_cli_dialogue.proofs.conversation.take_messages.Goals.{In_default}

pub take_first-requires : goal.take_first-requires
take_first-requires c =
    let goes = c.loop-rest.invariant.goes c.requires.0 c.requires.1 in
    (goes.0, goes.2)

none_taken : (c : In_default) (first : State) (holds : Holds c.args.filestore.now first)
    → TakesFirst (c.loop-rest.invariant.goes first holds).0 c.loop-rest.rest c.loop-rest.replies.lines.items c.take_first.new.replies.lines.items
    c.loop-rest.filestore c.take_first.new.filestore None
none_taken c first holds =
    let goes = c.loop-rest.invariant.goes first holds in
    subst (λ (o : Option First). TakesFirst goes.0 c.loop-rest.rest c.loop-rest.replies.lines.items c.take_first.new.replies.lines.items
    c.loop-rest.filestore c.take_first.new.filestore o) c.in_default.is (c.in_ok-after.ensures.took goes.0 goes.2)

pub returns-in_default-clause-rest : goal.returns-in_default-clause-rest
returns-in_default-clause-rest c = (none_taken c c.requires.0 c.requires.1).0

pub returns-in_default-clause-took : goal.returns-in_default-clause-took
returns-in_default-clause-took c = λ first holds.
    let goes = c.loop-rest.invariant.goes first holds in
    let none = none_taken c first holds in
    let held = subst (λ (f : Filestore). Holds f goes.0) (sym none.2) goes.2 in
    (goes.1, none.1 ∙ goes.3, (goes.0, held, goes.4))

pub returns-then-length-len-clause-rest : goal.returns-then-length-len-clause-rest
returns-then-length-len-clause-rest c = none_left c.in-Some.field-0.after

pub returns-then-length-len-clause-took : goal.returns-then-length-len-clause-took
returns-then-length-len-clause-took c = λ first holds.
    let goes = c.loop-rest.invariant.goes first holds in
    let it = c.in-Some.field-0 in
    let all : length c.loop-rest.rest ≤ it.length = omega (arith, c.if-length-len.true, c.len.ensures) in
    appends_first first goes.0 c.args.octets c.loop-rest.rest goes.1 c.args.replies.now.lines.items c.loop-rest.replies.lines.items c.take_first.new.replies.lines.items goes.4 goes.3
    c.take_first.new.filestore [] c.loop-rest.filestore c.in_ok-after.field-0 it
    c.in-Some.is (sym (drop_all it.length c.loop-rest.rest all)) (c.in_ok-after.ensures.took goes.0 goes.2)

pub returns-then-len-ge-MOST_REPLIES-clause-took : goal.returns-then-len-ge-MOST_REPLIES-clause-took
returns-then-len-ge-MOST_REPLIES-clause-took c = λ first holds.
    let goes = c.loop-rest.invariant.goes first holds in
    appends_first first goes.0 c.args.octets c.loop-rest.rest goes.1 c.args.replies.now.lines.items c.loop-rest.replies.lines.items c.take_first.new.replies.lines.items goes.4 goes.3
    c.take_first.new.filestore c.in_ok-rest.rest c.loop-rest.filestore c.in_ok-after.field-0 c.in-Some.field-0
    c.in-Some.is c.in_ok-rest.ensures (c.in_ok-after.ensures.took goes.0 goes.2)

pub loop-rest-preserved : goal.loop-rest-preserved
loop-rest-preserved c = record {
  within = omega (arith, ap length c.in_ok-rest.ensures, length-drop c.in-Some.field-0.length c.loop-rest.rest, c.loop-rest.invariant.within);
  goes = λ first holds.
      let goes = c.loop-rest.invariant.goes first holds in
      let taken = appends_first first goes.0 c.args.octets c.loop-rest.rest goes.1 c.args.replies.now.lines.items c.loop-rest.replies.lines.items c.take_first.new.replies.lines.items goes.4 goes.3
      c.take_first.new.filestore c.in_ok-rest.rest c.loop-rest.filestore c.in_ok-after.field-0 c.in-Some.field-0
      c.in-Some.is c.in_ok-rest.ensures (c.in_ok-after.ensures.took goes.0 goes.2) in
      let all = subst (λ (a : After). Appends first c.args.octets c.args.replies.now.lines.items c.take_first.new.replies.lines.items c.take_first.new.filestore a c.in_ok-rest.rest)
      c.in-Goes.is taken in
      ((all.2).0, all.0, (all.2).1, all.1, (all.2).2);
}

-- a party that doesn't go on leaves any rest
rest_unless : (ended : After) (rest : List ℕ) → (ended ≡ after.Goes → ⊥) → IsRest ended false rest
rest_unless after.Goes rest gone = absurd (gone refl)
rest_unless after.Gone rest gone = tt
rest_unless after.Aborted rest gone = tt

pub returns-in_default-after : goal.returns-in_default-after
returns-in_default-after c = record {
  less = (omega (arith, ap length c.in_ok-rest.ensures, length-drop c.in-Some.field-0.length c.loop-rest.rest, c.loop-rest.invariant.within), λ more. absurd cc);
  rest = rest_unless c.in-Some.field-0.after c.in_ok-rest.rest c.in_default-after.not-Goes;
  took = λ first holds.
      let goes = c.loop-rest.invariant.goes first holds in
      appends_first first goes.0 c.args.octets c.loop-rest.rest goes.1 c.args.replies.now.lines.items c.loop-rest.replies.lines.items c.take_first.new.replies.lines.items goes.4 goes.3
      c.take_first.new.filestore c.in_ok-rest.rest c.loop-rest.filestore c.in_ok-after.field-0 c.in-Some.field-0
      c.in-Some.is c.in_ok-rest.ensures (c.in_ok-after.ensures.took goes.0 goes.2);
}
