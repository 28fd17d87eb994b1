use Rattle.std.specs.Prelude.{IfSome}
use Rattle.std.proofs.Common.{◌≡◌, ◌∙◌, ◌<◌, ◌≤◌, ℕ, Option, ap, length, subst, sym}
use Rattle.vf_ber.specs.Reader.{reading}
use Rattle.vf_ber.specs.Reading.{Read}
use Rattle.vf_ber.specs.Views.{tree_of}
use Rattle.vf_ber.specs.declared.value.Value.{Value}
use Rattle.vf_cli_script.specs.Statements.{IsLess, value_of}
use Rattle.vf_cli_script.proofs.Messages.{behind_all, kept_all, kept_more, kept_none, messages_none}
use Rattle.vf_cli_script.proofs.statement.messages_in.Goals as goal

pub returns-in_default : goal.returns-in_default
returns-in_default c =
    let rest = c.loop-rest.rest.now in
    let none : value_of Option.None rest = subst (λ (o : Option (Value × ℕ)). value_of o rest) c.in_default.is c.in_ok-value.ensures.value in
    sym (c.loop-rest.invariant ∙ ap (behind_all c.loop-rest.messages) (messages_none rest c.loop-rest-test.true none))

pub returns-in_default-2 : goal.returns-in_default-2
returns-in_default-2 c =
    let rest = c.loop-rest.rest.now in
    let tree = tree_of c.in-Some.value in
    let is : reading rest ≡ Read tree c.in-Some.used = subst (λ (o : Option (Value × ℕ)). value_of o rest) c.in-Some.is c.in_ok-value.ensures.value in
    let some : (0 < c.in-Some.used) × (c.in-Some.used ≤ length rest) =
    subst (λ (o : Option (Value × ℕ)). IfSome o (λ read. IsLess read.1 rest)) c.in-Some.is c.in_ok-value.ensures.within in
    kept_none c.args.octets.now rest c.loop-rest.messages tree c.in-Some.used c.in_ok-message.field-0 c.loop-rest.invariant is some c.in_ok-message.ensures c.in_default-2.is

pub loop-rest-preserved-in_ok-push : goal.loop-rest-preserved-in_ok-push
loop-rest-preserved-in_ok-push c =
    let rest = c.loop-rest.rest.now in
    let tree = tree_of c.in-Some.value in
    let is : reading rest ≡ Read tree c.in-Some.used = subst (λ (o : Option (Value × ℕ)). value_of o rest) c.in-Some.is c.in_ok-value.ensures.value in
    let some : (0 < c.in-Some.used) × (c.in-Some.used ≤ length rest) =
    subst (λ (o : Option (Value × ℕ)). IfSome o (λ read. IsLess read.1 rest)) c.in-Some.is c.in_ok-value.ensures.within in
    kept_more c.args.octets.now rest c.loop-rest.messages c.push.new.self tree c.in-Some.used c.in_ok-message.field-0 c.in-Some-2.message c.split_at.result.1.now
    c.loop-rest.invariant is some c.in_ok-message.ensures c.in-Some-2.is c.in_ok-push.ensures.ok c.split_at.ensures.back

pub loop-rest-preserved : goal.loop-rest-preserved
loop-rest-preserved c =
    let rest = c.loop-rest.rest.now in
    let tree = tree_of c.in-Some.value in
    let is : reading rest ≡ Read tree c.in-Some.used = subst (λ (o : Option (Value × ℕ)). value_of o rest) c.in-Some.is c.in_ok-value.ensures.value in
    let some : (0 < c.in-Some.used) × (c.in-Some.used ≤ length rest) =
    subst (λ (o : Option (Value × ℕ)). IfSome o (λ read. IsLess read.1 rest)) c.in-Some.is c.in_ok-value.ensures.within in
    kept_more c.args.octets.now rest c.loop-rest.messages c.push.new.self tree c.in-Some.used c.in_ok-message.field-0 c.in-Some-2.message c.split_at.result.1.now
    c.loop-rest.invariant is some c.in_ok-message.ensures c.in-Some-2.is c.in_ok-push.ensures.ok c.split_at.ensures.back

pub returns : goal.returns
returns c = kept_all c.args.octets.now c.loop-rest.rest.now c.loop-rest.messages c.loop-rest.invariant c.loop-rest-test.false
