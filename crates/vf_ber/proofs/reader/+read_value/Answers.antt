use Rattle.std.proofs.Common.{◌≡◌, ℕ, ◌+◌, ◌-◌, true, List, ◌∷◌, length, refl, ap, sym, subst, ◌∙◌, arith}
use Rattle.std.specs.Prelude.{IfSome, Option, None}
use Rattle.std.proofs.lemmas.Result.{IfOk-weaker, IfErr-weaker}
use Rattle.vf_ber.specs.declared.room.Room.{Room}
use Rattle.vf_ber.specs.declared.room.Room.TheVariants.{Exact}
use Rattle.vf_ber.specs.Steps.{Contents, Ended, Ends, Failed, Got, less as less_of, named, Names, size_fits, Sizes, Values as ValuesIn}
use Rattle.vf_ber.specs.Reading.{bounded}
use Rattle.vf_ber.specs.Views.{name_of as said, tag_of, tree_of}
use Rattle.vf_ber.proofs.Chains.{through}
use Rattle.vf_ber.proofs.Kept.{ends_tail}
use Rattle.vf_ber.proofs.ReaderSteps.{value_got, name_failed, size_failed, contents_failed, contents_plain, contents_wanting, parts_failed, ended_failed, open_room, parts_next, part_failed, parts_short, parts_end, ended_next, other_failed, ended_short, ended_end, ended_wrong, name_facts, size_facts}
use Rattle.vf_ber.proofs.reader.+read_value.Goals as goal

pub contents_of-returns-in_err-ended-clause-failed :
    goal.contents_of-returns-in_err-ended-clause-failed
contents_of-returns-in_err-ended-clause-failed t c =
    let n = named c.args.around.constructed (tag_of c.args.tag) in
    let fault = c.in_err-ended.field-0.0 in
    let fits : size_fits bounded c.args.around.depth c.args.around.room c.args.around.prefix c.args.around.constructed None ≡ true =
    subst (λ (s : Option ℕ). size_fits bounded c.args.around.depth c.args.around.room c.args.around.prefix c.args.around.constructed s ≡ true) c.in_default.is c.requires.fits in
    let inside : Failed (Ended (c.args.around.depth - 1) (less_of c.args.around.room c.args.around.prefix)) c.args.octets.now fault =
    subst (λ (r : Room). Failed (Ended (c.args.around.depth - 1) r) c.args.octets.now fault) c.less.ensures c.in_err-ended.ensures.failed in
    through c.from_residual.result _ _ c.from_residual.ensures.1
    (subst (λ (s : Option ℕ). Failed (Contents c.args.around.depth c.args.around.room c.args.around.prefix n s) c.args.octets.now fault) (sym c.in_default.is)
    (ended_failed c.args.around.depth c.args.around.room c.args.around.prefix (tag_of c.args.tag) c.args.around.constructed c.args.octets.now fault (open_room c.args.around.depth c.args.around.room c.args.around.prefix c.args.around.constructed fits).0 inside))

pub contents_of-returns-in_err-parts-clause-failed :
    goal.contents_of-returns-in_err-parts-clause-failed
contents_of-returns-in_err-parts-clause-failed t c =
    let n = named c.args.around.constructed (tag_of c.args.tag) in
    let fault = c.in_err-parts.field-0.0 in
    through c.from_residual-in_err-parts.result _ _ c.from_residual-in_err-parts.ensures.1
    (subst (λ (s : Option ℕ). Failed (Contents c.args.around.depth c.args.around.room c.args.around.prefix n s) c.args.octets.now fault) (sym c.in-Some.is)
    (parts_failed c.args.around.depth c.args.around.room c.args.around.prefix (tag_of c.args.tag) c.args.around.constructed c.in-Some.n c.args.octets.now fault c.if-around.true c.in_err-parts.ensures.failed))

pub contents_of-returns-clause-got : goal.contents_of-returns-clause-got
contents_of-returns-clause-got t c =
    let n = named c.args.around.constructed (tag_of c.args.tag) in
    IfOk-weaker c.plain_of.result _ _
    (λ x g. subst (λ (s : Option ℕ). Got (Contents c.args.around.depth c.args.around.room c.args.around.prefix n s) c.args.octets.now (tree_of x.0) x.1.now) (sym c.in-Some.is)
    (contents_plain c.args.around.depth c.args.around.room c.args.around.prefix (tag_of c.args.tag) c.args.around.constructed c.in-Some.n c.args.octets.now x.1.now (tree_of x.0) c.if-around.false g))
    c.plain_of.ensures.got

pub contents_of-returns-clause-failed : goal.contents_of-returns-clause-failed
contents_of-returns-clause-failed t c =
    let n = named c.args.around.constructed (tag_of c.args.tag) in
    IfErr-weaker c.plain_of.result _ _
    (λ e f. subst (λ (s : Option ℕ). Failed (Contents c.args.around.depth c.args.around.room c.args.around.prefix n s) c.args.octets.now e) (sym c.in-Some.is)
    (contents_wanting c.args.around.depth c.args.around.room c.args.around.prefix (tag_of c.args.tag) c.args.around.constructed c.in-Some.n c.args.octets.now e c.if-around.false f))
    c.plain_of.ensures.failed

pub ended_of-returns-in_err-after-clause-failed : goal.ended_of-returns-in_err-after-clause-failed
ended_of-returns-in_err-after-clause-failed t c =
    let rest_is : c.loop-first.rest.now ≡ 0 ∷ c.in-Some.tail.now = c.in-Some.ensures.parts ∙ ap (λ x. x ∷ c.in-Some.tail.now) c.if-first-eq0.true in
    through c.from_residual.result _ _ c.from_residual.ensures.1
    (ended_wrong c.args.depth c.args.room c.loop-first.room c.args.octets.now c.loop-first.rest.now c.in-Some.tail.now c.loop-first.parts c.in_err-after.field-0.0 rest_is c.in_err-after.ensures.err c.loop-first.invariant.0)

pub ended_of-returns-then-first-eq0-clause-got : goal.ended_of-returns-then-first-eq0-clause-got
ended_of-returns-then-first-eq0-clause-got t c =
    let rest_is : c.loop-first.rest.now ≡ 0 ∷ c.in-Some.tail.now = c.in-Some.ensures.parts ∙ ap (λ x. x ∷ c.in-Some.tail.now) c.if-first-eq0.true in
    ended_end c.args.depth c.args.room c.loop-first.room c.args.octets.now c.loop-first.rest.now c.in-Some.tail.now c.in_ok-after.after.now c.loop-first.parts rest_is c.in_ok-after.ensures.ok c.loop-first.invariant.0

pub ended_of-returns-in_err-part-clause-failed : goal.ended_of-returns-in_err-part-clause-failed
ended_of-returns-in_err-part-clause-failed t c =
    let fault = c.in_err-part.field-0.0 in
    let room : Failed (ValuesIn c.args.depth (less_of c.loop-first.room 2)) (c.in-Some.first ∷ c.in-Some.tail.now) fault =
    subst (λ (r : Room). Failed (ValuesIn c.args.depth r) (c.in-Some.first ∷ c.in-Some.tail.now) fault) c.less.ensures c.in_err-part.ensures.failed in
    let whole : Failed (ValuesIn c.args.depth (less_of c.loop-first.room 2)) c.loop-first.rest.now fault =
    subst (λ (o : List ℕ). Failed (ValuesIn c.args.depth (less_of c.loop-first.room 2)) o fault) (sym c.in-Some.ensures.parts) room in
    through c.from_residual-in_err-part.result _ _ c.from_residual-in_err-part.ensures.1
    (other_failed c.args.depth c.in-Some.first c.args.room c.loop-first.room c.args.octets.now c.loop-first.rest.now c.in-Some.tail.now c.loop-first.parts fault (omega arith) c.in-Some.ensures.parts c.loop-first.invariant.0 whole)

pub ended_of-loop-first-preserved : goal.ended_of-loop-first-preserved
ended_of-loop-first-preserved t c =
    let tree = tree_of c.in_ok-part.part in
    let room : Got (ValuesIn c.args.depth (less_of c.loop-first.room 2)) (c.in-Some.first ∷ c.in-Some.tail.now) tree c.in_ok-part.after.now =
    subst (λ (r : Room). Got (ValuesIn c.args.depth r) (c.in-Some.first ∷ c.in-Some.tail.now) tree c.in_ok-part.after.now) c.less.ensures c.in_ok-part.ensures.got in
    let whole : Got (ValuesIn c.args.depth (less_of c.loop-first.room 2)) c.loop-first.rest.now tree c.in_ok-part.after.now =
    subst (λ (o : List ℕ). Got (ValuesIn c.args.depth (less_of c.loop-first.room 2)) o tree c.in_ok-part.after.now) (sym c.in-Some.ensures.parts) room in (
      ended_next c.args.depth c.in-Some.first c.args.room c.loop-first.room c.less-room.result c.args.octets.now c.loop-first.rest.now c.in-Some.tail.now c.in_ok-part.after.now c.loop-first.parts c.push.new.self tree
          (omega arith) c.in-Some.ensures.parts c.loop-first.invariant.0 whole c.less-room.ensures c.in_ok-push.ensures.ok,
      ends_tail (ValuesIn c.args.depth (less_of c.loop-first.room 2)) c.loop-first.rest.now c.in_ok-part.after.now tree c.args.kept whole c.loop-first.invariant.1,
    )

pub ended_of-value_of-requires : goal.ended_of-value_of-requires
ended_of-value_of-requires t c =
    (omega arith, subst (λ (o : List ℕ). IfSome c.args.kept (λ all. Ends all.now o)) c.in-Some.ensures.parts c.loop-first.invariant.1)

pub ended_of-returns-clause-failed : goal.ended_of-returns-clause-failed
ended_of-returns-clause-failed t c =
    ended_short c.args.depth c.args.room c.loop-first.room c.args.octets.now c.loop-first.rest.now c.loop-first.parts c.in_default.ensures.parts c.loop-first.invariant.0

pub parts_of-returns-in_default-clause-failed : goal.parts_of-returns-in_default-clause-failed
parts_of-returns-in_default-clause-failed t c =
    parts_short c.args.depth c.args.len c.loop-left.left c.args.octets.now c.loop-left.rest.now c.loop-left.parts (omega arith) c.in_default.ensures.parts c.loop-left.invariant.0

pub parts_of-returns-in_err-part-clause-failed : goal.parts_of-returns-in_err-part-clause-failed
parts_of-returns-in_err-part-clause-failed t c =
    let fault = c.in_err-part.field-0.0 in
    let whole : Failed (ValuesIn c.args.depth (Exact c.loop-left.left)) c.loop-left.rest.now fault =
    subst (λ (o : List ℕ). Failed (ValuesIn c.args.depth (Exact c.loop-left.left)) o fault) (sym c.in-Some.ensures.parts) c.in_err-part.ensures.failed in
    through c.from_residual.result _ _ c.from_residual.ensures.1
    (part_failed c.args.depth c.args.len c.loop-left.left c.args.octets.now c.loop-left.rest.now c.loop-left.parts fault (omega arith) c.loop-left.invariant.0 whole)

pub parts_of-loop-left-preserved : goal.parts_of-loop-left-preserved
parts_of-loop-left-preserved t c =
    let tree = tree_of c.in_ok-part.part in
    let whole : Got (ValuesIn c.args.depth (Exact c.loop-left.left)) c.loop-left.rest.now tree c.in_ok-part.after.now =
    subst (λ (o : List ℕ). Got (ValuesIn c.args.depth (Exact c.loop-left.left)) o tree c.in_ok-part.after.now) (sym c.in-Some.ensures.parts) c.in_ok-part.ensures.got in (
      parts_next c.args.depth c.args.len c.loop-left.left (c.loop-left.left - (length c.loop-left.rest.now - length c.in_ok-part.after.now)) c.args.octets.now c.loop-left.rest.now c.in_ok-part.after.now
          c.loop-left.parts c.push.new.self tree (omega arith) c.loop-left.invariant.0 whole refl c.in_ok-push.ensures.ok,
      ends_tail (ValuesIn c.args.depth (Exact c.loop-left.left)) c.loop-left.rest.now c.in_ok-part.after.now tree c.args.kept whole c.loop-left.invariant.1,
    )

pub parts_of-value_of-requires : goal.parts_of-value_of-requires
parts_of-value_of-requires t c =
    (omega arith, subst (λ (o : List ℕ). IfSome c.args.kept (λ all. Ends all.now o)) c.in-Some.ensures.parts c.loop-left.invariant.1)

pub parts_of-returns-clause-got : goal.parts_of-returns-clause-got
parts_of-returns-clause-got t c =
    parts_end c.args.depth c.args.len c.loop-left.left c.args.octets.now c.loop-left.rest.now c.loop-left.parts (omega arith) c.loop-left.invariant.0

pub value_of-returns-in_err-name-clause-failed : goal.value_of-returns-in_err-name-clause-failed
value_of-returns-in_err-name-clause-failed t c =
    through c.from_residual.result _ _ c.from_residual.ensures.1
    (name_failed c.args.depth c.args.room (c.args.first ∷ c.args.tail.now) c.in_err-name.field-0.0 c.in_err-name.ensures.failed)

pub value_of-returns-in_err-size-clause-failed : goal.value_of-returns-in_err-size-clause-failed
value_of-returns-in_err-size-clause-failed t c =
    through c.from_residual-in_err-size.result _ _ c.from_residual-in_err-size.ensures.1
    (size_failed c.args.depth c.args.room (c.args.first ∷ c.args.tail.now) c.in_ok-name.rest.now (said c.in_ok-name.name) (length c.args.tail.now + 1 - length c.in_ok-name.rest.now)
    c.in_err-size.field-0.0 c.in_ok-name.ensures.got (omega arith) c.in_err-size.ensures.failed)

pub value_of-contents_of-requires : goal.value_of-contents_of-requires
value_of-contents_of-requires t c =
    let octets = c.args.first ∷ c.args.tail.now in
    let prefix = length c.args.tail.now + 1 - length c.in_ok-name.rest.now in
    let named = name_facts c.args.depth c.args.room octets c.in_ok-name.rest.now (said c.in_ok-name.name) prefix c.in_ok-name.ensures.got (omega arith) in
    let sized = size_facts c.args.depth c.args.room octets c.in_ok-name.rest.now c.in_ok-size.contents.now (said c.in_ok-name.name) c.in_ok-size.size prefix (length c.args.tail.now + 1 - length c.in_ok-size.contents.now)
    c.in_ok-name.ensures.got (omega arith) c.in_ok-size.ensures.got (omega arith) in
    let named_on = ends_tail (Names c.args.depth c.args.room) octets c.in_ok-name.rest.now (said c.in_ok-name.name) c.args.kept c.in_ok-name.ensures.got c.requires.kept in
    let sized_on = ends_tail (Sizes c.args.depth c.args.room prefix c.in_ok-name.name.constructed) c.in_ok-name.rest.now c.in_ok-size.contents.now c.in_ok-size.size c.args.kept c.in_ok-size.ensures.got named_on in
    (omega arith, (sized_on, (named.1, sized.1)))

pub value_of-returns-clause-got : goal.value_of-returns-clause-got
value_of-returns-clause-got t c =
    let octets = c.args.first ∷ c.args.tail.now in
    IfOk-weaker c.contents_of.result _ _
    (λ x g. value_got c.args.depth c.args.room octets c.in_ok-name.rest.now c.in_ok-size.contents.now x.1.now (said c.in_ok-name.name) c.in_ok-size.size (tree_of x.0)
    (length c.args.tail.now + 1 - length c.in_ok-name.rest.now) (length c.args.tail.now + 1 - length c.in_ok-size.contents.now)
    c.in_ok-name.ensures.got (omega arith) c.in_ok-size.ensures.got (omega arith) g)
    c.contents_of.ensures.got

pub value_of-returns-clause-failed : goal.value_of-returns-clause-failed
value_of-returns-clause-failed t c =
    let octets = c.args.first ∷ c.args.tail.now in
    IfErr-weaker c.contents_of.result _ _
    (λ e f. contents_failed c.args.depth c.args.room octets c.in_ok-name.rest.now c.in_ok-size.contents.now (said c.in_ok-name.name) c.in_ok-size.size
    (length c.args.tail.now + 1 - length c.in_ok-name.rest.now) (length c.args.tail.now + 1 - length c.in_ok-size.contents.now) e
    c.in_ok-name.ensures.got (omega arith) c.in_ok-size.ensures.got (omega arith) f)
    c.contents_of.ensures.failed
