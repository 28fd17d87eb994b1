use Rattle.std.proofs.Common.{◌≡◌, ◌∙◌, ap, sym, subst, arith, Ok, Err, is_some, true≢false, insert, remove}
use Rattle.std.specs.Prelude.{if◌then◌else◌}
use Rattle.vf_locks.proofs.Counted.{IsWhole, free_without, inserted_passed, ordered_without, whole_passed}
use Rattle.vf_locks.proofs.Ordered.{absent_at}
use Rattle.vf_locks.specs.Holders.{controls_of, passed}
use Rattle.vf_locks.specs.Place.{place_of}
use Rattle.vf_locks.specs.declared.held.Held.{Held}
use Rattle.vf_locks.proofs.file_holders.FileHolders.pass.Goals as goal

pub unreachable-requires : goal.unreachable-requires
unreachable-requires c =
    let hs = c.self.inside.standing.items in
    let is : place_of c.args.from.now hs ≡ Err c.in_default.field-0
    = ap (place_of c.args.from.now) (sym c.as_slice.ensures.value) ∙ sym c.search.ensures.place ∙ c.in_default.is in
    let none = (absent_at c.args.from.now hs c.in_default.field-0 c.self.invariant.0 is).controls in
    true≢false (sym c.requires.stands ∙ ap is_some (ap (controls_of c.args.from.now) (sym c.self.view_is) ∙ none))

pub search-requires-2 : goal.search-requires-2
search-requires-2 c =
    let hs = c.self.inside.standing.items in
    let is : place_of c.args.from.now hs ≡ Ok c.in-Ok.place
    = ap (place_of c.args.from.now) (sym c.as_slice.ensures.value) ∙ sym c.search.ensures.place ∙ c.in-Ok.is in
    rw (c.as_slice-2.ensures.value, c.remove-held.ensures.items) (ordered_without c.args.from.now hs c.in-Ok.place _ c.self.invariant is c.remove-held.result c.remove-held.ensures.value c.args.to)

pub unreachable-requires-in_default-search : goal.unreachable-requires-in_default-search
unreachable-requires-in_default-search c =
    let hs = c.self.inside.standing.items in
    let is : place_of c.args.from.now hs ≡ Ok c.in-Ok.place
    = ap (place_of c.args.from.now) (sym c.as_slice.ensures.value) ∙ sym c.search.ensures.place ∙ c.in-Ok.is in
    let there : place_of c.args.to (remove hs c.in-Ok.place) ≡ Ok c.in_default-search.field-0
    = ap (place_of c.args.to) (sym (c.as_slice-2.ensures.value ∙ c.remove-held.ensures.items)) ∙ sym c.search-2.ensures.place ∙ c.in_default-search.is in
    free_without c.args.from.now hs c.in-Ok.place _ c.self.invariant is c.remove-held.result c.remove-held.ensures.value c.args.to
    (ap (controls_of c.args.to) c.self.view_is ∙ c.requires.free) c.in_default-search.field-0 there

pub invariant_of-self : goal.invariant_of-self
invariant_of-self c =
    let hs = c.self.inside.standing.items in
    let is : place_of c.args.from.now hs ≡ Ok c.in-Ok.place
    = ap (place_of c.args.from.now) (sym c.as_slice.ensures.value) ∙ sym c.search.ensures.place ∙ c.in-Ok.is in
    let absent : place_of c.args.to (remove hs c.in-Ok.place) ≡ Err c.in-Err.place
    = ap (place_of c.args.to) (sym (c.as_slice-2.ensures.value ∙ c.remove-held.ensures.items)) ∙ sym c.search-2.ensures.place ∙ c.in-Err.is in
    let new : Held = record { holder = c.args.to; controls = c.remove-held.result.controls } in
    let ok = c.self.inside.standing.ok in
    let len = c.remove-held.ensures.len in
    let capacity = c.remove-held.ensures.capacity in
    let room = c.insert.ensures.succeeds (omega arith) in
    let items = c.insert.ensures.items ∙ (λ i. if room i then insert (c.remove-held.ensures.items i) c.in-Err.place new else c.remove-held.new.self.items) in
    subst (IsWhole c.self.inside.counts.numbers) (sym items)
    (whole_passed c.args.from.now hs c.in-Ok.place _ c.self.invariant is c.remove-held.result c.remove-held.ensures.value c.args.to c.in-Err.place absent)

pub returns : goal.returns
returns c =
    let hs = c.self.inside.standing.items in
    let is : place_of c.args.from.now hs ≡ Ok c.in-Ok.place
    = ap (place_of c.args.from.now) (sym c.as_slice.ensures.value) ∙ sym c.search.ensures.place ∙ c.in-Ok.is in
    let absent : place_of c.args.to (remove hs c.in-Ok.place) ≡ Err c.in-Err.place
    = ap (place_of c.args.to) (sym (c.as_slice-2.ensures.value ∙ c.remove-held.ensures.items)) ∙ sym c.search-2.ensures.place ∙ c.in-Err.is in
    let new : Held = record { holder = c.args.to; controls = c.remove-held.result.controls } in
    let ok = c.self.inside.standing.ok in
    let len = c.remove-held.ensures.len in
    let capacity = c.remove-held.ensures.capacity in
    let room = c.insert.ensures.succeeds (omega arith) in
    let items = c.insert.ensures.items ∙ (λ i. if room i then insert (c.remove-held.ensures.items i) c.in-Err.place new else c.remove-held.new.self.items) in
    items
    ∙ inserted_passed c.args.from.now hs c.in-Ok.place _ c.self.invariant is c.remove-held.result c.remove-held.ensures.value c.args.to c.in-Err.place absent
    ∙ ap (passed c.args.from.now c.args.to) c.self.view_is
