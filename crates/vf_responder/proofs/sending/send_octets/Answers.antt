use Rattle.std.proofs.Common.{◌≡◌, ℕ, ◌+◌, List, [], ◌++◌, ap, append-nil, arith, drop, refl, subst, sym, ◌∙◌}
use Rattle.std.proofs.lemmas.Result.{err_from_is_err_and}
use Rattle.vf_responder.specs.Spoken.{joined}
use Rattle.vf_responder.specs.declared.spoken.Part.{Part}
use Rattle.vf_responder.proofs.BlockLemmas.{IsAmid, amid-ends, amid-fails, amid-none, amid-row, sends-so}
use Rattle.vf_responder.proofs.SpokenLemmas.{joined-end, joined-next}
use Rattle.vf_responder.proofs.sending.send_octets.Goals as goal

pub loop-part-init : goal.loop-part-init
loop-part-init g c = record {
  amid = rw c.new-block.ensures.items (amid-none (g.L.Links.told c.args.links.now) c.args.link (joined c.deref-part-items.result.now c.octets.inside.last.items));
  link = refl;
  turns = refl;
  count = refl;
}

pub loop-part-preserved : goal.loop-part-preserved
loop-part-preserved g c =
    let parts : List Part = c.deref-part-items.result.now in
    let last : List ℕ = c.octets.inside.last.items in
    let part : Part = c.part-item.result in
    let later : List ℕ = joined (drop (c.loop-part.part-index + 1) parts) last in
    let all : List ℕ = joined parts last in
    let told0 = g.L.Links.told c.args.links.now in
    let told1 = g.L.Links.told c.loop-part.links in
    let told2 = g.L.Links.told c.send_row.new.links in
    let told3 = g.L.Links.told c.send_row-in-loop-part.new.links in
    let A : List ℕ → Type 0 = λ rest. IsAmid told0 told1 c.args.link c.loop-part.block.items rest all in
    let amid = subst A (joined-next parts last c.loop-part.part-index part (omega arith) c.part-item.is) c.loop-part.invariant.amid in
    let before = rw c.as_slice-in-loop-part.ensures.value at c.in_ok-send_row.ensures.traffic in
    let string = rw c.as_slice-in-loop-part-2.ensures at c.in_ok-send_row-2.ensures.traffic in
    let mid = amid-row told0 told1 told2 c.args.link c.loop-part.block.items part.before.items c.send_row.new.block.items (part.string ++ later) all amid before in
    record {
      amid = amid-row told0 told2 told3 c.args.link c.send_row.new.block.items part.string c.send_row-in-loop-part.new.block.items later all mid string;
      link = c.send_row-in-loop-part.ensures.link ∙ c.send_row.ensures.link ∙ c.loop-part.invariant.link;
      turns = c.send_row-in-loop-part.ensures.turns ∙ c.send_row.ensures.turns ∙ c.loop-part.invariant.turns;
      count = c.send_row-in-loop-part.ensures.count ∙ c.send_row.ensures.count ∙ c.loop-part.invariant.count;
    }

pub returns-in_err-send_row-clause-traffic : goal.returns-in_err-send_row-clause-traffic
returns-in_err-send_row-clause-traffic g c =
    let parts : List Part = c.deref-part-items.result.now in
    let last : List ℕ = c.octets.inside.last.items in
    let part : Part = c.part-item.result in
    let all : List ℕ = joined parts last in
    let told0 = g.L.Links.told c.args.links.now in
    let told1 = g.L.Links.told c.loop-part.links in
    let told2 = g.L.Links.told c.send_row.new.links in
    let A : List ℕ → Type 0 = λ rest. IsAmid told0 told1 c.args.link c.loop-part.block.items rest all in
    let amid = subst A (joined-next parts last c.loop-part.part-index part (omega arith) c.part-item.is) c.loop-part.invariant.amid in
    let fails = rw c.as_slice-in-loop-part.ensures.value at c.in_err-send_row.ensures.traffic in
    let p = err_from_is_err_and c.from_residual.result c.from_residual.ensures.1 in
    let same : all ≡ c.args.octets.now = ap (λ (l : List Part). joined l last) c.deref-part-items.ensures.value ∙ c.octets.view_is in
    sends-so told0 told2 c.args.link all c.args.octets.now _ _ same (sym p.1)
    (amid-fails told0 told1 told2 c.args.link c.loop-part.block.items part.before.items c.send_row.new.block.items
    (part.string ++ joined (drop (c.loop-part.part-index + 1) parts) last) all _ p.0 amid fails)

pub returns-in_err-send_row-2-clause-traffic : goal.returns-in_err-send_row-2-clause-traffic
returns-in_err-send_row-2-clause-traffic g c =
    let parts : List Part = c.deref-part-items.result.now in
    let last : List ℕ = c.octets.inside.last.items in
    let part : Part = c.part-item.result in
    let later : List ℕ = joined (drop (c.loop-part.part-index + 1) parts) last in
    let all : List ℕ = joined parts last in
    let told0 = g.L.Links.told c.args.links.now in
    let told1 = g.L.Links.told c.loop-part.links in
    let told2 = g.L.Links.told c.send_row.new.links in
    let told3 = g.L.Links.told c.send_row-in-loop-part.new.links in
    let A : List ℕ → Type 0 = λ rest. IsAmid told0 told1 c.args.link c.loop-part.block.items rest all in
    let amid = subst A (joined-next parts last c.loop-part.part-index part (omega arith) c.part-item.is) c.loop-part.invariant.amid in
    let before = rw c.as_slice-in-loop-part.ensures.value at c.in_ok-send_row.ensures.traffic in
    let mid = amid-row told0 told1 told2 c.args.link c.loop-part.block.items part.before.items c.send_row.new.block.items (part.string ++ later) all amid before in
    let fails = rw c.as_slice-in-loop-part-2.ensures at c.in_err-send_row-2.ensures.traffic in
    let p = err_from_is_err_and c.from_residual-in_err-send_row-2.result c.from_residual-in_err-send_row-2.ensures.1 in
    let same : all ≡ c.args.octets.now = ap (λ (l : List Part). joined l last) c.deref-part-items.ensures.value ∙ c.octets.view_is in
    sends-so told0 told3 c.args.link all c.args.octets.now _ _ same (sym p.1)
    (amid-fails told0 told2 told3 c.args.link c.send_row.new.block.items part.string c.send_row-in-loop-part.new.block.items later all _ p.0 mid fails)

pub returns-in_err-send_row-3-clause-traffic : goal.returns-in_err-send_row-3-clause-traffic
returns-in_err-send_row-3-clause-traffic g c =
    let parts : List Part = c.deref-part-items.result.now in
    let last : List ℕ = c.octets.inside.last.items in
    let all : List ℕ = joined parts last in
    let told0 = g.L.Links.told c.args.links.now in
    let told1 = g.L.Links.told c.loop-part.links in
    let told2 = g.L.Links.told c.send_row-2.new.links in
    let A : List ℕ → Type 0 = λ rest. IsAmid told0 told1 c.args.link c.loop-part.block.items rest all in
    let amid = subst A (joined-end parts last c.loop-part.part-index (omega arith) ∙ sym (append-nil last)) c.loop-part.invariant.amid in
    let fails = rw c.as_slice-2.ensures.value at c.in_err-send_row-3.ensures.traffic in
    let p = err_from_is_err_and c.from_residual-in_err-send_row-3.result c.from_residual-in_err-send_row-3.ensures.1 in
    let same : all ≡ c.args.octets.now = ap (λ (l : List Part). joined l last) c.deref-part-items.ensures.value ∙ c.octets.view_is in
    sends-so told0 told2 c.args.link all c.args.octets.now _ _ same (sym p.1)
    (amid-fails told0 told1 told2 c.args.link c.loop-part.block.items last c.send_row-2.new.block.items [] all _ p.0 amid fails)

pub returns-clause-traffic : goal.returns-clause-traffic
returns-clause-traffic g c =
    let parts : List Part = c.deref-part-items.result.now in
    let last : List ℕ = c.octets.inside.last.items in
    let all : List ℕ = joined parts last in
    let told0 = g.L.Links.told c.args.links.now in
    let told1 = g.L.Links.told c.loop-part.links in
    let told2 = g.L.Links.told c.send_row-2.new.links in
    let told3 = g.L.Links.told c.send_all-2.new.links in
    let A : List ℕ → Type 0 = λ rest. IsAmid told0 told1 c.args.link c.loop-part.block.items rest all in
    let amid = subst A (joined-end parts last c.loop-part.part-index (omega arith) ∙ sym (append-nil last)) c.loop-part.invariant.amid in
    let goes = rw c.as_slice-2.ensures.value at c.in_ok-send_row-3.ensures.traffic in
    let end = rw c.as_slice-3.ensures.value at c.send_all-2.ensures.traffic in
    let same : all ≡ c.args.octets.now = ap (λ (l : List Part). joined l last) c.deref-part-items.ensures.value ∙ c.octets.view_is in
    sends-so told0 told3 c.args.link all c.args.octets.now c.send_all-2.result _ same refl
    (amid-ends told0 told2 told3 c.args.link c.send_row-2.new.block.items all c.send_all-2.result
    (amid-row told0 told1 told2 c.args.link c.loop-part.block.items last c.send_row-2.new.block.items [] all amid goes) end)
