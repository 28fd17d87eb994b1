use Rattle.std.proofs.Common.{◌∙◌, ap, arith, ◌+◌, ◌*◌, ◌<◌, ◌++◌, ◌∷◌, [], List, ℕ, append_assoc, inl, inr}
use Rattle.std.proofs.lemmas.Bool.{cases_lt}
use Rattle.std.proofs.lemmas.List.Elements.{All-append, All-cons, All-nil}
use Rattle.vf_cli_dialogue.proofs.HexLemmas.{one_pair}
use Rattle.vf_cli_dialogue.proofs.hex.append_pairs.Goals as goal

pub loop-place-preserved : goal.loop-place-preserved
loop-place-preserved c =
    let same = c.loop-place.invariant.1 in
    let high = c.half_or_more-high.result in
    let low = c.half_or_more-low.result in
    let octet = high * 16 + low in
    let small : octet < 256 = omega arith in
    let is_high = c.half_or_more-high.ensures.digit (omega arith) in
    let is_low = c.half_or_more-low.ensures.digit (omega arith) in (
      omega arith,
      (
        same.0 ++ octet ∷ [],
        c.push_reserved.ensures.items ∙ ap (λ (xs : List ℕ). xs ++ octet ∷ []) same.1 ∙ append_assoc c.args.octets.now.items same.0 (octet ∷ []),
        one_pair c.args.text.now same.0 c.loop-place.place high low (omega arith) same.2 is_high is_low,
        All-append (λ octet. octet < 256) same.0 (octet ∷ []) same.3 (All-cons (λ octet. octet < 256) octet [] small (All-nil (λ octet. octet < 256))),
      ),
    )

pub returns-then-octet-ge256 : goal.returns-then-octet-ge256
returns-then-octet-ge256 c =
    let high = c.half_or_more-high.result in
    let low = c.half_or_more-low.result in
    record {
      within = omega arith;
      more = c.loop-place.invariant.1;
      stopped = λ within. elim (cases_lt high 256) [
        | inl first ↦ elim (cases_lt low 256) [
          | inl second ↦
              let above = (c.half_or_more-high.ensures.digit first).0 in
              let below = (c.half_or_more-low.ensures.digit second).0 in
              absurd (omega arith)
          | inr large ↦ inr (c.half_or_more-low.ensures.none large)
        ]
        | inr large ↦ inl (c.half_or_more-high.ensures.none large)
      ];
    }
