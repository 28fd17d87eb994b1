use Rattle.std.proofs.Common.{◌≡◌, ◌⊎◌, inl, inr, ⊎_elim, ◌<◌, ◌≤◌, ℕ, drop, sym, ◌∙◌, ap, arith}
use Rattle.vf_journal.specs.Layout.{anchor_place, first_start, place_named, selected_start, selects_second}
use Rattle.vf_journal.proofs.Heads.{head_misplaced, head_refused, head_right, head_same, head_selects, head_short, head_starts}
use Rattle.vf_journal.proofs.head.head_of.Goals as goal

pub returns-in-Some-clause-found : goal.returns-in-Some-clause-found
returns-in-Some-clause-found c = λ image begins. head_refused c.args.octets.now c.args.length image c.requires begins c.in-Some.error c.in-Some.ensures

pub returns-then-length-le-FIRST_START-clause-found : goal.returns-then-length-le-FIRST_START-clause-found
returns-then-length-le-FIRST_START-clause-found c = λ image begins.
    head_short c.args.octets.now c.args.length image c.requires begins (sym c.in_default.is ∙ c.header_fault.ensures) c.if-length-le-FIRST_START.true

pub returns-then-start-lt-FIRST_START-clause-found : goal.returns-then-start-lt-FIRST_START-clause-found
returns-then-start-lt-FIRST_START-clause-found c = λ image begins.
    let octets = c.args.octets.now in
    let agree = sym c.in_default.is ∙ c.header_fault.ensures in
    let long : first_start < c.args.length = omega arith in
    let place : c.anchor_place-at.result ≡ anchor_place (selects_second image) = c.anchor_place-at.ensures ∙ ap anchor_place (head_selects octets c.args.length image c.requires begins agree long) in
    let start : c.named_place-start.result ≡ selected_start image =
    c.named_place-start.ensures ∙ ap place_named (c.split_at.ensures.back ∙ ap (λ (n : ℕ). drop n octets) place) ∙ head_starts octets c.args.length image c.requires begins agree long (selects_second image) in
    let outside : (selected_start image < first_start) ⊎ (c.args.length ≤ selected_start image) =
    ⊎_elim (λ low. inl (omega (arith, low, start))) (λ high. inr (omega (arith, high.1, start))) c.then-start-lt-FIRST_START.either in
    head_misplaced octets c.args.length image c.requires begins agree long c.anchor_place-at.result place outside

pub returns-clause-found : goal.returns-clause-found
returns-clause-found c = λ image begins.
    let octets = c.args.octets.now in
    let agree = sym c.in_default.is ∙ c.header_fault.ensures in
    let long : first_start < c.args.length = omega arith in
    let selects = head_selects octets c.args.length image c.requires begins agree long in
    let place : c.anchor_place-at.result ≡ anchor_place (selects_second image) = c.anchor_place-at.ensures ∙ ap anchor_place selects in
    let start : c.named_place-start.result ≡ selected_start image =
    c.named_place-start.ensures ∙ ap place_named (c.split_at.ensures.back ∙ ap (λ (n : ℕ). drop n octets) place) ∙ head_starts octets c.args.length image c.requires begins agree long (selects_second image) in
    let high : first_start ≤ selected_start image = omega (arith, start) in
    let within : selected_start image < c.args.length = omega (arith, start) in
    (head_right octets c.args.length image c.requires begins agree long high within, head_same _ (selects_second image) c.named_place-start.result (selected_start image) c.args.length _ selects start (sym begins.1))
