use Rattle.std.proofs.Common.{◌≡◌, ℕ, ◌+◌, ◌-◌, List, [], ◌∷◌, ◌++◌, length, take, drop, sym, ◌∙◌, ap, arith, append_assoc}
use Rattle.std.proofs.lemmas.List.{drop-drop}
use Rattle.vf_disk.specs.Disk.{overwritten}
use Rattle.vf_journal.specs.Layout.{length_octets}
use Rattle.vf_journal.proofs.Ending.{ended}
use Rattle.vf_journal.proofs.Numbers.{length_octets_are, length-length_octets}
use Rattle.vf_journal.proofs.built.end_record.Goals as goal

pub returns-clause-built : goal.returns-clause-built
returns-clause-built c =
    let old = c.args.octets.now.items in
    let at = c.args.at in
    let count = c.in-Ok.count in
    let more : List ℕ = old ++ 0 ∷ [] in
    let value : count ≡ length old - at - 4 = omega (arith, c.in-Ok.ensures, c.len.ensures) in
    let over : c.to_be_bytes.result ≡ length_octets count = c.to_be_bytes.ensures ∙ length_octets_are count in
    c.in_ok-end.ensures.ok
    ∙ ap (λ (l : List ℕ). overwritten more at l) over
    ∙ ap (λ (n : ℕ). (take at more ++ length_octets count) ++ drop (at + n) more) (length-length_octets count)
    ∙ append_assoc (take at more) (length_octets count) (drop (at + 4) more)
    ∙ ap (λ (l : List ℕ). take at more ++ (length_octets count ++ l)) (sym (drop-drop 4 at more))
    ∙ ended old at count c.requires value
