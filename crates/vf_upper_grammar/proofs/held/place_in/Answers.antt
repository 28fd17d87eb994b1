use Rattle.std.proofs.Common.{◌≡◌, ◌+◌, length, ap, sym, ◌∙◌, arith}
use Rattle.std.specs.Prelude.{min}
use Rattle.vf_upper_grammar.specs.Parts.{number_of}
use Rattle.vf_upper_grammar.specs.Texts.{explicit_in, place_of}
use Rattle.vf_upper_grammar.specs.Views.{part_of, text_of}
use Rattle.vf_upper_grammar.proofs.Locations.{explicit-place, explicit-within, held-explicit, held-octets, is_other, is_zero}
use Rattle.vf_upper_grammar.proofs.SegmentTurns.{place-inside}
use Rattle.vf_upper_grammar.proofs.held.place_in.Goals as goal

pub returns-then-number_of-eq0 : goal.returns-then-number_of-eq0
returns-then-number_of-eq0 c h e len =
    let part = part_of c.args.part.now in
    let text = text_of c.args.part.now.contents in
    let same = held-explicit part h (is_zero c.number_of.result (number_of part.first) c.number_of.ensures c.if-number_of-eq0.true) e in
    let all : length h.octets ≡ length (explicit_in text) = ap (λ x. length x.octets) same in
    let bound = explicit-within text in
    let place : place_of h c.args.offset ≡ text.at + min c.args.offset (length (explicit_in text)) = ap (λ x. place_of x c.args.offset) same ∙ explicit-place text c.args.offset in
    omega arith

pub returns-then-offset-contents : goal.returns-then-offset-contents
returns-then-offset-contents c h e len =
    let part = part_of c.args.part.now in
    let text = text_of c.args.part.now.contents in
    let same = held-octets part h (is_other c.number_of.result (number_of part.first) c.number_of.ensures c.if-number_of-eq0.false) (sym c.is_constructed.ensures ∙ c.if-is_constructed.false) e in
    sym (ap (λ x. place_of x c.args.offset) same ∙ place-inside text part.after c.args.offset c.if-offset-contents.true)
