-- Text has a line a string, and binary contents have its octets alone.
use Rattle.std.proofs.Common.{◌≡◌, ℕ, Bool, true, false, List, refl, sym, ap, subst, nat_eq}
use Rattle.std.proofs.lemmas.Result.{on_err_weaker, on_ok_weaker}
use Rattle.std.proofs.lemmas.Bool.{ne_eqb}
use Rattle.std.specs.List.{flat_map}
use Rattle.std.specs.Prelude.{if◌then◌else◌}
use Rattle.vf_base.specs.declared.element.Element.{Element}
use Rattle.vf_initiator.specs.Output.{record_lines, string_line, strings_in, written}
use Rattle.vf_transact.specs.Writing.{PassesAll, PassesFront, string_given}
use Rattle.vf_transact.proofs.writing.write_elements.Goals as goal

by_text : (b : Bool) (elements : List Element) → (if b then flat_map string_line elements else strings_in elements) ≡ flat_map (string_given b) elements
by_text true elements = refl
by_text false elements = refl

not_two : (kind : ℕ) (elements : List Element) (b one : Bool) → nat_eq kind 2 ≡ false
    → (if one then flat_map string_line elements else if nat_eq kind 2 then record_lines elements else strings_in elements) ≡ flat_map (string_given one) elements
not_two kind elements b true other = refl
not_two kind elements b false other = ap (λ b. if b then record_lines elements else strings_in elements) other

given : (kind : ℕ) (elements : List Element) → (kind ≡ 2 → ⊥) → flat_map (string_given (nat_eq kind 1)) elements ≡ written kind elements
given kind elements other = sym (not_two kind elements (nat_eq kind 1) (nat_eq kind 1) (ne_eqb kind 2 other))

pub returns-clause-passes : goal.returns-clause-passes
returns-clause-passes g c =
    on_ok_weaker c.write_strings.result
    (subst (λ (l : List ℕ). PassesAll l (g.O.Sink.taken c.args.out.now) (g.O.Sink.taken c.write_strings.new.out)) (given c.args.kind c.args.elements.now c.if-kind-eq2.false))
    c.write_strings.ensures.passes

pub returns-clause-front : goal.returns-clause-front
returns-clause-front g c =
    on_err_weaker c.write_strings.result
    (subst (λ (l : List ℕ). PassesFront l (g.O.Sink.taken c.args.out.now) (g.O.Sink.taken c.write_strings.new.out)) (given c.args.kind c.args.elements.now c.if-kind-eq2.false))
    c.write_strings.ensures.front
