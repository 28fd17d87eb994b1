-- What was read is the whole input, or a front of it that passes a limit already.
use Rattle.std.proofs.Common.{◌≡◌, ◌++◌, ℕ, List, [], Option, Some, None, Ok, Err, sym, ap, subst, ◌∙◌, inl}
use Rattle.std.proofs.lemmas.List.{append-nil}
use Rattle.vf_base.specs.Streams.{HasRead, IsAtEnd}
use Rattle.vf_base.specs.declared.element.Element.{Element}
use Rattle.vf_initiator.specs.Cutting.{cut, elements_by, fault_of, unless}
use Rattle.vf_initiator.specs.Keepable.{is_within_file}
use Rattle.vf_transact.specs.Starting.{elements_or, refused}
use Rattle.vf_transact.proofs.Prefixes.{fault_stays, few_octets}
use Rattle.vf_transact.proofs.Within.{elements_within}
use Rattle.vf_transact.proofs.reading.read_elements.Goals as goal

refused_by : (kind : ℕ) (read left : List ℕ) (old new : Option (List ℕ)) (n : ℕ) → old ≡ Some left → HasRead old new read → fault_of kind read ≡ Some n → elements_or (cut kind left) ≡ Err (refused n)
refused_by kind read left old new n told has fault =
    let front = subst (λ (o : Option (List ℕ)). HasRead o new read) told has in
    let stays : fault_of kind left ≡ Some n = ap (fault_of kind) front.1 ∙ fault_stays kind read front.0 n fault in
    ap (λ (f : Option ℕ). elements_or (unless f (elements_by kind left))) stays

ended : (rest : List ℕ) (new : Option (List ℕ)) → new ≡ Some rest → IsAtEnd new → rest ≡ []
ended rest new is end = subst (λ (o : Option (List ℕ)). IsAtEnd o) is end

all_by : (kind : ℕ) (read left : List ℕ) (old new : Option (List ℕ)) (elements : List Element) → old ≡ Some left → HasRead old new read → IsAtEnd new → fault_of kind read ≡ None → elements ≡ elements_by kind read
    → elements_or (cut kind left) ≡ Ok elements
all_by kind read left old new elements told has end none is =
    let front = subst (λ (o : Option (List ℕ)). HasRead o new read) told has in
    let whole : left ≡ read = front.1 ∙ ap (λ (l : List ℕ). read ++ l) (ended front.0 new front.2 end) ∙ append-nil read in
    ap (λ (l : List ℕ). elements_or (cut kind l)) whole ∙ ap (λ (f : Option ℕ). elements_or (unless f (elements_by kind read))) none ∙ ap Ok (sym is)

pub returns-in-Some-clause-cut : goal.returns-in-Some-clause-cut
returns-in-Some-clause-cut g c = λ octets told.
    let fault = sym c.fault_of.ensures ∙ c.in-Some.is in
    let read = ap (λ (l : List ℕ). fault_of c.args.kind l) (sym c.as_slice.ensures) ∙ fault in
    inl (refused_by c.args.kind c.in_ok-octets.octets octets (g.I.Source.left c.args.input.now) (g.I.Source.left c.read_input.new.input) c.in-Some.number told c.in_ok-octets.ensures.octets read
    ∙ ap Err (sym c.refused.ensures))

pub returns-clause-cut : goal.returns-clause-cut
returns-clause-cut g c = λ octets told.
    let none = ap (λ (l : List ℕ). fault_of c.args.kind l) (sym c.as_slice.ensures) ∙ (sym c.fault_of.ensures ∙ c.in-None.is) in
    let end = c.in_ok-octets.ensures.end (few_octets c.args.kind c.in_ok-octets.octets none) in
    all_by c.args.kind c.in_ok-octets.octets octets (g.I.Source.left c.args.input.now) (g.I.Source.left c.read_input.new.input) c.in_ok-elements-in-None.elements told c.in_ok-octets.ensures.octets end none c.in_ok-elements-in-None.ensures

pub returns-clause-end : goal.returns-clause-end
returns-clause-end g c =
    let none = ap (λ (l : List ℕ). fault_of c.args.kind l) (sym c.as_slice.ensures) ∙ (sym c.fault_of.ensures ∙ c.in-None.is) in
    c.in_ok-octets.ensures.end (few_octets c.args.kind c.in_ok-octets.octets none)

pub returns-clause-within : goal.returns-clause-within
returns-clause-within g c = λ within.
    let none = ap (λ (l : List ℕ). fault_of c.args.kind l) (sym c.as_slice.ensures) ∙ (sym c.fault_of.ensures ∙ c.in-None.is) in
    ap is_within_file c.in_ok-elements-in-None.ensures ∙ elements_within c.args.kind c.in_ok-octets.octets within none
