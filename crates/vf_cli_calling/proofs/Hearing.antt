-- What a calling end hears: octets one by one, few at once, and any number of them.
use Rattle.std.proofs.Common.{◌≡◌, ◌<◌, ◌≤◌, ◌⊎◌, ℕ, suc, ◌+◌, Bool, true, false, List, [], ◌∷◌, ◌++◌, Option, Some, None, length, drop, get_or, refl, sym, ap, subst, ◌∙◌, append_assoc, add-one, append-nil, arith, inl, inr, drop-cons}
use Rattle.std.specs.Prelude.{if◌then◌else◌}
use Rattle.std.proofs.Math.ListN.{drop_of_length-le}
use Rattle.vf_session.specs.declared.units.TokenSide.{TokenSide}
use Rattle.vf_session.specs.declared.units.TokenSide.TheVariants.{Initiator}
use Rattle.vf_stack.specs.Association.{Association, is_ended}
use Rattle.vf_stack.specs.Few.{FewTellLast, TellsLast, lengthened}
use Rattle.vf_stack.specs.Ranges.{AreRead, IsRead, TellsRead}
use Rattle.vf_stack.specs.Receiving.{Fed, nothing_fed, octets_received, piece_received}
use Rattle.vf_stack.specs.Represents.{Feeds, IsSame, side_of}
use Rattle.vf_stack.specs.declared.indication.Indication.{Indication}
use Rattle.vf_tpkt.specs.Wanting.{lacking}
use Rattle.vf_cli_calling.specs.Calling.{Calling, Heard, hearing, noted, noted_at, octet_heard, point_of, preceded, told}
use Rattle.vf_cli_calling.specs.Lines.{heard_line}
use Rattle.vf_cli_calling.specs.Represents.{Hears, Represents, Tells}
use Rattle.vf_cli_calling.specs.declared.base.Base.{Base}
use Rattle.vf_cli_calling.specs.declared.caller.Caller.{Caller}

abbrev heard_nothing : Calling → Heard
heard_nothing calling = record { lines = []; caller = calling }

-- the calling end as octets were received, and what these tell it
abbrev pub received : Calling → Fed → Calling
received calling fed = record calling { association = fed.association }

abbrev pub heard_as : (link : ℕ) → Calling → Fed → Heard
heard_as link calling fed = told link (received calling fed) fed.indications

-- ---- an association that is over tells nothing

by_true : (b : Bool) (x y : Fed) → b ≡ true → (if b then x else y) ≡ x
by_true true x y e = refl
by_true false x y e = cc

octet_over : (link octet : ℕ) (calling : Calling) → is_ended calling.association.exchange.ending ≡ true → octet_heard link calling octet ≡ heard_nothing calling
octet_over link octet calling over =
    let nothing : piece_received Initiator calling.association (octet ∷ []) ≡ nothing_fed calling.association =
    by_true (is_ended calling.association.exchange.ending) (nothing_fed calling.association) _ over in
    ap (λ (f : Fed). heard_as link calling f) nothing

hearing_over : (link : ℕ) (calling : Calling) (octets : List ℕ) → is_ended calling.association.exchange.ending ≡ true → hearing link calling octets ≡ heard_nothing calling
hearing_over link calling [] over = refl
hearing_over link calling (octet ∷ octets) over =
    ap (λ (h : Heard). preceded h.lines (hearing link h.caller octets)) (octet_over link octet calling over) ∙ hearing_over link calling octets over

-- ---- what is noted leaves the association as it is

noted_stays : (calling : Calling) (point : Option ℕ) → (noted_at calling point).association ≡ calling.association
noted_stays calling None = refl
noted_stays calling (Some point) = refl

told_stays : (link : ℕ) (calling : Calling) (indications : List Indication) → (told link calling indications).caller.association ≡ calling.association
told_stays link calling [] = refl
told_stays link calling (indication ∷ later) = told_stays link (noted calling indication) later ∙ noted_stays calling (point_of indication)

-- ---- few octets

heard_last : (link : ℕ) (heard : Heard) (later : List ℕ) → (later ≡ []) ⊎ (is_ended heard.caller.association.exchange.ending ≡ true)
    → preceded heard.lines (hearing link heard.caller later) ≡ heard
heard_last link heard later (inl none) =
    ap (λ (l : List ℕ). preceded heard.lines (hearing link heard.caller l)) none ∙ ap (λ (l : List ℕ). (let h : Heard = record { lines = l; caller = heard.caller } in h)) (append-nil heard.lines)
heard_last link heard later (inr over) =
    ap (λ (h : Heard). preceded heard.lines h) (hearing_over link heard.caller later over)
    ∙ ap (λ (l : List ℕ). (let h : Heard = record { lines = l; caller = heard.caller } in h)) (append-nil heard.lines)

-- Octets of which one at most tells something are heard by what they tell together.
few_heard : (link : ℕ) (calling : Calling) (octets : List ℕ) → TellsLast Initiator calling.association octets
    → hearing link calling octets ≡ heard_as link calling (octets_received Initiator calling.association octets)
few_heard link calling [] tells = refl
few_heard link calling (octet ∷ later) (inl still) =
    let a : Association = lengthened calling.association (octet ∷ []) in
    let now : Calling = record calling { association = a } in
    let silent : octet_heard link calling octet ≡ heard_nothing now = ap (λ (f : Fed). heard_as link calling f) still.0.nothing in
    ap (λ (h : Heard). preceded h.lines (hearing link h.caller later)) silent
    ∙ (few_heard link now later still.1 ∙ ap (λ (f : Fed). heard_as link calling f) (sym still.0.others))
few_heard link calling (octet ∷ later) (inr last) =
    let fed : Fed = piece_received Initiator calling.association (octet ∷ []) in
    let heard : Heard = heard_as link calling fed in
    let over : (later ≡ []) ⊎ (is_ended heard.caller.association.exchange.ending ≡ true) =
    subst (λ (a : Association). (later ≡ []) ⊎ (is_ended a.exchange.ending ≡ true)) (sym (told_stays link (received calling fed) fed.indications)) last.last in
    heard_last link heard later over ∙ ap (λ (f : Fed). heard_as link calling f) (sym last.whole)

pub heard_few : (link : ℕ) (caller caller' caller'' : Caller) (calling : Calling) (octets : List ℕ) (before indications slice : List Indication) (answers answers' text text' : List ℕ)
    → Represents caller calling → length octets ≤ lacking caller.stack.transport.packet
    → FewTellLast caller.stack calling.association octets → TellsRead Initiator calling.association octets → before ≡ []
    → Feeds (octets_received (side_of caller.stack) calling.association octets) before answers caller'.stack indications answers' → IsSame caller.stack.exchange caller'.stack.exchange
    → caller'.sync ≡ caller.sync → caller'.base ≡ caller.base → slice ≡ indications
    → ((now : Calling) → Represents caller' now → AreRead slice → Hears (told link now slice) text caller'' text')
    → Hears (hearing link calling octets) text caller'' text'
heard_few link caller caller' caller'' calling octets before indications slice answers answers' text text' is few law read none feeds same sync base sliced tells =
    let a : Association = calling.association in
    let fed : Fed = octets_received Initiator a octets in
    let f1 : Feeds fed before answers caller'.stack indications answers' =
    subst (λ (s : TokenSide). Feeds (octets_received s a octets) before answers caller'.stack indications answers') is.side feeds in
    let f : Feeds fed [] answers caller'.stack indications answers' =
    subst (λ (b : List Indication). Feeds fed b answers caller'.stack indications answers') none f1 in
    let lasts : TellsLast Initiator a octets = subst (λ (s : TokenSide). TellsLast s a octets) is.side (law is.association few) in
    let now : Represents caller' (received calling fed) =
    record { association = f.represents; side = same.0 ∙ is.side; offer = same.1 ∙ is.offer; sync = sync ∙ is.sync; base = base ∙ is.base } in
    let all : slice ≡ fed.indications = sliced ∙ f.indications in
    let were_read : AreRead slice = subst AreRead (sym all) read.0 in
    let heard : Hears (told link (received calling fed) slice) text caller'' text' = tells (received calling fed) now were_read in
    let told_so : told link (received calling fed) slice ≡ hearing link calling octets =
    ap (λ (i : List Indication). told link (received calling fed) i) all ∙ sym (few_heard link calling octets lasts) in
    subst (λ (h : Heard). Hears h text caller'' text') told_so heard

pub tells_so : (link : ℕ) (caller' : Caller) (now : Calling) (indication : Indication) (text text' : List ℕ) → Represents caller' now
    → text' ≡ text ++ heard_line link caller'.base indication → Tells link now indication text caller' text'
tells_so link caller' now indication text text' is e =
    record { line_is = e ∙ ap (λ (b : Base). text ++ heard_line link b indication) is.base; represents = is }

-- ---- from indication to indication

-- Some of them were told, and those that are left tell the rest.
pub record ToldOnward (link : ℕ) (calling : Calling) (indications : List Indication) (text : List ℕ) (caller' : Caller) (text' : List ℕ) (rest : List Indication) : Type 0 where
  pub now : Calling
  pub represents : Represents caller' now
  pub were_read : AreRead rest
  pub onward : preceded text (told link calling indications) ≡ preceded text' (told link now rest)

pub told_first : (link : ℕ) (caller : Caller) (calling : Calling) (indications : List Indication) (text : List ℕ) → Represents caller calling → AreRead indications
    → ToldOnward link calling indications text caller text indications
told_first link caller calling indications text is read = record { now = calling; represents = is; were_read = read; onward = refl }

preceded_twice : (text lines : List ℕ) (heard : Heard) → preceded text (preceded lines heard) ≡ preceded (text ++ lines) heard
preceded_twice text lines heard = ap (λ (l : List ℕ). (let h : Heard = record { lines = l; caller = heard.caller } in h)) (sym (append_assoc text lines heard.lines))

told_one : (link : ℕ) (calling : Calling) (indications : List Indication) (text : List ℕ) (caller : Caller) (text' : List ℕ) (caller' : Caller) (text'' : List ℕ) (indication : Indication) (rest : List Indication)
    → ToldOnward link calling indications text caller text' (indication ∷ rest)
    → ((now : Calling) → Represents caller now → IsRead indication → Tells link (noted now indication) indication text' caller' text'')
    → ToldOnward link calling indications text caller' text'' rest
told_one link calling indications text caller text' caller' text'' indication rest before one =
    let next = one before.now before.represents before.were_read.0 in
    let now : Calling = noted before.now indication in
    let line : List ℕ = heard_line link now.base indication in
    record {
      now = now;
      represents = next.represents;
      were_read = before.were_read.1;
      onward = before.onward ∙ (preceded_twice text' line (told link now rest) ∙ ap (λ (t : List ℕ). preceded t (told link now rest)) (sym next.line_is));
    }

pub told_next : (link : ℕ) (calling : Calling) (indications : List Indication) (text : List ℕ) (caller : Caller) (text' : List ℕ) (caller' : Caller) (text'' : List ℕ) (indication : Indication) (place : ℕ)
    → place < length indications → indication ≡ get_or indications place indication
    → ToldOnward link calling indications text caller text' (drop place indications)
    → ((now : Calling) → Represents caller now → IsRead indication → Tells link (noted now indication) indication text' caller' text'')
    → ToldOnward link calling indications text caller' text'' (drop (place + 1) indications)
told_next link calling indications text caller text' caller' text'' indication place within there before one =
    let more : suc place ≡ place + 1 = sym (add-one place) in
    let first : drop place indications ≡ indication ∷ drop (place + 1) indications =
    drop-cons indications place indication within ∙ (ap (λ (i : Indication). i ∷ drop (suc place) indications) (sym there) ∙ ap (λ (n : ℕ). indication ∷ drop n indications) more) in
    told_one link calling indications text caller text' caller' text'' indication (drop (place + 1) indications)
    (subst (λ (rest : List Indication). ToldOnward link calling indications text caller text' rest) first before) one

heard_all : (heard : Heard) (text : List ℕ) (caller' : Caller) (text' : List ℕ) (now : Calling) → Represents caller' now → preceded text heard ≡ preceded text' (heard_nothing now) → Hears heard text caller' text'
heard_all heard text caller' text' now is e =
    record {
      lines_are = sym (ap (λ (h : Heard). h.lines) e ∙ append-nil text');
      represents = subst (λ (c : Calling). Represents caller' c) (sym (ap (λ (h : Heard). h.caller) e)) is;
    }

pub told_last : (link : ℕ) (calling : Calling) (indications : List Indication) (text : List ℕ) (caller : Caller) (text' : List ℕ) (place : ℕ) → length indications ≤ place
    → ToldOnward link calling indications text caller text' (drop place indications) → Hears (told link calling indications) text caller text'
told_last link calling indications text caller text' place all before =
    let last = subst (λ (rest : List Indication). ToldOnward link calling indications text caller text' rest) (drop_of_length-le indications all) before in
    heard_all (told link calling indications) text caller text' last.now last.represents last.onward

-- ---- any number of octets, few at a time

hearing_cut : (link : ℕ) (calling : Calling) (first second : List ℕ)
    → hearing link calling (first ++ second) ≡ preceded (hearing link calling first).lines (hearing link (hearing link calling first).caller second)
hearing_cut link calling [] second = refl
hearing_cut link calling (octet ∷ first) second =
    let one : Heard = octet_heard link calling octet in
    let front : Heard = hearing link one.caller first in
    ap (λ (h : Heard). preceded one.lines h) (hearing_cut link one.caller first second) ∙ preceded_twice one.lines front.lines (hearing link front.caller second)

-- Some of them were heard, and those that are left tell the rest.
pub record HearsOnward (link : ℕ) (calling : Calling) (octets text : List ℕ) (caller' : Caller) (text' rest : List ℕ) : Type 0 where
  pub now : Calling
  pub represents : Represents caller' now
  pub onward : preceded text (hearing link calling octets) ≡ preceded text' (hearing link now rest)

pub hears_first : (link : ℕ) (caller : Caller) (calling : Calling) (octets text : List ℕ) → Represents caller calling → HearsOnward link calling octets text caller text octets
hears_first link caller calling octets text is = record { now = calling; represents = is; onward = refl }

pub hears_next : (link : ℕ) (calling : Calling) (octets text : List ℕ) (caller : Caller) (text' : List ℕ) (caller' : Caller) (text'' rest front more : List ℕ) → rest ≡ front ++ more
    → HearsOnward link calling octets text caller text' rest → ((now : Calling) → Represents caller now → Hears (hearing link now front) text' caller' text'')
    → HearsOnward link calling octets text caller' text'' more
hears_next link calling octets text caller text' caller' text'' rest front more cut before few =
    let next = few before.now before.represents in
    let first : Heard = hearing link before.now front in
    record {
      now = first.caller;
      represents = next.represents;
      onward = before.onward
          ∙ (ap (λ (r : List ℕ). preceded text' (hearing link before.now r)) cut
          ∙ (ap (λ (h : Heard). preceded text' h) (hearing_cut link before.now front more)
          ∙ (preceded_twice text' first.lines (hearing link first.caller more)
          ∙ ap (λ (t : List ℕ). preceded t (hearing link first.caller more)) (sym next.lines_are))));
    }

pub hears_last : (link : ℕ) (calling : Calling) (octets text : List ℕ) (caller : Caller) (text' rest : List ℕ) → length rest ≡ 0
    → HearsOnward link calling octets text caller text' rest → Hears (hearing link calling octets) text caller text'
hears_last link calling octets text caller text' [] none last = heard_all (hearing link calling octets) text caller text' last.now last.represents last.onward
hears_last link calling octets text caller text' (octet ∷ rest) none last = absurd (omega (arith, none))
