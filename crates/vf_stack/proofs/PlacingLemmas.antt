-- The first context of a syntax is the first one that has the syntax and is the first of its identifier.
use Rattle.std.proofs.Common.{◌≡◌, ℕ, Bool, true, false, List, [], ◌∷◌, ◌++◌, Option, None, Some, append_assoc, ap, refl, sym, ◌∙◌}
use Rattle.std.specs.Prelude.{ℤ, ◌&&◌, if◌then◌else◌, nat_eq}
use Rattle.std.specs.Ordering.{int_eq}
use Rattle.std.proofs.lemmas.Bool.Decides.{Decides-int_eq}
use Rattle.vf_upper.specs.Primitives.{syntax_of}
use Rattle.vf_upper.specs.Written.{accepted, has_syntax, id_among}
use Rattle.vf_upper.specs.declared.contexts.ContextEntry.{ContextEntry}
use Rattle.vf_upper_grammar.specs.Forms.{are_arcs}

-- by its own syntax first
abbrev pub id_soon : List ContextEntry → List ℕ → List ContextEntry → Option ℤ
id_soon contexts syntax [] = None
id_soon contexts syntax (entry ∷ entries) =
    if are_arcs entry.syntax syntax && has_syntax syntax (syntax_of entry.id (accepted contexts)) then Some entry.id else id_soon contexts syntax entries

-- none of these is one of that syntax
abbrev AreOthers : List ContextEntry → List ℕ → List ContextEntry → Type 0
AreOthers contexts syntax [] = Unit {0}
AreOthers contexts syntax (entry ∷ entries) = (has_syntax syntax (syntax_of entry.id (accepted contexts)) ≡ false) × AreOthers contexts syntax entries

others-with : (contexts : List ContextEntry) (syntax : List ℕ) (front : List ContextEntry) (entry : ContextEntry) → AreOthers contexts syntax front
    → has_syntax syntax (syntax_of entry.id (accepted contexts)) ≡ false → AreOthers contexts syntax (front ++ entry ∷ [])
others-with contexts syntax [] entry are is = (is, tt)
others-with contexts syntax (first ∷ front) entry are is = (are.0, others-with contexts syntax front entry are.1 is)

itself : (id : ℤ) → int_eq id id ≡ true
itself id = (Decides-int_eq id id).1 refl

not-both : true ≡ false → ⊥
not-both e = cc

-- one of another syntax is the first of its identifier, or an earlier one is
other-at : (syntax : List ℕ) (contexts others : List ContextEntry) (first entry : ContextEntry) (b : Bool) → int_eq first.id entry.id ≡ b
    → has_syntax syntax (syntax_of first.id (accepted contexts)) ≡ false
    → (syntax_of entry.id (accepted contexts) ≡ syntax_of entry.id (accepted others) → has_syntax syntax (syntax_of entry.id (accepted contexts)) ≡ false)
    → syntax_of entry.id (accepted contexts) ≡ (if b then Some first.syntax else syntax_of entry.id (accepted others))
    → has_syntax syntax (syntax_of entry.id (accepted contexts)) ≡ false
other-at syntax contexts others first entry true e is later looks = ap (λ (id : ℤ). has_syntax syntax (syntax_of id (accepted contexts))) (sym ((Decides-int_eq first.id entry.id).0 e)) ∙ is
other-at syntax contexts others first entry false e is later looks = later looks

other-by : (syntax : List ℕ) (contexts front rest : List ContextEntry) (entry : ContextEntry) → AreOthers contexts syntax front → are_arcs entry.syntax syntax ≡ false
    → syntax_of entry.id (accepted contexts) ≡ syntax_of entry.id (accepted (front ++ entry ∷ rest)) → has_syntax syntax (syntax_of entry.id (accepted contexts)) ≡ false
other-by syntax contexts [] rest entry are is looks =
    ap (has_syntax syntax) (looks ∙ ap (λ (b : Bool). if b then Some entry.syntax else syntax_of entry.id (accepted rest)) (itself entry.id)) ∙ is
other-by syntax contexts (first ∷ front) rest entry are is looks =
    other-at syntax contexts (front ++ entry ∷ rest) first entry (int_eq first.id entry.id) refl are.0 (other-by syntax contexts front rest entry are.1 is) looks

soon-at : (contexts : List ContextEntry) (syntax : List ℕ) (front rest : List ContextEntry) (entry : ContextEntry) (own here : Bool) → are_arcs entry.syntax syntax ≡ own
    → has_syntax syntax (syntax_of entry.id (accepted contexts)) ≡ here → contexts ≡ front ++ entry ∷ rest → AreOthers contexts syntax front
    → (AreOthers contexts syntax (front ++ entry ∷ []) → id_soon contexts syntax rest ≡ id_among contexts syntax rest)
    → (if own && here then Some entry.id else id_soon contexts syntax rest) ≡ (if here then Some entry.id else id_among contexts syntax rest)
soon-at contexts syntax front rest entry true true o h whole are later = refl
soon-at contexts syntax front rest entry true false o h whole are later = later (others-with contexts syntax front entry are h)
soon-at contexts syntax front rest entry false false o h whole are later = later (others-with contexts syntax front entry are h)
soon-at contexts syntax front rest entry false true o h whole are later =
    let looks = ap (λ (all : List ContextEntry). syntax_of entry.id (accepted all)) whole in
    absurd (not-both (sym h ∙ other-by syntax contexts front rest entry are o looks))

soon-by : (contexts : List ContextEntry) (syntax : List ℕ) (front rest : List ContextEntry) → contexts ≡ front ++ rest → AreOthers contexts syntax front → id_soon contexts syntax rest ≡ id_among contexts syntax rest
soon-by contexts syntax front [] whole are = refl
soon-by contexts syntax front (entry ∷ rest) whole are =
    soon-at contexts syntax front rest entry (are_arcs entry.syntax syntax) (has_syntax syntax (syntax_of entry.id (accepted contexts))) refl refl whole are
    (soon-by contexts syntax (front ++ entry ∷ []) rest (whole ∙ sym (append_assoc front (entry ∷ []) rest)))

pub found_soon : (contexts : List ContextEntry) (syntax : List ℕ) → id_soon contexts syntax contexts ≡ id_among contexts syntax contexts
found_soon contexts syntax = soon-by contexts syntax [] contexts refl tt
