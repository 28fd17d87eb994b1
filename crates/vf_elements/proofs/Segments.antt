-- Strings in segments.
use Rattle.std.proofs.Common.{◌≡◌, ℕ, ◌+◌, Bool, true, false, cond, List, ap, sym, subst, ◌∙◌, refl}
use Rattle.std.specs.Prelude.{Option, Some, None, is_some, ◌&&◌}
use Rattle.std.specs.Option.{option_and_then, option_map}
use Rattle.vf_ber.specs.Primitive.{in_prefix, is_octet_string, octets_in, octets_of}
use Rattle.vf_ber.specs.Tree.{Tag, Tree, built, Trees, none, more, root}
use Rattle.vf_elements.specs.ElementFaults.{is_segment, wrong_segment}
use Rattle.vf_pdu_fields.specs.Fault.{Field}

joined : (first : Option (List ℕ)) (rest : Option (List ℕ)) → is_some first ≡ true → is_some rest ≡ true
    → is_some (option_and_then (λ octets. in_prefix octets rest) first) ≡ true
joined None rest f r = absurd cc
joined (Some octets) None f r = absurd cc
joined (Some octets) (Some others) f r = refl

segments_by : (part : Tree) (parts : Trees) (a b : Bool) → a ≡ is_octet_string (root part) → b ≡ is_some (octets_of part) → a && b ≡ true
    → is_some (octets_in parts) ≡ true → is_some (octets_in (more part parts)) ≡ true
segments_by part parts false b p q w r = absurd cc
segments_by part parts true false p q w r = absurd cc
segments_by part parts true true p q w r =
    ap (λ (x : Bool). is_some (cond x (option_and_then (λ octets. in_prefix octets (octets_in parts)) (octets_of part)) None)) (sym p)
    ∙ joined (octets_of part) (octets_in parts) (sym q) r

segments_at : (place : ℕ) (part : Tree) (parts : Trees) (b : Bool) → b ≡ is_segment part
    → cond b (wrong_segment (place + 1) parts) (Some (Field place)) ≡ None
    → (wrong_segment (place + 1) parts ≡ None → is_some (octets_in parts) ≡ true) → is_some (octets_in (more part parts)) ≡ true
segments_at place part parts false e w r = absurd cc
segments_at place part parts true e w r =
    segments_by part parts (is_octet_string (root part)) (is_some (octets_of part)) refl refl (sym e) (r w)

-- where no segment is wrong, there are octets
pub segments_whole : (place : ℕ) (parts : Trees) → wrong_segment place parts ≡ None → is_some (octets_in parts) ≡ true
segments_whole place none e = refl
segments_whole place (more part parts) e = segments_at place part parts (is_segment part) refl e (segments_whole (place + 1) parts)

none_found : (parts : Trees) (found : Option ℕ) → octets_in parts ≡ None → wrong_segment 0 parts ≡ option_map Field found → found ≡ None → ⊥
none_found parts (Some place) o w n = cc
none_found parts None o w n = let s : is_some (octets_in parts) ≡ true = segments_whole 0 parts w in cc

-- a string without octets has a wrong segment
pub some_wrong : (tree : Tree) (tag : Tag) (parts start : Trees) (found : Option ℕ) → tree ≡ built tag parts → start ≡ parts → octets_of tree ≡ None
    → wrong_segment 0 start ≡ option_map Field found → found ≡ None → ⊥
some_wrong tree tag parts start found t s o w n =
    let T : Tree → Type 0 = λ x. octets_of x ≡ None in
    let W : Trees → Type 0 = λ x. wrong_segment 0 x ≡ option_map Field found in
    none_found parts found (subst T t o) (subst W s w) n
