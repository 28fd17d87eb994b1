-- The first fault, and the units, of the elements from a place on.
use Rattle.std.proofs.Common.{◌≡◌, ℕ, suc, ◌+◌, ◌<◌, Bool, true, false, ◌||◌, List, [], ◌∷◌, ◌++◌, Option, Some, None, not, if◌then◌else◌, length, get_or, drop, refl, sym, ap, add-one, drop-cons, append_assoc, option_map, option_to_list}
use Rattle.std.proofs.lemmas.List.{append-nil}
use Rattle.vf_base.specs.declared.element.Element.{Element}
use Rattle.vf_base.specs.declared.element.Element.TheVariants.{Descriptor, Enter, Exit, Text, Binary}
use Rattle.vf_doctype.specs.declared.doc_type.DocType.{DocType}
use Rattle.vf_doctype.specs.declared.errors.DocError.{DocError}
use Rattle.vf_doctype.specs.declared.errors.DocError.TheVariants.{BadElement, TooLong, NoMemory}
use Rattle.vf_doctype.specs.Checks.{fault, has_length, takes}
use Rattle.vf_doctype.specs.Units.{Refuses, fault_at, first_fault, grouped, is_descriptor, or_else, unless}

pub fault-drop : (doc : DocType) (is_open : Bool) (elements : List Element) (i : ℕ) (d : Element) → i < length elements → first_fault doc is_open (drop i elements) ≡ or_else (fault_at doc is_open (get_or elements i d)) (first_fault doc (is_open || is_descriptor (get_or elements i d)) (drop (i + 1) elements))
fault-drop doc is_open elements i d within = rw (add-one, drop-cons elements i d) refl

pub ruleset faults = (fault-drop)

-- units that are whole and one to which is added, with the groups of what follows
abbrev pub continued : List (List Element) → Option (List Element) → List Element × List (List Element) → List (List Element)
continued whole None rest = whole ++ rest.1
continued whole (Some unit) rest = whole ++ ((unit ++ rest.0) ∷ rest.1)

begun : (whole : List (List Element)) (last : Option (List Element)) (element : Element) (rest : List Element) → is_descriptor element ≡ true → continued whole last (grouped (element ∷ rest)) ≡ continued (whole ++ option_to_list last) (Some []) (grouped rest)
begun whole None (Descriptor name filled) rest e = ap (λ (prefix : List (List Element)). prefix ++ ((grouped rest).0 ∷ (grouped rest).1)) (sym (append-nil whole))
begun whole (Some unit) (Descriptor name filled) rest e = rw (append-nil unit) (sym (append_assoc whole (unit ∷ []) ((grouped rest).0 ∷ (grouped rest).1)))
begun whole last Enter rest e = cc
begun whole last Exit rest e = cc
begun whole last (Text class octets) rest e = cc
begun whole last (Binary octets) rest e = cc

put-one : (whole : List (List Element)) (last : Option (List Element)) (element : Element) (first : List Element) (rest : List (List Element)) → continued whole last (element ∷ first, rest) ≡ continued whole (option_map (λ unit. unit ++ element ∷ []) last) (first, rest)
put-one whole None element first rest = refl
put-one whole (Some unit) element first rest = ap (λ (joined : List Element). whole ++ (joined ∷ rest)) (sym (append_assoc unit (element ∷ []) first))

put : (whole : List (List Element)) (last : Option (List Element)) (element : Element) (rest : List Element) → is_descriptor element ≡ false → continued whole last (grouped (element ∷ rest)) ≡ continued whole (option_map (λ unit. unit ++ element ∷ []) last) (grouped rest)
put whole last (Descriptor name filled) rest e = cc
put whole last Enter rest e = put-one whole last Enter (grouped rest).0 (grouped rest).1
put whole last Exit rest e = put-one whole last Exit (grouped rest).0 (grouped rest).1
put whole last (Text class octets) rest e = put-one whole last (Text class octets) (grouped rest).0 (grouped rest).1
put whole last (Binary octets) rest e = put-one whole last (Binary octets) (grouped rest).0 (grouped rest).1

pub closed : (whole : List (List Element)) (last : Option (List Element)) → continued whole last ([], []) ≡ whole ++ option_to_list last
closed whole None = refl
closed whole (Some unit) = rw (append-nil unit) refl

pub begun-drop : (whole : List (List Element)) (last : Option (List Element)) (elements : List Element) (i : ℕ) (d : Element) → i < length elements → is_descriptor (get_or elements i d) ≡ true → continued whole last (grouped (drop i elements)) ≡ continued (whole ++ option_to_list last) (Some []) (grouped (drop (i + 1) elements))
begun-drop whole last elements i d within e =
    rw (add-one, drop-cons elements i d) (begun whole last (get_or elements i d) (drop (suc i) elements) e)

pub put-drop : (whole : List (List Element)) (last : Option (List Element)) (elements : List Element) (i : ℕ) (d : Element) → i < length elements → is_descriptor (get_or elements i d) ≡ false → continued whole last (grouped (drop i elements)) ≡ continued whole (option_map (λ unit. unit ++ get_or elements i d ∷ []) last) (grouped (drop (i + 1) elements))
put-drop whole last elements i d within e =
    rw (add-one, drop-cons elements i d) (put whole last (get_or elements i d) (drop (suc i) elements) e)

pub ruleset groups = (closed, begun-drop, put-drop)

-- no fault of an element is want of memory
either : (good long : Bool) → (if not good then Some BadElement else if not long then Some TooLong else None) ≡ Some NoMemory → ⊥
either false long e = cc
either true false e = cc
either true true e = cc

or-else : (first later : Option DocError) → (first ≡ Some NoMemory → ⊥) → (later ≡ Some NoMemory → ⊥) → or_else first later ≡ Some NoMemory → ⊥
or-else None later a b e = b e
or-else (Some error) later a b e = a e

at : (doc : DocType) (open-unit : Bool) (element : Element) → (if open-unit then fault doc element else Some BadElement) ≡ Some NoMemory → ⊥
at doc true element e = either (takes doc element) (has_length doc element) e
at doc false element e = cc

pub first-named : (doc : DocType) (is_open : Bool) (elements : List Element) → first_fault doc is_open elements ≡ Some NoMemory → ⊥
first-named doc is_open [] e = cc
first-named doc is_open (element ∷ elements) e =
    or-else (fault_at doc is_open element) (first_fault doc (is_open || is_descriptor element) elements) (at doc (is_open || is_descriptor element) element) (first-named doc (is_open || is_descriptor element) elements) e

pub unless-refuses : {A : Type 0} (found : Option DocError) (value : A) (error : DocError) → (found ≡ Some NoMemory → ⊥) → found ≡ Some error → Refuses (unless found value) error
unless-refuses found value BadElement named is = rw is refl
unless-refuses found value TooLong named is = rw is refl
unless-refuses found value NoMemory named is = absurd (named is)
