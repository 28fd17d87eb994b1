-- What is written is read again: of the parts of a row, so of the row.
use Rattle.std.proofs.Common.{◌≡◌, ℕ, suc, ◌+◌, ◌<◌, ◌≤◌, ◌^◌, ◌%◌, List, [], ◌∷◌, ◌++◌, length, get_or, take, Option, Some, None, refl, sym, ap, subst, ◌∙◌, append_assoc, length-append, arith}
use Rattle.std.specs.Int.{w16, w32, w64, to_be_bytes}
use Rattle.std.specs.List.{flat_map, AllByRecursion}
use Rattle.std.proofs.lemmas.List.{append-nil, take_all, take_more}
use Rattle.std.proofs.lemmas.List.Concat.{flat_map-append, flat_map-cons}
use Rattle.std.proofs.lemmas.Bool.Decides.{nat_tests}
use Rattle.vf_base.specs.Name.{IsName}
use Rattle.vf_store_record.specs.Fields.{name_of}
use Rattle.vf_store_record.specs.Formats.{Format, ◌>>=◌, octet, number, counted, both, made, optional, listed, repeated, repeated_read}
use Rattle.vf_store_record.specs.Writing.{Always, IsReadAgain, Writes}
use Rattle.vf_store_record.proofs.Numbers.{counted_exact, number_exact, wide16, wide32, wide64}

-- octets after others, which stand after those before
pub after_both : (a x y b c : List ℕ) → b ≡ a ++ x → c ≡ b ++ y → c ≡ a ++ (x ++ y)
after_both a x y b c p q = q ∙ (ap (λ (l : List ℕ). l ++ y) p ∙ append_assoc a x y)

pub weaker : {A : Type 0} {format : Format A} {value : A} {P Q : Type 0} {a b : List ℕ} → (Q → P) → Writes format value P a b → Writes format value Q a b
weaker f w = record { octets = w.octets; again = λ q. w.again (f q) }

pub same_value : {A : Type 0} {format : Format A} {one other : A} {P : Type 0} {a b : List ℕ} → one ≡ other → Writes format one P a b → Writes format other P a b
same_value {format = format} {P = P} {a = a} {b = b} e w = subst (λ (value : _). Writes format value P a b) e w

-- the same in another place of the code
pub moved : {A : Type 0} {format : Format A} {x y : A} {a b : List ℕ} (P : A → Type 0) → x ≡ y → Writes format x (P x) a b → Writes format y (P y) a b
moved {format = format} {a = a} {b = b} P e w = subst (λ (value : _). Writes format value (P value) a b) e w

-- a value whose kind is spelled before its fields
pub tagged : {A B : Type 0} {format : Format A} {v : A} {P Q : Type 0} {a b c : List ℕ} (whole : Format B) (kind : ℕ) (make : A → B) → (Q → P)
    → whole.spell (make v) ≡ kind ∷ format.spell v → (Q → (octets : List ℕ) → whole.read (kind ∷ octets) ≡ (format.read octets >>= λ (found : A × List ℕ). Some (make found.0, found.1)))
    → Writes octet kind Always a b → Writes format v P b c → Writes whole (make v) Q a c
tagged {format = format} {v = v} {a = a} {b = b} {c = c} whole kind make f spelled reads k w = record {
  octets = after_both a (kind ∷ []) (format.spell v) b c k.octets w.octets ∙ ap (λ (l : List ℕ). a ++ l) (sym spelled);
  again = λ q rest. ap (λ (l : List ℕ). whole.read (l ++ rest)) spelled ∙ (reads q (format.spell v ++ rest) ∙ rw (w.again (f q) rest) refl);
}

pub both_writes : {A B : Type 0} {one : Format A} {other : Format B} {x : A} {y : B} {P Q : Type 0} {a b c : List ℕ}
    → Writes one x P a b → Writes other y Q b c → Writes (both one other) (x, y) (P × Q) a c
both_writes {one = one} {other = other} {x = x} {y = y} {a = a} {b = b} {c = c} v w = record {
  octets = after_both a (one.spell x) (other.spell y) b c v.octets w.octets;
  again = λ is rest.
      ap (λ (o : List ℕ). (both one other).read o) (append_assoc (one.spell x) (other.spell y) rest)
      ∙ rw (v.again is.0 (other.spell y ++ rest), w.again is.1 rest) refl;
}

-- a value that is made of others
pub made_writes : {A B : Type 0} {format : Format A} {P Q : Type 0} {a b : List ℕ} (make : A → Option B) (parts : B → A) (value : B)
    → (Q → P) → (Q → make (parts value) ≡ Some value) → Writes format (parts value) P a b → Writes (made make parts format) value Q a b
made_writes make parts value f back w = record {
  octets = w.octets;
  again = λ q rest. rw (w.again (f q) rest, back q) refl;
}

-- a value, or none
pub some_writes : {A : Type 0} {format : Format A} {value : A} {P : Type 0} {a b c : List ℕ} → Writes octet 1 Always a b → Writes format value P b c → Writes (optional format) (Some value) P a c
some_writes {format = format} {value = value} {a = a} {b = b} {c = c} v w = record {
  octets = after_both a (1 ∷ []) (format.spell value) b c v.octets w.octets;
  again = λ p rest. rw (w.again p rest) refl;
}

pub none_writes : {A : Type 0} {P : Type 0} {a b : List ℕ} (format : Format A) → Writes octet 0 Always a b → Writes (optional format) None P a b
none_writes format v = record { octets = v.octets; again = λ p rest. refl }

-- the lowest octets of a number
cons4 : {p q r s t u v w : ℕ} → p ≡ t → q ≡ u → r ≡ v → s ≡ w → p ∷ q ∷ r ∷ s ∷ [] ≡ t ∷ u ∷ v ∷ w ∷ []
cons4 e f g h = cc

cons2 : {p q t u : ℕ} → p ≡ t → q ≡ u → p ∷ q ∷ [] ≡ t ∷ u ∷ []
cons2 e f = cc

pub lowest32 : (n : ℕ) → to_be_bytes w32 (n % 4294967296) ≡ to_be_bytes w32 n
lowest32 n = cons4 (omega arith) (omega arith) (omega arith) (omega arith)

pub lowest16 : (n : ℕ) → to_be_bytes w16 (n % 65536) ≡ to_be_bytes w16 n
lowest16 n = cons2 (omega arith) (omega arith)

-- numbers, and octets after their number
pub number16_writes : {a b o : List ℕ} (n : ℕ) → n < 2 ^ 16 → o ≡ to_be_bytes w16 n → b ≡ a ++ o → Writes (number w16) n Always a b
number16_writes {a = a} n lt is put = record { octets = put ∙ ap (λ (l : List ℕ). a ++ l) is; again = λ p rest. (number_exact w16 (2 ^ 16) wide16).again n rest lt }

pub number32_writes : {a b o : List ℕ} (n : ℕ) → n < 2 ^ 32 → o ≡ to_be_bytes w32 n → b ≡ a ++ o → Writes (number w32) n Always a b
number32_writes {a = a} n lt is put = record { octets = put ∙ ap (λ (l : List ℕ). a ++ l) is; again = λ p rest. (number_exact w32 (2 ^ 32) wide32).again n rest lt }

pub number64_writes : {a b o : List ℕ} (n : ℕ) → n < 2 ^ 64 → o ≡ to_be_bytes w64 n → b ≡ a ++ o → Writes (number w64) n Always a b
number64_writes {a = a} n lt is put = record { octets = put ∙ ap (λ (l : List ℕ). a ++ l) is; again = λ p rest. (number_exact w64 (2 ^ 64) wide64).again n rest lt }

pub count_put : (a b o : List ℕ) (m n : ℕ) → o ≡ to_be_bytes w32 m → m ≡ n % 4294967296 → b ≡ a ++ o → b ≡ a ++ to_be_bytes w32 n
count_put a b o m n is low put = put ∙ ap (λ (l : List ℕ). a ++ l) (is ∙ ap (to_be_bytes w32) low ∙ lowest32 n)

pub text_writes : {a b c o t : List ℕ} {m : ℕ} (text : List ℕ) → o ≡ to_be_bytes w16 m → m ≡ length text % 65536 → b ≡ a ++ o → c ≡ b ++ t → t ≡ text → Writes (counted w16) text (length text < 2 ^ 16) a c
text_writes {a = a} {b = b} {c = c} text is low p q e =
    let first : b ≡ a ++ to_be_bytes w16 (length text) = p ∙ ap (λ (l : List ℕ). a ++ l) (is ∙ ap (to_be_bytes w16) low ∙ lowest16 (length text)) in
    let second : c ≡ b ++ text = q ∙ ap (λ (l : List ℕ). b ++ l) e in
    record {
      octets = after_both a (to_be_bytes w16 (length text)) text b c first second;
      again = λ lt rest. (counted_exact w16 (2 ^ 16) wide16).again text rest lt;
    }

pub string_writes : {a b c t : List ℕ} {m : ℕ} (text : List ℕ) → b ≡ a ++ to_be_bytes w32 m → m ≡ length text → c ≡ b ++ t → t ≡ text → Writes (counted w32) text (length text < 2 ^ 32) a c
string_writes {a = a} {b = b} {c = c} text p same q e =
    let first : b ≡ a ++ to_be_bytes w32 (length text) = p ∙ ap (λ (n : ℕ). a ++ to_be_bytes w32 n) same in
    let second : c ≡ b ++ text = q ∙ ap (λ (l : List ℕ). b ++ l) e in
    record {
      octets = after_both a (to_be_bytes w32 (length text)) text b c first second;
      again = λ lt rest. (counted_exact w32 (2 ^ 32) wide32).again text rest lt;
    }

pub no_string_writes : {a b : List ℕ} → b ≡ a ++ to_be_bytes w32 0 → Writes (counted w32) [] (length {A = ℕ} [] < 2 ^ 32) a b
no_string_writes {a = a} {b = b} put = string_writes {a = a} {b = b} {c = b} {t = []} {m = 0} [] put refl (sym (append-nil b)) refl

-- names, and passwords that are in their range
pub name_short : (name : List ℕ) → IsName name → length name ≤ 255
name_short name is = grind (arith, nat_tests)

pub name_known : (name : List ℕ) → IsName name → name_of name ≡ Some name
name_known name is = rw is refl

-- Several values, as a loop puts them.
pub record WritesEach {A : Type 0} (format : Format A) (P : A → Type 0) (items : List A) (before after : List ℕ) : Type 0 where
  pub octets : after ≡ before ++ flat_map format.spell items
  pub again : AllByRecursion (λ (item : A). P item → IsReadAgain format item) items

pub none_of_them : {A : Type 0} (format : Format A) (P : A → Type 0) (a : List ℕ) → WritesEach format P [] a a
none_of_them format P a = record { octets = sym (append-nil a); again = tt }

all_more : {A : Type 0} (Q : A → Type 0) (items : List A) (item : A) → AllByRecursion Q items → Q item → AllByRecursion Q (items ++ item ∷ [])
all_more Q [] item all one = (one, tt)
all_more Q (x ∷ items) item all one = (all.0, all_more Q items item all.1 one)

pub one_more : {A : Type 0} {format : Format A} {P : A → Type 0} {items : List A} {item : A} {a b c : List ℕ}
    → WritesEach format P items a b → Writes format item (P item) b c → WritesEach format P (items ++ item ∷ []) a c
one_more {format = format} {P = P} {items = items} {item = item} {a = a} {b = b} {c = c} v w = record {
  octets =
      after_both a (flat_map format.spell items) (format.spell item) b c v.octets w.octets
      ∙ ap (λ (l : List ℕ). a ++ l) (sym (flat_map-append format.spell items (item ∷ []) ∙ ap (λ (l : List ℕ). flat_map format.spell items ++ l) (flat_map-cons format.spell item [] ∙ append-nil (format.spell item))));
  again = all_more (λ (item : _). P item → IsReadAgain format item) items item v.again w.again;
}

-- the next one of a list
pub one_further : {A : Type 0} {format : Format A} {P : A → Type 0} {a b c : List ℕ} (items : List A) (i : ℕ) (item : A) → i < length items → item ≡ get_or items i item
    → WritesEach format P (take i items) a b → Writes format item (P item) b c → WritesEach format P (take (i + 1) items) a c
one_further {format = format} {P = P} {a = a} {c = c} items i item lt is v w =
    let next : take (i + 1) items ≡ take i items ++ item ∷ [] = take_more items i item lt ∙ ap (λ (x : _). take i items ++ x ∷ []) (sym is) in
    subst (λ (l : List _). WritesEach format P l a c) (sym next) (one_more v w)

pub one_at : {A : Type 0} {format : Format A} {P : A → Type 0} {a b c : List ℕ} (items : List A) (i : ℕ) (d : A) → i < length items
    → WritesEach format P (take i items) a b → Writes format (get_or items i d) (P (get_or items i d)) b c → WritesEach format P (take (i + 1) items) a c
one_at {format = format} {P = P} {a = a} {c = c} items i d lt v w =
    subst (λ (l : List _). WritesEach format P l a c) (sym (take_more items i d lt)) (one_more v w)

-- and all of it
pub all_of_them : {A : Type 0} {format : Format A} {P : A → Type 0} {a b : List ℕ} (items : List A) (i : ℕ) → length items ≤ i → WritesEach format P (take i items) a b → WritesEach format P items a b
all_of_them {format = format} {P = P} {a = a} {b = b} items i le v = subst (λ (l : List _). WritesEach format P l a b) (take_all i items le) v

met : {A : Type 0} (P Q : A → Type 0) (items : List A) → AllByRecursion (λ (item : A). P item → Q item) items → AllByRecursion P items → AllByRecursion Q items
met P Q [] all is = tt
met P Q (item ∷ items) all is = (all.0 is.0, met P Q items all.1 is.1)

each_again : {A : Type 0} (format : Format A) (items : List A) (rest : List ℕ) → AllByRecursion (IsReadAgain format) items
    → repeated_read format (length items) (flat_map format.spell items ++ rest) ≡ Some (items, rest)
each_again format [] rest all = refl
each_again format (item ∷ items) rest all =
    let regrouped : flat_map format.spell (item ∷ items) ++ rest ≡ format.spell item ++ (flat_map format.spell items ++ rest) =
    ap (λ o. o ++ rest) (flat_map-cons format.spell item items) ∙ append_assoc (format.spell item) (flat_map format.spell items) rest in
    ap (λ (o : List ℕ). repeated_read format (suc (length items)) o) regrouped
    ∙ rw (all.0 (flat_map format.spell items ++ rest), each_again format items rest all.1) refl

-- so many values
pub repeated_writes : {A : Type 0} {format : Format A} {P : A → Type 0} {items : List A} {a b : List ℕ} (count : ℕ) → length items ≡ count → WritesEach format P items a b
    → Writes (repeated count format) items (AllByRecursion P items) a b
repeated_writes {format = format} {P = P} {items = items} count len v = record {
  octets = v.octets;
  again = λ is rest. rw (← len) (each_again format items rest (met P (IsReadAgain format) items v.again is));
}

pub always_all : {A : Type 0} (items : List A) → AllByRecursion (λ (item : A). Always) items
always_all [] = tt
always_all (item ∷ items) = (tt, always_all items)

-- values after their number
pub listed_writes : {A : Type 0} {format : Format A} {P : A → Type 0} {items : List A} {a b c : List ℕ} → b ≡ a ++ to_be_bytes w32 (length items) → WritesEach format P items b c
    → Writes (listed format) items (AllByRecursion P items × (length items < 2 ^ 32)) a c
listed_writes {format = format} {P = P} {items = items} {a = a} {b = b} {c = c} p v = record {
  octets = after_both a (to_be_bytes w32 (length items)) (flat_map format.spell items) b c p v.octets;
  again = λ is rest.
      ap (λ (o : List ℕ). (listed format).read o) (append_assoc (to_be_bytes w32 (length items)) (flat_map format.spell items) rest)
      ∙ rw ((number_exact w32 (2 ^ 32) wide32).again (length items) (flat_map format.spell items ++ rest) is.1)
      (each_again format items rest (met P (IsReadAgain format) items v.again is.0));
}

-- values that have octets each are no more than their octets
pub no_more_than_octets : {A : Type 0} (spell : A → List ℕ) → ((x : A) → 1 ≤ length (spell x)) → (items : List A) → length items ≤ length (flat_map spell items)
no_more_than_octets spell least [] = omega arith
no_more_than_octets spell least (x ∷ items) =
    let rest : length items ≤ length (flat_map spell items) = no_more_than_octets spell least items in
    let one : 1 ≤ length (spell x) = least x in
    let joined : length (flat_map spell (x ∷ items)) ≡ length (spell x) + length (flat_map spell items) = ap length (flat_map-cons spell x items) ∙ length-append (spell x) (flat_map spell items) in
    omega arith
