-- When the attributes of two files are equal, as far as reads and writes change them.
use Rattle.std.proofs.Common.{◌≡◌, ℕ, ◌<◌, ◌+◌, Bool, true, false, ◌&&◌, nat_eq, List, [], ◌∷◌, Option, Some, None, refl, ap, ◌∙◌, arith}
use Rattle.std.specs.Cmp.Lexicographic.{pointwise}
use Rattle.std.proofs.lemmas.Bool.{and_parts, eqb-true}
use Rattle.std.proofs.lemmas.Slice.Eq.{bytes_eq-Decides}
use Rattle.vf_base.specs.declared.contents.Contents.{Contents}
use Rattle.vf_base.specs.declared.term.Term.{Term}
use Rattle.vf_attr.specs.declared.attributes.Attributes.{Attributes}
use Rattle.vf_attr.specs.declared.stamp.Stamp.{Stamp}
use Rattle.vf_attr.specs.Attributes.{are_same_attributes, are_same_settings, is_same_contents, is_same_option, is_same_stamp, is_same_term, is_same_text}

both : (a b : Bool) → a ≡ true → b ≡ true → (a && b) ≡ true
both a b first second = λ i. first i && second i

none : (b : Bool) → (b && false) ≡ false
none true = refl
none false = refl

number : (n : ℕ) → nat_eq n n ≡ true
number n = grind arith

text : (octets : List ℕ) → pointwise nat_eq octets octets ≡ true
text octets = (bytes_eq-Decides octets octets).1 refl

some_text : (octets : Option (List ℕ)) → is_same_text octets octets ≡ true
some_text None = refl
some_text (Some octets) = text octets

pub stamp_refl : (stamp : Stamp) → is_same_stamp stamp stamp ≡ true
stamp_refl stamp = both (nat_eq stamp.moment stamp.moment) (pointwise nat_eq stamp.identity stamp.identity) (number stamp.moment) (text stamp.identity)

option_refl : (stamp : Option Stamp) → is_same_option stamp stamp ≡ true
option_refl None = refl
option_refl (Some stamp) = stamp_refl stamp

term_refl : (term : Term) → is_same_term term term ≡ true
term_refl term =
    both _ (is_same_text term.password term.password)
    (both (is_same_text term.identity term.identity) (nat_eq term.actions.value term.actions.value) (some_text term.identity) (number term.actions.value))
    (some_text term.password)

terms_refl : (terms : List Term) → pointwise is_same_term terms terms ≡ true
terms_refl [] = refl
terms_refl (term ∷ terms) = both (is_same_term term term) (pointwise is_same_term terms terms) (term_refl term) (terms_refl terms)

contents_refl : (contents : Contents) → is_same_contents contents contents ≡ true
contents_refl c =
    both _ (nat_eq c.significance c.significance)
    (both _ (nat_eq c.longest c.longest) (both (pointwise nat_eq c.kind c.kind) (nat_eq c.class c.class) (text c.kind) (number c.class)) (number c.longest))
    (number c.significance)

settings_refl : (a : Attributes) → are_same_settings a a ≡ true
settings_refl a =
    both _ (is_same_option a.changed a.changed)
    (both _ (is_same_stamp a.created a.created)
    (both _ (pointwise is_same_term a.terms a.terms)
    (both (nat_eq a.permitted.value a.permitted.value) (is_same_contents a.contents a.contents) (number a.permitted.value) (contents_refl a.contents))
    (terms_refl a.terms))
    (stamp_refl a.created))
    (option_refl a.changed)

unread : (a : Attributes) → (nat_eq a.version a.version && are_same_settings a a && is_same_option a.modified a.modified) ≡ true
unread a =
    both _ (is_same_option a.modified a.modified)
    (both (nat_eq a.version a.version) (are_same_settings a a) (number a.version) (settings_refl a))
    (option_refl a.modified)

-- a read sets its own stamp alone
pub same_but_read : (a : Attributes) (stamp : Option Stamp) → are_same_attributes a (record a { read = stamp }) ≡ is_same_option a.read stamp
unfolding are_same_attributes
same_but_read a stamp = ap (λ b. b && is_same_option a.read stamp) (unread a) ∙ one (is_same_option a.read stamp)
  where
    one : (b : Bool) → (true && b) ≡ b
    one true = refl
    one false = refl

pub attributes_refl : (a : Attributes) → are_same_attributes a a ≡ true
attributes_refl a = same_but_read a a.read ∙ option_refl a.read

-- a write counts a version more
pub other_version : (a b : Attributes) → a.version < b.version → are_same_attributes a b ≡ false
unfolding are_same_attributes
other_version a b less = by (nat_eq a.version b.version) (are_same_settings a b) (is_same_option a.modified b.modified) (is_same_option a.read b.read) differs
  where
    differs : nat_eq a.version b.version ≡ false
    differs = grind (arith, less)

    by : (v s m r : Bool) → v ≡ false → ((v && s && m) && r) ≡ false
    by v s m r e = λ i. (e i && s && m) && r

-- attributes that are found equal are
stamp_true : (stamp other : Stamp) → is_same_stamp stamp other ≡ true → stamp ≡ other
stamp_true stamp other e =
    let parts = and_parts (nat_eq stamp.moment other.moment) (pointwise nat_eq stamp.identity other.identity) e in
    let moment = eqb-true stamp.moment other.moment parts.0 in
    let identity = (bytes_eq-Decides stamp.identity other.identity).0 parts.1 in
    λ i. record { moment = moment i; identity = identity i }

option_true : (stamp other : Option Stamp) → is_same_option stamp other ≡ true → stamp ≡ other
option_true None None e = refl
option_true None (Some other) e = absurd cc
option_true (Some stamp) None e = absurd cc
option_true (Some stamp) (Some other) e = ap (λ (s : Stamp). Some s) (stamp_true stamp other e)

text_true : (text other : Option (List ℕ)) → is_same_text text other ≡ true → text ≡ other
text_true None None e = refl
text_true None (Some other) e = absurd cc
text_true (Some text) None e = absurd cc
text_true (Some text) (Some other) e = ap (λ (octets : List ℕ). Some octets) ((bytes_eq-Decides text other).0 e)

term_true : (term other : Term) → is_same_term term other ≡ true → term ≡ other
term_true term other e =
    let last = and_parts (is_same_text term.identity other.identity && nat_eq term.actions.value other.actions.value) (is_same_text term.password other.password) e in
    let first = and_parts (is_same_text term.identity other.identity) (nat_eq term.actions.value other.actions.value) last.0 in
    let identity = text_true term.identity other.identity first.0 in
    let value = eqb-true term.actions.value other.actions.value first.1 in
    let password = text_true term.password other.password last.1 in
    λ i. record { identity = identity i; actions = record { value = value i }; password = password i }

terms_true : (terms others : List Term) → pointwise is_same_term terms others ≡ true → terms ≡ others
terms_true [] [] e = refl
terms_true [] (other ∷ others) e = absurd cc
terms_true (term ∷ terms) [] e = absurd cc
terms_true (term ∷ terms) (other ∷ others) e =
    let parts = and_parts (is_same_term term other) (pointwise is_same_term terms others) e in
    λ i. term_true term other parts.0 i ∷ terms_true terms others parts.1 i

contents_true : (c d : Contents) → is_same_contents c d ≡ true → c ≡ d
contents_true c d e =
    let last = and_parts (pointwise nat_eq c.kind d.kind && nat_eq c.class d.class && nat_eq c.longest d.longest) (nat_eq c.significance d.significance) e in
    let third = and_parts (pointwise nat_eq c.kind d.kind && nat_eq c.class d.class) (nat_eq c.longest d.longest) last.0 in
    let first = and_parts (pointwise nat_eq c.kind d.kind) (nat_eq c.class d.class) third.0 in
    let kind = (bytes_eq-Decides c.kind d.kind).0 first.0 in
    let class = eqb-true c.class d.class first.1 in
    let longest = eqb-true c.longest d.longest third.1 in
    let significance = eqb-true c.significance d.significance last.1 in
    λ i. record { kind = kind i; class = class i; longest = longest i; significance = significance i }

pub attributes_true : (a b : Attributes) → are_same_attributes a b ≡ true → a ≡ b
unfolding are_same_attributes
attributes_true a b e =
    let last = and_parts (nat_eq a.version b.version && are_same_settings a b && is_same_option a.modified b.modified) (is_same_option a.read b.read) e in
    let third = and_parts (nat_eq a.version b.version && are_same_settings a b) (is_same_option a.modified b.modified) last.0 in
    let first = and_parts (nat_eq a.version b.version) (are_same_settings a b) third.0 in
    let s4 = and_parts (nat_eq a.permitted.value b.permitted.value && is_same_contents a.contents b.contents && pointwise is_same_term a.terms b.terms && is_same_stamp a.created b.created) (is_same_option a.changed b.changed) first.1 in
    let s3 = and_parts (nat_eq a.permitted.value b.permitted.value && is_same_contents a.contents b.contents && pointwise is_same_term a.terms b.terms) (is_same_stamp a.created b.created) s4.0 in
    let s2 = and_parts (nat_eq a.permitted.value b.permitted.value && is_same_contents a.contents b.contents) (pointwise is_same_term a.terms b.terms) s3.0 in
    let s1 = and_parts (nat_eq a.permitted.value b.permitted.value) (is_same_contents a.contents b.contents) s2.0 in
    let permitted = eqb-true a.permitted.value b.permitted.value s1.0 in
    let contents = contents_true a.contents b.contents s1.1 in
    let terms = terms_true a.terms b.terms s2.1 in
    let created = stamp_true a.created b.created s3.1 in
    let changed = option_true a.changed b.changed s4.1 in
    let modified = option_true a.modified b.modified third.1 in
    let read = option_true a.read b.read last.1 in
    let version = eqb-true a.version b.version first.0 in
    λ i. record {
      permitted = record { value = permitted i };
      contents = contents i;
      terms = terms i;
      created = created i;
      modified = modified i;
      read = read i;
      changed = changed i;
      version = version i;
    }
