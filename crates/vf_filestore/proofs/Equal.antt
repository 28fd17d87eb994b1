-- What is found equal in files and dockets is.
use Rattle.std.proofs.Common.{◌≡◌, ℕ, Bool, true, false, cond, not, ◌&&◌, nat_eq, List, [], ◌∷◌, Option, None, Some, refl, ap, sym}
use Rattle.std.specs.Cmp.Lexicographic.{pointwise}
use Rattle.std.specs.Str.{bytes_eq}
use Rattle.std.proofs.lemmas.Bool.{and_parts, eqb-true}
use Rattle.vf_attr.specs.Attributes.{are_same_attributes, attributes_of}
use Rattle.vf_attr.specs.declared.attributes.Attributes.{Attributes}
use Rattle.vf_attr.specs.declared.file.File.{File}
use Rattle.vf_attr.proofs.EqualAttributes.{attributes_true}
use Rattle.vf_base.specs.declared.access.Context.{Context}
use Rattle.vf_base.specs.declared.access.Context.TheVariants.{HA, FA, UA, US}
use Rattle.vf_base.specs.declared.access.FaduId.{FaduId}
use Rattle.vf_base.specs.declared.access.FaduId.TheVariants.{Begin, End, First, Last, Current, Next, Previous, Number}
use Rattle.vf_base.specs.declared.action.Control.{Control}
use Rattle.vf_base.specs.declared.action.Control.TheVariants.{NotRequired, Shared, Exclusive, NoAccess}
use Rattle.vf_base.specs.declared.element.Element.{Element}
use Rattle.vf_tables.specs.declared.docket.Direction.{Direction}
use Rattle.vf_tables.specs.declared.docket.Direction.TheVariants.{Idle, Read, Write}
use Rattle.vf_tables.specs.declared.docket.Operation.{Operation}
use Rattle.vf_tables.specs.declared.docket.Operation.TheVariants.{Insert, Replace, Extend}
use Rattle.vf_tables.specs.declared.docket.Regime.{Regime}
use Rattle.vf_tree.specs.Same.{are_same_units, is_same_name, is_same_unit}
use Rattle.vf_tree.proofs.EqualUnits.{units_true}
use Rattle.vf_filestore.specs.Changes.{is_same_context, is_same_control, is_same_direction, is_same_fadu, is_same_file, is_same_operation, is_same_regime, is_same_setting, is_same_transfer}
use Rattle.vf_filestore.proofs.Filed.{same_name}

-- ---- files

pub file_true : (one other : File) → other.tree.constraint ≡ one.tree.constraint → is_same_file one other ≡ true → one ≡ other
file_true one other constraint is =
    let last = and_parts (bytes_eq one.name other.name && are_same_units one.tree.units other.tree.units) (are_same_attributes (attributes_of one) (attributes_of other)) is in
    let first = and_parts (bytes_eq one.name other.name) (are_same_units one.tree.units other.tree.units) last.0 in
    let name = same_name one.name other.name first.0 in
    let units = units_true one.tree.units other.tree.units first.1 in
    let attributes = attributes_true (attributes_of one) (attributes_of other) last.1 in
    λ i. record {
      name = name i;
      permitted = (attributes i).permitted;
      contents = (attributes i).contents;
      terms = (attributes i).terms;
      created = (attributes i).created;
      modified = (attributes i).modified;
      read = (attributes i).read;
      changed = (attributes i).changed;
      version = (attributes i).version;
      tree = record { constraint = sym constraint i; units = units i };
    }

pub contents_true : (one other : File) → is_same_file one other ≡ true → other.contents ≡ one.contents
contents_true one other is =
    let last = and_parts (bytes_eq one.name other.name && are_same_units one.tree.units other.tree.units) (are_same_attributes (attributes_of one) (attributes_of other)) is in
    sym (ap (λ (attributes : Attributes). attributes.contents) (attributes_true (attributes_of one) (attributes_of other) last.1))

-- ---- pieces

pub unit_true : (unit other : List Element) → is_same_unit unit other ≡ true → unit ≡ other
unfolding are_same_units
unit_true unit other is = first (units_true (unit ∷ []) (other ∷ []) (ap (λ b. b && true) is))
  where
    first : unit ∷ [] ≡ other ∷ [] → unit ≡ other
    first same = cc

-- ---- dockets

pointwise_true : {A : Type 0} (same : A → A → Bool) → ((a b : A) → same a b ≡ true → a ≡ b) → (xs ys : List A) → pointwise same xs ys ≡ true → xs ≡ ys
pointwise_true same each [] [] e = refl
pointwise_true same each [] (y ∷ ys) e = absurd cc
pointwise_true same each (x ∷ xs) [] e = absurd cc
pointwise_true same each (x ∷ xs) (y ∷ ys) e =
    let parts = and_parts (same x y) (pointwise same xs ys) e in
    λ i. each x y parts.0 i ∷ pointwise_true same each xs ys parts.1 i

name_true : (name other : Option (List ℕ)) → is_same_name name other ≡ true → name ≡ other
name_true None None e = refl
name_true None (Some other) e = absurd cc
name_true (Some name) None e = absurd cc
name_true (Some name) (Some other) e = ap (λ (octets : List ℕ). Some octets) (same_name name other e)

flag_true : (flag other : Bool) → cond flag other (not other) ≡ true → flag ≡ other
flag_true true other e = sym e
flag_true false true e = absurd cc
flag_true false false e = refl

fadu_true : (fadu other : FaduId) → is_same_fadu fadu other ≡ true → fadu ≡ other
fadu_true Begin Begin e = refl
fadu_true End End e = refl
fadu_true First First e = refl
fadu_true Last Last e = refl
fadu_true Current Current e = refl
fadu_true Next Next e = refl
fadu_true Previous Previous e = refl
fadu_true (Number number) (Number other) e = ap (λ n. Number n) (eqb-true number other e)
fadu_true _ _ e = absurd cc

context_true : (context other : Context) → is_same_context context other ≡ true → context ≡ other
context_true HA HA e = refl
context_true FA FA e = refl
context_true UA UA e = refl
context_true US US e = refl
context_true _ _ e = absurd cc

operation_true : (operation other : Operation) → is_same_operation operation other ≡ true → operation ≡ other
operation_true Insert Insert e = refl
operation_true Replace Replace e = refl
operation_true Extend Extend e = refl
operation_true _ _ e = absurd cc

direction_true : (direction other : Direction) → is_same_direction direction other ≡ true → direction ≡ other
direction_true Idle Idle e = refl
direction_true (Read context) (Read other) e = ap (λ (c : Context). Read c) (context_true context other e)
direction_true (Write operation) (Write other) e = ap (λ (o : Operation). Write o) (operation_true operation other e)
direction_true _ _ e = absurd cc

control_true : (control other : Control) → is_same_control control other ≡ true → control ≡ other
control_true NotRequired NotRequired e = refl
control_true Shared Shared e = refl
control_true Exclusive Exclusive e = refl
control_true NoAccess NoAccess e = refl
control_true _ _ e = absurd cc

record AreEqual (one other : Regime) : Type 0 where
  identity : one.identity ≡ other.identity
  activity : one.activity ≡ other.activity
  file : one.file ≡ other.file
  requested : one.requested.value ≡ other.requested.value
  controls : one.controls.each ≡ other.controls.each
  mode : one.mode.value ≡ other.mode.value
  password : one.password ≡ other.password
  window : one.window ≡ other.window

settings_true : (one other : Regime) → is_same_setting one other ≡ true → AreEqual one other
settings_true one other is =
    let a = bytes_eq one.identity other.identity in
    let b = nat_eq one.activity other.activity in
    let c = bytes_eq one.file other.file in
    let d = nat_eq one.requested.value other.requested.value in
    let e = pointwise is_same_control one.controls.each other.controls.each in
    let f = nat_eq one.mode.value other.mode.value in
    let g = is_same_name one.password other.password in
    let h = nat_eq one.window other.window in
    let p = and_parts (a && b && c && d && e && f && g) h is in
    let q = and_parts (a && b && c && d && e && f) g p.0 in
    let r = and_parts (a && b && c && d && e) f q.0 in
    let s = and_parts (a && b && c && d) e r.0 in
    let t = and_parts (a && b && c) d s.0 in
    let u = and_parts (a && b) c t.0 in
    let v = and_parts a b u.0 in
    record {
      identity = same_name one.identity other.identity v.0;
      activity = eqb-true one.activity other.activity v.1;
      file = same_name one.file other.file u.1;
      requested = eqb-true one.requested.value other.requested.value t.1;
      controls = pointwise_true is_same_control control_true one.controls.each other.controls.each s.1;
      mode = eqb-true one.mode.value other.mode.value r.1;
      password = name_true one.password other.password q.1;
      window = eqb-true one.window other.window p.1;
    }

record AreMoving (one other : Regime) : Type 0 where
  position : one.position ≡ other.position
  number : one.number ≡ other.number
  last : one.last ≡ other.last
  direction : one.direction ≡ other.direction
  fadu : one.fadu ≡ other.fadu
  refused : one.refused ≡ other.refused
  point : one.point ≡ other.point
  ended : one.ended ≡ other.ended
  version : one.version ≡ other.version

transfers_true : (one other : Regime) → is_same_transfer one other ≡ true → AreMoving one other
transfers_true one other is =
    let a = nat_eq one.position other.position in
    let b = nat_eq one.number other.number in
    let c = nat_eq one.last other.last in
    let d = is_same_direction one.direction other.direction in
    let e = is_same_fadu one.fadu other.fadu in
    let f = nat_eq one.refused other.refused in
    let g = nat_eq one.point other.point in
    let h = cond one.ended other.ended (not other.ended) in
    let k = nat_eq one.version other.version in
    let p = and_parts (a && b && c && d && e && f && g && h) k is in
    let q = and_parts (a && b && c && d && e && f && g) h p.0 in
    let r = and_parts (a && b && c && d && e && f) g q.0 in
    let s = and_parts (a && b && c && d && e) f r.0 in
    let t = and_parts (a && b && c && d) e s.0 in
    let u = and_parts (a && b && c) d t.0 in
    let v = and_parts (a && b) c u.0 in
    let w = and_parts a b v.0 in
    record {
      position = eqb-true one.position other.position w.0;
      number = eqb-true one.number other.number w.1;
      last = eqb-true one.last other.last v.1;
      direction = direction_true one.direction other.direction u.1;
      fadu = fadu_true one.fadu other.fadu t.1;
      refused = eqb-true one.refused other.refused s.1;
      point = eqb-true one.point other.point r.1;
      ended = flag_true one.ended other.ended q.1;
      version = eqb-true one.version other.version p.1;
    }

pub regime_true : (one other : Regime) → is_same_regime one other ≡ true → one ≡ other
regime_true one other is =
    let parts = and_parts (is_same_setting one other) (is_same_transfer one other) is in
    let setting = settings_true one other parts.0 in
    let moving = transfers_true one other parts.1 in
    λ i. record {
      identity = setting.identity i;
      activity = setting.activity i;
      file = setting.file i;
      requested = record { value = setting.requested i };
      controls = record { each = setting.controls i };
      mode = record { value = setting.mode i };
      password = setting.password i;
      position = moving.position i;
      number = moving.number i;
      last = moving.last i;
      window = setting.window i;
      direction = moving.direction i;
      fadu = moving.fadu i;
      refused = moving.refused i;
      point = moving.point i;
      ended = moving.ended i;
      version = moving.version i;
    }
