-- Two isolating regimes of one file whose controls don't clash perform operations that are apart.
use Rattle.std.proofs.Common.{◌≡◌, Bool, true, false, not, ◌&&◌, ◌||◌, refl, ap, sym, ◌∙◌}
use Rattle.std.proofs.lemmas.Bool.{and_parts, or_parts}
use Rattle.vf_attr.specs.Access.{has}
use Rattle.vf_base.specs.declared.action.Action.{Action}
use Rattle.vf_base.specs.declared.action.Action.TheVariants as actions
use Rattle.vf_base.specs.declared.action.Actions.{Actions}
use Rattle.vf_base.specs.declared.action.Control.{Control}
use Rattle.vf_locks.specs.Clash.{clash, is_bar, is_use}
use Rattle.vf_pdu_fields.specs.declared.controls.ContentControls.{ContentControls}
use Rattle.vf_filestore.specs.Controls.{contents_usable, is_usable}
use Rattle.vf_filestore.specs.History.{Regime}
use Rattle.vf_serial.specs.FileModel.{Apart, Operation, is_reading}
use Rattle.vf_serial.specs.Isolating.{bars_all, bars_changes, isolates, may_change, may_read}
use Rattle.vf_serial.specs.Moves.{works}

-- the controls on what is done to contents don't clash
pub record Agree (one other : ContentControls) : Type 0 where
  pub read : clash one.read other.read ≡ false
  pub insert : clash one.insert other.insert ≡ false
  pub replace : clash one.replace other.replace ≡ false
  pub extend : clash one.extend other.extend ≡ false
  pub erase : clash one.erase other.erase ≡ false

-- what the mode of a regime lets it perform
pub record Allows (regime : Regime) (operation : Operation) : Type 0 where
  pub works : works regime.mode ≡ true
  pub changes : is_reading operation.act ≡ false → may_change regime.mode ≡ true

-- who bars and who uses what doesn't clash
first_bars : (one other : Control) → is_bar one ≡ true → clash one other ≡ false → is_use other ≡ false
first_bars one other bars apart =
    let both = or_parts (is_use one && is_bar other) (is_bar one && is_use other) apart in
    sym (ap (λ b. b && is_use other) bars) ∙ both.1

usable : (mode : Actions) (action : Action) (control : Control) → is_usable mode action control ≡ true → is_use control ≡ false → has mode action ≡ false
usable mode action control is unused = by (has mode action) (is_use control) is unused
  where
    by : (b u : Bool) → (not b || u) ≡ true → u ≡ false → b ≡ false
    by true true is unused = absurd cc
    by true false is unused = absurd cc
    by false u is unused = refl

-- a regime that changes the contents bars all others that work on them
excludes : (one other : Regime) → isolates one ≡ true → isolates other ≡ true → Agree one.controls other.controls → may_change one.mode ≡ true → works other.mode ≡ false
excludes one other isolated usable_other agree changes =
    let parts = and_parts (contents_usable one.mode one.controls && (not (may_read one.mode) || bars_changes one.controls)) (not (may_change one.mode) || bars_all one.controls) isolated in
    let bars : bars_all one.controls ≡ true = sym (ap (λ b. not b || bars_all one.controls) changes) ∙ parts.1 in
    let read = and_parts (is_bar one.controls.read) (bars_changes one.controls) bars in
    let erase = and_parts (is_bar one.controls.insert && is_bar one.controls.replace && is_bar one.controls.extend) (is_bar one.controls.erase) read.1 in
    let extend = and_parts (is_bar one.controls.insert && is_bar one.controls.replace) (is_bar one.controls.extend) erase.0 in
    let insert = and_parts (is_bar one.controls.insert) (is_bar one.controls.replace) extend.0 in
    let others = and_parts (contents_usable other.mode other.controls && (not (may_read other.mode) || bars_changes other.controls)) (not (may_change other.mode) || bars_all other.controls) usable_other in
    let uses = and_parts (contents_usable other.mode other.controls) (not (may_read other.mode) || bars_changes other.controls) others.0 in
    let u0 = and_parts (is_usable other.mode actions.Read other.controls.read) _ uses.0 in
    let u1 = and_parts (is_usable other.mode actions.Insert other.controls.insert) _ u0.1 in
    let u2 = and_parts (is_usable other.mode actions.Replace other.controls.replace) _ u1.1 in
    let u3 = and_parts (is_usable other.mode actions.Extend other.controls.extend) _ u2.1 in
    let u4 = and_parts (is_usable other.mode actions.Erase other.controls.erase) _ u3.1 in
    let h0 = usable other.mode actions.Read other.controls.read u0.0 (first_bars one.controls.read other.controls.read read.0 agree.read) in
    let h1 = usable other.mode actions.Insert other.controls.insert u1.0 (first_bars one.controls.insert other.controls.insert insert.0 agree.insert) in
    let h2 = usable other.mode actions.Replace other.controls.replace u2.0 (first_bars one.controls.replace other.controls.replace insert.1 agree.replace) in
    let h3 = usable other.mode actions.Extend other.controls.extend u3.0 (first_bars one.controls.extend other.controls.extend extend.1 agree.extend) in
    let h4 = usable other.mode actions.Erase other.controls.erase u4.0 (first_bars one.controls.erase other.controls.erase erase.1 agree.erase) in
    λ i. h0 i || (h1 i || h2 i || h3 i || h4 i)

reading : (one other : Regime) (first second : Operation) → isolates one ≡ true → isolates other ≡ true → Agree one.controls other.controls → Allows one first → Allows other second
    → is_reading first.act ≡ true
reading one other first second is too agree allows others = by (is_reading first.act) refl
  where
    by : (b : Bool) → is_reading first.act ≡ b → b ≡ true
    by true reads = refl
    by false reads =
        let none = excludes one other is too agree (allows.changes reads) in
        let some = others.works in
        absurd cc

clash_flips : (one other : Control) → clash one other ≡ false → clash other one ≡ false
clash_flips one other apart = by (is_use one) (is_bar one) (is_use other) (is_bar other) apart
  where
    by : (a b c d : Bool) → ((a && d) || (b && c)) ≡ false → ((c && b) || (d && a)) ≡ false
    by true true true true is = is
    by true true true false is = is
    by true true false true is = is
    by true true false false is = is
    by true false true true is = is
    by true false true false is = is
    by true false false true is = is
    by true false false false is = is
    by false true true true is = is
    by false true true false is = is
    by false true false true is = is
    by false true false false is = is
    by false false true true is = is
    by false false true false is = is
    by false false false true is = is
    by false false false false is = is

pub agree_flips : (one other : ContentControls) → Agree one other → Agree other one
agree_flips one other agree = record {
  read = clash_flips one.read other.read agree.read;
  insert = clash_flips one.insert other.insert agree.insert;
  replace = clash_flips one.replace other.replace agree.replace;
  extend = clash_flips one.extend other.extend agree.extend;
  erase = clash_flips one.erase other.erase agree.erase;
}

pub apart : (one other : Regime) (first second : Operation) → isolates one ≡ true → isolates other ≡ true → Agree one.controls other.controls → Allows one first → Allows other second → Apart first second
apart one other first second is too agree allows others =
    (reading one other first second is too agree allows others, reading other one second first too is (agree_flips one.controls other.controls agree) others allows)
