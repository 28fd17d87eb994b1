use Rattle.std.proofs.Common.{◌≡◌, ℕ, List, ◌++◌, length, slice_index_or, take, drop, take_all, refl, ap, sym, ◌∙◌, arith, rules}
use Rattle.std.specs.Prelude.{ℤ}
use Rattle.std.proofs.lemmas.Int.{to_z-of_z}
use mir.Syntax.{w64}
use mir.Val.{SFits, of_z, to_z}
use Rattle.vf_ber.specs.Tree.{plain}
use Rattle.vf_upper.specs.Laws.{in_context}
use Rattle.vf_upper.specs.PlainData.{IsAlone, IsPlain, front}
use Rattle.vf_upper.specs.Written.{universal}
use Rattle.vf_upper.proofs.PlainStrings.{found_behind}
use Rattle.vf_upper.proofs.plain.plain_in.Goals as goal

pub returns : goal.returns
returns c =
    let octets : List ℕ = c.args.octets.now in
    let first : List ℕ = c.split_at.result.0.now in
    let string : List ℕ = c.split_at.result.1.now in
    let part : List ℕ = c.in_ok-octets.octets in
    let class = slice_index_or first 15 0 in
    let context = c.from-context.result in
    let fits : SFits w64 context = search rules in
    let is : IsPlain context c.in-Some.one class (length string) = record { id_is = search rules; some = search rules; low = search rules; many = search rules; few = search rules } in
    let front-is : first ≡ front c.in-Some.one class (length string) = search rules in
    let whole : octets ≡ first ++ string = search rules in
    let all : List ℕ = c.as_slice-all.result.now in
    let seen : all ≡ octets = search rules in
    let behind : string ≡ drop 19 octets = c.split_at.ensures.back ∙ ap (λ (o : List ℕ). drop 19 o) seen in
    let cut : part ≡ take (length string) (drop 19 octets) = c.in_ok-octets.ensures in
    let uncut : take (length string) string ≡ string = take_all (length string) string (omega arith) in
    let same : part ≡ string = cut ∙ ap (λ (o : List ℕ). take (length string) o) (sym behind) ∙ uncut in
    let found = found_behind octets first string part context c.in-Some.one class fits is front-is whole same in
    rw (to_z-of_z w64 context fits, c.from.ensures) found
