use Rattle.std.proofs.Common.{◌≡◌, ◌∙◌, Bool, false, true, Option, Some, None, List, ℕ, ap, cond, map, refl, set, sym, option_copied}
use Rattle.std.specs.Option.{is_none, is_some}
use Rattle.std.proofs.lemmas.List.{map-set}
use Rattle.vf_cli_words.specs.Given.{given_of}
use Rattle.vf_cli_words.specs.Words.{Given, place_of, value_of}
use Rattle.vf_cli_words.proofs.options.Options.with.Goals as goal

pub returns-clause-some : goal.returns-clause-some
returns-clause-some c =
    let given : Given = given_of c.args.self in
    let none : is_none (value_of c.args.key given) ≡ true =
    elim c.value.result as (λ o. option_copied o ≡ value_of c.args.key given → is_some o ≡ false → is_none (value_of c.args.key given) ≡ true)
    [ None ↦ (λ copied some. ap is_none (sym copied)) | Some value ↦ (λ copied some. absurd (let wrong : true ≡ false = some in cc)) ]
    c.value.ensures (sym c.is_some.ensures ∙ c.if-is_some.false) in
    let value : Option (List ℕ) = Some c.args.value.now in
    let made : Given = set given (place_of c.args.key) value in
    let same : made ≡ map option_copied (set c.args.self.values c.place.result (Some c.args.value)) =
    ap (λ (i : ℕ). set given i value) (sym c.place.ensures.place) ∙ sym (map-set option_copied c.args.self.values c.place.result (Some c.args.value)) in
    ap (λ (b : Bool). cond b (Some made) None) none ∙ ap Some same
