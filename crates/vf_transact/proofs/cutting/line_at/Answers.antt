-- The line that begins at a place ends at the first line feed from there on, or with the input.
use Rattle.std.proofs.Common.{◌≡◌, ℕ, List, length, drop, Some, None, ◌∙◌, ap, sym, subst}
use Rattle.std.specs.Bool.{◌==◌}
use Rattle.std.specs.List.{position}
use Rattle.vf_transact.specs.Cutting.{IsLineAt}
use Rattle.vf_transact.proofs.Lines.{found_place, found_none, line_found, line_left}
use Rattle.vf_transact.proofs.cutting.line_at.Goals as goal

pub returns-in-Some : goal.returns-in-Some
returns-in-Some c =
    let found : Some c.in-Some.length ≡ position (λ octet. octet == 10) (drop c.args.start c.args.input.now) =
    sym c.in-Some.is ∙ c.place_of_feed.ensures ∙ ap (λ (l : List ℕ). position (λ octet. octet == 10) l) c.split_at.ensures.back in
    let place = found_place (drop c.args.start c.args.input.now) c.in-Some.length found in
    line_found c.args.input.now c.args.start c.in-Some.length c.requires place.0 place.1

pub returns-in-None : goal.returns-in-None
returns-in-None c =
    let none : None ≡ position (λ octet. octet == 10) (drop c.args.start c.args.input.now) =
    sym c.in-None.is ∙ c.place_of_feed.ensures ∙ ap (λ (l : List ℕ). position (λ octet. octet == 10) l) c.split_at.ensures.back in
    let left = line_left c.args.input.now c.args.start c.requires (found_none (drop c.args.start c.args.input.now) none) in
    subst (λ (l : List ℕ). IsLineAt c.args.input.now c.args.start (record { length = length l; next = length c.args.input.now })) (sym c.split_at.ensures.back) left
