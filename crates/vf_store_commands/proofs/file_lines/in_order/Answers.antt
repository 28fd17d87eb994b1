use Rattle.std.proofs.Common.{◌≡◌, ◌∙◌, List, Bor, rules, subst}
use Rattle.std.proofs.lemmas.List.{take_all}
use Rattle.std.proofs.lemmas.List.Sorted.{IsPermutation-map, answers_always, ranks_by}
use Rattle.std.specs.Cmp.Lexicographic.{nat_list_cmp_total, slice_cmp}
use Rattle.std.specs.List.Sorted.{IsPermutation}
use Rattle.std.specs.Ordering.{is_lt, nat_cmp}
use Rattle.vf_attr.specs.declared.file.File.{File}
use Rattle.vf_store_commands.proofs.Ordered.{behind, order_behind}
use Rattle.vf_store_commands.proofs.file_lines.in_order.Goals as goal

pub returns : goal.returns
returns c =
    let all : behind c.loop-file.sorted.items ≡ c.args.files.now = c.loop-file.invariant ∙ take_all c.loop-file.file-index c.args.files.now c.loop-file-test.false in
    let order = c.sort_unstable_by.ensures.sorted (λ (one other : Bor File). is_lt (slice_cmp nat_cmp one.now.name other.now.name))
    (ranks_by nat_list_cmp_total (λ (file : Bor File). file.now.name)) (answers_always _ _ _ (λ f a r g h. search rules)) in
    record {
      same = subst (λ (l : List File). IsPermutation l (behind c.sort_unstable_by.new.self.items)) all
          (IsPermutation-map (λ (file : Bor File). file.now) c.loop-file.sorted.items c.sort_unstable_by.new.self.items c.sort_unstable_by.ensures.permutation);
      order = order_behind c.sort_unstable_by.new.self.items order;
    }
