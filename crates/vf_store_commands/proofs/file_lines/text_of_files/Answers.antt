use Rattle.std.proofs.Common.{◌≡◌, ◌++◌, ◌∙◌, List, ℕ, Bor, ap, subst, sym, take}
use Rattle.std.proofs.lemmas.List.{take_all}
use Rattle.vf_attr.specs.declared.file.File.{File}
use Rattle.vf_store_commands.specs.Listing.{IsInOrder, file_line, file_lines}
use Rattle.vf_store_commands.proofs.Ordered.{behind, lines_more}
use Rattle.vf_store_commands.proofs.file_lines.text_of_files.Goals as goal

pub loop-file-preserved : goal.loop-file-preserved
loop-file-preserved c =
    let files : List (Bor File) = c.as_slice-file-items.result.now in
    c.in_ok-append_line.ensures ∙ ap (λ (l : List ℕ). l ++ file_line c.file-item.result.now) c.loop-file.invariant
    ∙ ap (λ (file : Bor File). file_lines (behind (take c.loop-file.file-index files)) ++ file_line file.now) c.file-item.is
    ∙ sym (lines_more files c.loop-file.file-index c.file-item.result c.loop-file-test.true)

pub returns : goal.returns
returns c =
    let files : List (Bor File) = c.as_slice-file-items.result.now in
    let all : files ≡ c.in_ok-sorted.sorted.items = c.as_slice-file-items.ensures.value in (
      behind files,
      subst (λ (l : List (Bor File)). IsInOrder c.args.files.now (behind l)) (sym all) c.in_ok-sorted.ensures,
      c.loop-file.invariant ∙ ap (λ (l : List (Bor File)). file_lines (behind l)) (take_all c.loop-file.file-index files c.loop-file-test.false),
    )
