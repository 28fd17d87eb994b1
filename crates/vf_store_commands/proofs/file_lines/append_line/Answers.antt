use Rattle.std.proofs.Common.{append_assoc}
use Rattle.vf_store_commands.proofs.file_lines.append_line.Goals as goal

pub returns : goal.returns
returns c =
    rw (
      c.in_ok-push-2.ensures.items,
      c.in_ok-extend_from_slice-2.ensures.items,
      c.in_ok-push.ensures.items,
      c.in_ok-append_moment.ensures,
      c.in_ok-append_numbers.ensures,
      c.in_ok-extend_from_slice.ensures.items,
      c.as_slice.ensures.octets,
      c.size.ensures,
      c.word_of.ensures,
    ) (simp append_assoc)
