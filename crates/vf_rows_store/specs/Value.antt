-- What three octets stand for in a test: the first chooses one of the other two.
use Rattle.std.specs.Prelude.{ℕ, ◌==◌, List, slice_index, if◌then◌else◌}

abbrev pub value_of : List ℕ → ℕ
value_of image = if slice_index image 0 == 0 then slice_index image 1 else slice_index image 2
