-- The driver's own buffers: the most that a case may name of each.
-- Assumes nothing.
use Rattle.std.specs.Prelude.{ℕ}

abbrev pub image_room : ℕ
image_room = 16384

abbrev pub group_room : ℕ
group_room = 1000

abbrev pub list_entries : ℕ
list_entries = 1100

abbrev pub area_numbers : ℕ
area_numbers = 20000
