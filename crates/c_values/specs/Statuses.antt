-- The statuses that calls return: the exit codes of the command.
use Rattle.std.specs.Prelude.{ℕ}

abbrev pub ok : ℕ
ok = 0

abbrev pub not_text : ℕ
not_text = 1

abbrev pub bad_words : ℕ
bad_words = 2

abbrev pub rule_refused : ℕ
rule_refused = 3

abbrev pub bad_address : ℕ
bad_address = 4

abbrev pub depth_limit : ℕ
depth_limit = 5

abbrev pub coord_limit : ℕ
coord_limit = 6

abbrev pub too_many_tiles : ℕ
too_many_tiles = 7

abbrev pub outside : ℕ
outside = 8

abbrev pub no_memory : ℕ
no_memory = 11

abbrev pub no_edge : ℕ
no_edge = 12

abbrev pub no_vertex : ℕ
no_vertex = 15

abbrev pub star_too_big : ℕ
star_too_big = 16

abbrev pub bad_listing : ℕ
bad_listing = 17
