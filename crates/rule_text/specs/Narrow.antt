-- Documents whose arrays are not too long.
use Rattle.std.specs.Prelude.{ℕ, suc, ◌≤◌, List, Option, Some, None}
use Rattle.toml.specs.Data.{Data, string, integer, float, boolean, datetime, array, table, Items, no_items, item, Members, get_member}

-- the number of items of an array
abbrev pub item_count : Items → ℕ
item_count no_items = 0
item_count (item d ds) = suc (item_count ds)

-- the array, if it is one, has at most n items
abbrev pub IsNarrow : ℕ → Data → Type 0
IsNarrow n (array ds) = item_count ds ≤ n
IsNarrow n (string s) = Unit {0}
IsNarrow n (integer z) = Unit {0}
IsNarrow n (float x) = Unit {0}
IsNarrow n (boolean b) = Unit {0}
IsNarrow n (datetime dt) = Unit {0}
IsNarrow n (table ms) = Unit {0}

-- this holds for the value, if there is one
abbrev pub MayNarrow : ℕ → Option Data → Type 0
MayNarrow n None = Unit {0}
MayNarrow n (Some d) = IsNarrow n d

-- this holds for the value at each key
abbrev pub AreNarrow : ℕ → Members → Type 0
AreNarrow n ms = (name : List ℕ) → MayNarrow n (get_member name ms)
