-- Lines found by the addresses of their tiles. Each line is in a bucket, and each bucket is a chain from its
-- last line to its first.
use Rattle.std.specs.Prelude.{◌≡◌, ℕ, zero, suc, ◌+◌, ◌*◌, ◌%◌, ◌<◌, ◌≤◌, List, [], ◌∷◌, map, length, get_or, slice_get, Some, None, nat_eq, cond}
use Rattle.std.specs.declared.option.Option.{Option}
use Rattle.theory_addresses.specs.Address.{Step, Address}
use Rattle.listing_text.specs.declared.entry.Entry.{Entry}
use Rattle.list_verify.specs.declared.line_index.Buckets.{Buckets}
use Rattle.list_verify.specs.declared.line_index.LineIndex.{LineIndex}
use Rattle.tile_shape.specs.Views.{address_of}

-- it is below the prime
abbrev pub IsMultiplier : ℕ → Type 0
IsMultiplier n = n < 2305843009213693951

-- digits as one number below the prime 2^61 - 1: each step multiplies what came before, and adds a digit
abbrev pub digest_from : ℕ → ℕ → List Step → ℕ
digest_from multiplier digest [] = digest
digest_from multiplier digest (d ∷ ds) =
    digest_from multiplier ((digest * multiplier + (d.child * 256 + d.parent)) % 2305843009213693951) ds

-- the bucket of an address
abbrev pub bucket_of : Buckets → Address → ℕ
bucket_of buckets a = digest_from buckets.multiplier a.kind a.digits % buckets.count

-- the bucket of each line
abbrev pub buckets_of : Buckets → List Entry → List ℕ
buckets_of buckets lines = map (λ e. bucket_of buckets (address_of e.address)) lines

-- among the first n lines, by their buckets, the number of the last one in a bucket
abbrev pub last_in : List ℕ → ℕ → ℕ → Option ℕ
last_in places place zero = None
last_in places place (suc n) =
    cond (nat_eq (get_or places n (suc place)) place) (Some n) (last_in places place n)

-- The index has the last line of each bucket among the first n lines. For each of these lines it has the
-- previous one in its bucket.
pub record IsIndexOf (buckets : Buckets) (lines : List Entry) (n : ℕ)
    (last before : List (Option ℕ)) : Type 0 where
  pub some : 0 < buckets.count
  pub multiplier : IsMultiplier buckets.multiplier
  pub count : length last ≡ buckets.count
  pub many : length before ≡ n
  pub within : n ≤ length lines
  pub last_is : (place : ℕ) → place < buckets.count
      → slice_get last place ≡ Some (last_in (buckets_of buckets lines) place n)
  pub before_is : (i : ℕ) → i < n
      → slice_get before i ≡ Some
      (last_in (buckets_of buckets lines) (get_or (buckets_of buckets lines) i 0) i)

-- this holds for a value of the program
abbrev pub Indexes : LineIndex → List Entry → ℕ → Type 0
Indexes index lines n = IsIndexOf index.buckets lines n index.last.items index.before.items

-- line number i has this address
abbrev pub HasAddress : List Entry → ℕ → Address → Type 0
HasAddress lines i a = (e : Entry) × (slice_get lines i ≡ Some e) × (address_of e.address ≡ a)

-- no line before number n has the address of an earlier one
abbrev pub NoneAgain : List Entry → ℕ → Type 0
NoneAgain lines n = (i : ℕ) (e : Entry) → i < n → slice_get lines i ≡ Some e → (j : ℕ) → j < i
    → ¬ HasAddress lines j (address_of e.address)

-- line i has the address of an earlier one
pub record IsAgain (lines : List Entry) (i : ℕ) : Type 0 where
  pub line : Entry
  pub is_line : slice_get lines i ≡ Some line
  pub earlier : (j : ℕ) × (j < i) × HasAddress lines j (address_of line.address)
