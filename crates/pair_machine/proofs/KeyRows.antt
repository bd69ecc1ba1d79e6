-- First edges alike, and keys that tell rows.
use Rattle.std.proofs.Common.{◌≡◌, inl, inr, ℕ, ◌+◌, ◌*◌, ◌/◌, ◌%◌, ◌<◌, List, get_or, refl, sym, ap, ◌∙◌, arith}
use Rattle.std.proofs.lemmas.Bool.{cases_lt}
use Rattle.std.proofs.lemmas.Nat.{div-mul-add, mod-mul-add, mul-add-lt}
use Rattle.std.proofs.lemmas.Option.{slice_get-get_or}
use Rattle.theory_addresses.specs.Coherent.{IsCoherent}
use Rattle.theory_addresses.specs.Tables.{Tables, parts_of}
use Rattle.pair_machine.specs.Alike.{IsFirstAlike, AreFirstAlike, row_key}
use Rattle.pair_machine.specs.Nodes.{Node, IsNode, row_of}
use Rattle.pair_machine.specs.Numbers.{width_of, mine_of, theirs_of}
use Rattle.pair_machine.proofs.Finding.{node_small}
use Rattle.pair_machine.proofs.Marks.{one_each}
use Rattle.pair_machine.proofs.RowKeys.{rows-parts, parts-rows}

-- ---- first edges alike
first_one : (t : Tables) (a b f g : ℕ) → IsFirstAlike t a f → IsFirstAlike t b g → parts_of t (a / 12) (a % 12) ≡ parts_of t (b / 12) (b % 12) → f ≡ g
first_one t a b f g h k same = elim (cases_lt f g) [
  | inl lt ↦ absurd (k.none_before f lt (h.same ∙ same))
  | inr ge ↦ elim (cases_lt g f) [
    | inl lt ↦ absurd (h.none_before g lt (k.same ∙ sym same))
    | inr le ↦ omega arith
  ]
]

one_first : (t : Tables) (a b f g : ℕ) → IsFirstAlike t a f → IsFirstAlike t b g → f ≡ g → parts_of t (a / 12) (a % 12) ≡ parts_of t (b / 12) (b % 12)
one_first t a b f g h k same = sym h.same ∙ ap (λ (n : ℕ). parts_of t (n / 12) (n % 12)) same ∙ k.same

at_number : (t : Tables) (k e : ℕ) → e < 12 → parts_of t ((k * 12 + e) / 12) ((k * 12 + e) % 12) ≡ parts_of t k e
at_number t k e h = rw (div-mul-add k 12 e h, mod-mul-add k 12 e h) refl

first_of : (t : Tables) (firsts : List ℕ) (number : ℕ) → AreFirstAlike t firsts → number < width_of t → IsFirstAlike t number (get_or firsts number 0)
first_of t firsts number h inside = h.each number (get_or firsts number 0) (slice_get-get_or firsts number 0 (omega (arith, h.size, inside)))

-- the first edges alike to a node's two edges
record Firsts (t : Tables) (firsts : List ℕ) (n : Node) : Type 0 where
  mine : IsFirstAlike t (mine_of n) (get_or firsts (mine_of n) 0)
  theirs : IsFirstAlike t (theirs_of n) (get_or firsts (theirs_of n) 0)
  mine_parts : parts_of t (mine_of n / 12) (mine_of n % 12) ≡ parts_of t n.kind n.edge
  theirs_parts : parts_of t (theirs_of n / 12) (theirs_of n % 12) ≡ parts_of t n.other n.back
  mine_within : get_or firsts (mine_of n) 0 < width_of t
  theirs_within : get_or firsts (theirs_of n) 0 < width_of t

firsts_of : (t : Tables) (firsts : List ℕ) (n : Node) → IsCoherent t → AreFirstAlike t firsts → IsNode t n → Firsts t firsts n
firsts_of t firsts n coherent are node =
    let small = node_small t n coherent node in
    let mine = first_of t firsts (mine_of n) are small.mine in
    let theirs = first_of t firsts (theirs_of n) are small.theirs in
    record {
      mine = mine;
      theirs = theirs;
      mine_parts = at_number t n.kind n.edge small.edge;
      theirs_parts = at_number t n.other n.back small.back;
      mine_within = omega (arith, mine.within, small.mine);
      theirs_within = omega (arith, theirs.within, small.theirs);
    }

-- ---- keys tell rows
pub key_within : (t : Tables) (firsts : List ℕ) (n : Node) → IsCoherent t → AreFirstAlike t firsts
    → IsNode t n → row_key (width_of t) firsts n < width_of t * width_of t
key_within t firsts n coherent are node =
    let f = firsts_of t firsts n coherent are node in
    mul-add-lt (get_or firsts (mine_of n) 0) (width_of t) (get_or firsts (theirs_of n) 0) (width_of t) f.mine_within f.theirs_within

pub key-row : (t : Tables) (firsts : List ℕ) (m n : Node) → IsCoherent t → AreFirstAlike t firsts → IsNode t m
    → IsNode t n → row_key (width_of t) firsts m ≡ row_key (width_of t) firsts n → row_of t m ≡ row_of t n
key-row t firsts m n coherent are node node' same =
    let f = firsts_of t firsts m coherent are node in
    let g = firsts_of t firsts n coherent are node' in
    let both = one_each (width_of t) (get_or firsts (mine_of m) 0) (get_or firsts (theirs_of m) 0)
    (get_or firsts (mine_of n) 0) (get_or firsts (theirs_of n) 0) f.theirs_within g.theirs_within same in
    parts-rows t m n (record {
      mine = sym f.mine_parts ∙ one_first t (mine_of m) (mine_of n) (get_or firsts (mine_of m) 0)
          (get_or firsts (mine_of n) 0) f.mine g.mine both.0 ∙ g.mine_parts;
      theirs = sym f.theirs_parts ∙ one_first t (theirs_of m) (theirs_of n) (get_or firsts (theirs_of m) 0)
          (get_or firsts (theirs_of n) 0) f.theirs g.theirs both.1 ∙ g.theirs_parts;
    })

pub row-key : (t : Tables) (firsts : List ℕ) (m n : Node) → IsCoherent t → AreFirstAlike t firsts → IsNode t m
    → IsNode t n → row_of t m ≡ row_of t n → row_key (width_of t) firsts m ≡ row_key (width_of t) firsts n
row-key t firsts m n coherent are node node' same =
    let f = firsts_of t firsts m coherent are node in
    let g = firsts_of t firsts n coherent are node' in
    let parts = rows-parts t m n coherent node node' same in
    let mine = first_one t (mine_of m) (mine_of n) (get_or firsts (mine_of m) 0) (get_or firsts (mine_of n) 0)
    f.mine g.mine (f.mine_parts ∙ parts.mine ∙ sym g.mine_parts) in
    let theirs = first_one t (theirs_of m) (theirs_of n) (get_or firsts (theirs_of m) 0)
    (get_or firsts (theirs_of n) 0) f.theirs g.theirs
    (f.theirs_parts ∙ parts.theirs ∙ sym g.theirs_parts) in
    λ i. mine i * width_of t + theirs i
