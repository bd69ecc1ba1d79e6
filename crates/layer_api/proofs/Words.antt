-- Digits of an address as words of four bytes.
use Rattle.std.proofs.Common.{◌≡◌, ℕ, ◌+◌, ◌*◌, ◌<◌, ◌≤◌, ◌%◌, ◌/◌, List, [], ◌∷◌, ◌++◌, length, get_or, set, take, drop, map, bit_or, ◌-◌, length-append, length-take, length-drop, refl, ap, sym, ◌∙◌, arith, append_assoc}
use Rattle.std.specs.Int.{w32, to_le_bytes}
use Rattle.std.specs.List.{flat_map}
use Rattle.std.proofs.lemmas.Fmt.{decimal_digit}
use Rattle.std.proofs.lemmas.List.{append-nil, drop-append-le, take_more, take_all, drop_more, drop_at, drop-drop, drop-set, drop-set-add, set_at, length-take-le}
use Rattle.std.proofs.lemmas.List.Concat.{flat_map-append}
use Rattle.std.proofs.lemmas.Nat.{le_or_l, le_or_r, or_mod}
use Rattle.std.proofs.lemmas.Slice.{drop-put_mid}
use borrow.Rule.Slice.PartMut.{put_mid}
use Rattle.tile_shape.specs.Text.{digit_text, digits_text, comma}
use Rattle.tile_shape.specs.Views.{step_of}
use Rattle.tile_shape.specs.declared.step.Step.{Step}

-- a digit with numbers of one figure, and a comma
pub word_is : (s : Step) (n : ℕ) → n ≡ s.child + s.parent * 65536 → s.child < 10 → s.parent < 10
    → to_le_bytes w32 (n + 0x2c302f30) ≡ digit_text (step_of s) ++ comma ∷ []
word_is s n e small other =
    let first : (n + 0x2c302f30) % 256 ≡ 48 + s.child = omega arith in
    let second : (n + 0x2c302f30) / 256 % 256 ≡ 47 = omega arith in
    let third : (n + 0x2c302f30) / 65536 % 256 ≡ 48 + s.parent = omega arith in
    let fourth : (n + 0x2c302f30) / 16777216 % 256 ≡ 44 = omega arith in
    rw (first, second, third, fourth, decimal_digit s.child small, decimal_digit s.parent other) refl

-- digits, a comma behind each
abbrev pub in_words : List Step → List ℕ
in_words steps = flat_map (λ s. digit_text (step_of s) ++ comma ∷ []) steps

-- which are the digits with commas between, and one comma more
pub joined_words : (s : Step) (ss : List Step) → in_words (s ∷ ss) ≡ digits_text (map step_of (s ∷ ss)) ++ comma ∷ []
joined_words s [] = simp append_assoc
joined_words s (t ∷ ts) = rw (joined_words t ts) (simp append_assoc)

-- one digit more, where what was seen of all numbers says that they are short
pub one_more : (steps : List Step) (i seen raised : ℕ) (old new : List ℕ) (d : Step) → i < length steps
    → (raised % 65536 < 128 → (get_or steps i d).child < 10) → (raised < 8388608 → (get_or steps i d).parent < 10)
    → (seen < 8388608 → seen % 65536 < 128 → take (4 * i) old ≡ in_words (take i steps))
    → ((get_or steps i d).child < 10 → (get_or steps i d).parent < 10
    → take (4 * i + 4) new ≡ take (4 * i) old ++ digit_text (step_of (get_or steps i d)) ++ comma ∷ [])
    → bit_or seen raised < 8388608 → bit_or seen raised % 65536 < 128 → take (4 * (i + 1)) new ≡ in_words (take (i + 1) steps)
one_more steps i seen raised old new d inside is_short is_low before written below low =
    let before_is : seen ≤ bit_or seen raised = le_or_l seen raised in
    let this_is : raised ≤ bit_or seen raised = le_or_r seen raised in
    let parts : bit_or seen raised % 65536 ≡ bit_or (seen % 65536) (raised % 65536) = or_mod seen raised 16 in
    let before_part : seen % 65536 ≤ bit_or (seen % 65536) (raised % 65536) = le_or_l (seen % 65536) (raised % 65536) in
    let this_part : raised % 65536 ≤ bit_or (seen % 65536) (raised % 65536) = le_or_r (seen % 65536) (raised % 65536) in
    let so_far : take (4 * i) old ≡ in_words (take i steps) = before (omega arith) (omega arith) in
    let this : take (4 * i + 4) new ≡ take (4 * i) old ++ digit_text (step_of (get_or steps i d)) ++ comma
    ∷ [] = written (is_short (omega arith)) (is_low (omega arith)) in
    let place : 4 * (i + 1) ≡ 4 * i + 4 = omega arith in
    let f = λ (s : Step). digit_text (step_of s) ++ comma ∷ [] in
    rw (place, take_more steps i d inside, this, so_far)
    (append_assoc (in_words (take i steps)) (digit_text (step_of (get_or steps i d))) (comma ∷ [])
    ∙ ap (λ t. in_words (take i steps) ++ t) (sym (append-nil (f (get_or steps i d))))
    ∙ sym (flat_map-append f (take i steps) (get_or steps i d ∷ [])))

-- all digits
pub all_words : (steps : List Step) (i : ℕ) (out : List ℕ) → 0 < length steps → length steps ≤ i → length out ≡ 4 * length steps
    → take (4 * i) out ≡ in_words (take i steps) → out ≡ digits_text (map step_of steps) ++ comma ∷ []
all_words [] i out some end room e = absurd (omega (arith, some))
all_words (s ∷ ss) i out some end room e =
    sym (take_all (4 * i) out (omega arith)) ∙ e ∙ ap in_words (take_all i (s ∷ ss) end) ∙ joined_words s ss

-- the last comma stands where the text went on, and what stood there is put back
pub put_back : (start end : ℕ) (buf out digits : List ℕ) → out ≡ digits ++ comma ∷ [] → start + length out ≡ end + 1 → end < length buf
    → drop start (set (put_mid start (end + 1 - start) buf out) end (get_or buf end 0)) ≡ digits ++ drop end buf
put_back start end buf out digits e size inside =
    let long : length out ≡ length digits + 1 = ap length e ∙ length-append digits (comma ∷ []) in
    let place : end ≡ start + length digits = omega arith in
    let tail = drop (end + 1 - start) (drop start buf) in
    let rest : tail ≡ drop (end + 1) buf = drop-drop (end + 1 - start) start buf ∙ ap (λ n. drop n buf) (omega arith) in
    ap (λ n. drop start (set (take start buf ++ (out ++ tail)) n (get_or buf end 0))) place
    ∙ drop-set-add start (take start buf ++ (out ++ tail)) (length digits) (get_or buf end 0)
    ∙ ap (λ t. set t (length digits) (get_or buf end 0)) (drop_at (take start buf) (out ++ tail) start (length-take-le start buf (omega arith))
    ∙ ap (λ t. t ++ tail) e ∙ append_assoc digits (comma ∷ []) tail)
    ∙ set_at digits comma tail (get_or buf end 0) (length digits) refl
    ∙ ap (λ t. digits ++ get_or buf end 0 ∷ t) rest
    ∙ ap (λ t. digits ++ t) (sym (drop_more buf end 0 inside))

-- so that what follows is the same in any case
pub follows_as_before : (start end : ℕ) (buf out : List ℕ) → start + length out ≡ end + 1 → end < length buf
    → drop end (set (put_mid start (end + 1 - start) buf out) end (get_or buf end 0)) ≡ drop end buf
follows_as_before start end buf out size inside =
    let long : length (put_mid start (end + 1 - start) buf out) ≡ length buf = simp (length-append, length-take, length-drop) (omega arith) in
    drop-set (put_mid start (end + 1 - start) buf out) end (get_or buf end 0) (omega arith)
    ∙ ap (λ t. get_or buf end 0 ∷ t) (drop-put_mid start (end + 1 - start) buf out (end + 1) (omega arith) (omega arith) (omega arith))
    ∙ sym (drop_more buf end 0 inside)

-- the last bytes of a text of 32, before what follows
pub last_bytes : (start count : ℕ) (buf text out : List ℕ) → 32 ≤ start → start ≤ length buf → count ≤ 32 → length text ≡ 32 → out ≡ text
    → drop (start - count) (put_mid (start - 32) (start - (start - 32)) buf out) ≡ drop (32 - count) text ++ drop start buf
last_bytes start count buf text out room inside some size e =
    let place : start - count ≡ start - 32 + (32 - count) = omega arith in
    let tail = drop (start - (start - 32)) (drop (start - 32) buf) in
    let rest : tail ≡ drop start buf = drop-drop (start - (start - 32)) (start - 32) buf ∙ ap (λ n. drop n buf) (omega arith) in
    ap (λ n. drop n (take (start - 32) buf ++ (out ++ tail))) place
    ∙ sym (drop-drop (32 - count) (start - 32) (take (start - 32) buf ++ (out ++ tail)))
    ∙ ap (λ t. drop (32 - count) t) (drop_at (take (start - 32) buf) (out ++ tail) (start - 32)
    (length-take-le (start - 32) buf (omega arith)) ∙ ap (λ t. t ++ tail) e)
    ∙ drop-append-le (32 - count) text tail (omega arith)
    ∙ ap (λ t. drop (32 - count) text ++ t) rest
