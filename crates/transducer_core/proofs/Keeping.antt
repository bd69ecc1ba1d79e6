-- Blocks that are kept in a row, and where each ends.
use Rattle.std.proofs.Common.{◌≡◌, inl, inr, ℕ, zero, suc, ◌+◌, ◌-◌, ◌<◌, ◌≤◌, get_or, List, [], ◌∷◌, ◌++◌, length, take, drop, Some, refl, sym, ap, ◌∙◌, arith, length-append}
use Rattle.std.specs.List.{slice_get, concat}
use Rattle.std.proofs.lemmas.Option.{slice_get-get_or}
use Rattle.std.proofs.Math.Seq.{take-append_seam}
use Rattle.theory_addresses.specs.Search.{IsAmong}
use Rattle.theory_addresses.proofs.Ranges.{among-append, place-among}
use Rattle.transducer_core.specs.Merged.{BlockStands}
use Rattle.transducer_core.specs.Merging.{block_ends, AreBlocksKept, StandsLast, IsBlockPlaced}
use Rattle.transducer_core.proofs.Once.{once_known, once_fresh}
use Rattle.transducer_core.proofs.Standing.{concat-append, append-none, take_at, stands_at, room_at, Stands-more, block_read}

pub ends_length : (from : ℕ) (kept : List (List ℕ)) → length (block_ends from kept) ≡ length kept
ends_length from [] = refl
ends_length from (b ∷ bs) = ap suc (ends_length (from + length b) bs)

ends_push : (from : ℕ) (kept : List (List ℕ)) (b : List ℕ) → block_ends from (kept ++ b ∷ []) ≡ block_ends from kept
    ++ (from + length (concat kept) + length b) ∷ []
ends_push from [] b = let e : from + length b ≡ from + 0 + length b = omega arith in ap (λ (n : ℕ). n ∷ []) e
ends_push from (x ∷ xs) b =
    let e : from + length x + length (concat xs) + length b ≡ from + length (x ++ concat xs) + length b
    = omega (arith, length-append x (concat xs)) in
    ap (λ (l : List ℕ). (from + length x) ∷ l) (ends_push (from + length x) xs b ∙ ap (λ (n : ℕ). block_ends (from + length x) xs ++ n ∷ []) e)

pub record EndsAt (from : ℕ) (kept : List (List ℕ)) (i e : ℕ) : Type 0 where
  pub block : List ℕ
  pub at : slice_get kept i ≡ Some block
  pub is : e ≡ from + length (concat (take i kept)) + length block

pub ends_at : (from : ℕ) (kept : List (List ℕ)) (i e : ℕ) → slice_get (block_ends from kept) i ≡ Some e → EndsAt from kept i e
ends_at from [] i e h = absurd cc
ends_at from (b ∷ bs) zero e h = let same : from + length b ≡ e = cc in record { block = b; at = refl; is = omega (arith, same) }
ends_at from (b ∷ bs) (suc i) e h =
    let r = ends_at (from + length b) bs i e h in
    record { block = r.block; at = r.at; is = omega (arith, r.is, length-append b (concat (take i bs))) }

pub read_index : (xs : List ℕ) (i n : ℕ) → i < length xs → n ≡ get_or xs i 0 → slice_get xs i ≡ Some n
read_index xs i n inside is = slice_get-get_or xs i 0 inside ∙ ap Some (sym is)

-- ---- the search for an equal block
-- before this place it is not
pub record IsPast (kept : List (List ℕ)) (block : List ℕ) (begin i : ℕ) : Type 0 where
  pub begin_is : begin ≡ length (concat (take i kept))
  pub fresh : IsAmong block (take i kept) → ⊥

-- an earlier block and the last, as they are read
pub record Look (kept : List (List ℕ)) (block words : List ℕ) (begin last i e : ℕ) : Type 0 where
  pub earlier : List ℕ
  pub at : slice_get kept i ≡ Some earlier
  pub end_is : e ≡ begin + length earlier
  pub end_in : e ≤ last
  pub last_in : last ≤ length words
  pub reads : take (e - begin) (drop begin words) ≡ earlier
  pub last_reads : take (length words - last) (drop last words) ≡ block

pub last_stands : (kept : List (List ℕ)) (block words ends : List ℕ) (last : ℕ) → StandsLast kept block words ends last → BlockStands words last block
last_stands kept block words ends last h = record {
  front = concat kept;
  rest = [];
  words_are = h.words_are
      ∙ ap (λ (l : List ℕ). concat kept ++ l) (sym (append-none block));
  start_is = h.last_is;
}

pub look : (kept : List (List ℕ)) (block words ends : List ℕ) (begin last i e : ℕ)
    → StandsLast kept block words ends last → IsPast kept block begin i → slice_get ends i ≡ Some e
    → Look kept block words begin last i e
look kept block words ends begin last i e h past at =
    let r = ends_at 0 kept i e (ap (λ (l : List ℕ). slice_get l i) (sym h.ends_are) ∙ at) in
    let room = room_at kept i r.block r.at in
    let there : BlockStands words begin r.block = rw (h.words_are, past.begin_is)
    (Stands-more (concat kept) block (length (concat (take i kept))) r.block
    (stands_at kept i r.block r.at)) in
    let size : length words ≡ length (concat kept) + length block = ap (λ (l : List ℕ). length l) h.words_are ∙ length-append (concat kept) block in
    record {
      earlier = r.block;
      at = r.at;
      end_is = omega (arith, r.is, past.begin_is);
      end_in = omega (arith, r.is, h.last_is, room);
      last_in = omega (arith, size, h.last_is);
      reads = block_read words begin (e - begin) r.block there (omega (arith, r.is, past.begin_is));
      last_reads = block_read words last (length words - last) block (last_stands kept block words ends last h) (omega (arith, size, h.last_is));
    }

pub found : (kept : List (List ℕ)) (block words : List ℕ) (begin last i e : ℕ) → IsPast kept block begin i
    → Look kept block words begin last i e → take (e - begin) (drop begin words) ≡ take (length words - last)
    (drop last words)
    → BlockStands (concat kept) begin block × IsAmong block kept
found kept block words begin last i e past l equal =
    let same : l.earlier ≡ block = sym l.reads ∙ equal ∙ l.last_reads in
    let at : slice_get kept i ≡ Some block = l.at ∙ ap Some same in
    (rw past.begin_is (stands_at kept i block at), place-among block kept i at)

pub past_more : (kept : List (List ℕ)) (block words : List ℕ) (begin last i e : ℕ) → IsPast kept block begin i → Look kept block words begin last i e
    → (take (e - begin) (drop begin words) ≡ take (length words - last) (drop last words) → ⊥) → IsPast kept block e (i + 1)
past_more kept block words begin last i e past l other =
    let more = take_at kept i l.earlier l.at in
    let joined : concat (take (i + 1) kept) ≡ concat (take i kept) ++ l.earlier = ap concat more
    ∙ concat-append (take i kept) (l.earlier ∷ [])
    ∙ ap (λ (w : List ℕ). concat (take i kept) ++ w) (append-none l.earlier) in
    record {
      begin_is = omega (arith, ap (λ (w : List ℕ). length w) joined, length-append (concat (take i kept)) l.earlier, past.begin_is, l.end_is);
      fresh = λ a.
          let b : IsAmong block (take i kept ++ l.earlier ∷ []) = rw more at a in
          elim (among-append block (take i kept) (l.earlier ∷ []) b) [
            | inl j ↦ past.fresh j
            | inr j ↦ elim j [ inl same ↦ other (l.reads ∙ sym same ∙ sym l.last_reads) | inr k ↦ elim k [ ] ]
          ];
    }

-- ---- one more
pub kept_more : (kept : List (List ℕ)) (block words ends longer ends' : List ℕ) (n : ℕ)
    → AreBlocksKept kept words ends → longer ≡ words ++ block → n ≡ length longer → ends' ≡ ends ++ n ∷ []
    → AreBlocksKept (kept ++ block ∷ []) longer ends'
kept_more kept block words ends longer ends' n h longer_is n_is ends_is =
    let here : longer ≡ concat kept ++ block = longer_is ∙ ap (λ (w : List ℕ). w ++ block) h.words_are in
    let size : n ≡ 0 + length (concat kept) + length block = omega
    (arith, n_is, ap (λ (l : List ℕ). length l) here, length-append (concat kept) block) in
    record {
      words_are = here ∙ ap (λ (w : List ℕ). concat kept ++ w) (sym (append-none block)) ∙ sym (concat-append kept (block ∷ []));
      ends_are = ends_is ∙ ap (λ (l : List ℕ). l ++ n ∷ []) h.ends_are ∙ ap (λ (m : ℕ). block_ends 0 kept ++ m ∷ []) size
          ∙ sym (ends_push 0 kept block);
    }

-- ---- the last block, kept or not
pub kept_known : (kept : List (List ℕ)) (block words ends cut : List ℕ) (last start : ℕ)
    → StandsLast kept block words ends last → cut ≡ take last words → BlockStands (concat kept) start block
    → IsAmong block kept → IsBlockPlaced kept block cut ends start
kept_known kept block words ends cut last start h cut_is stands among =
    let front : cut ≡ concat kept = cut_is ∙ ap (take last) h.words_are
    ∙ ap (λ (n : ℕ). take n (concat kept ++ block)) h.last_is ∙ take-append_seam (concat kept) block in
    let none = append-none kept in
    record {
      more = [];
      kept_are = record { words_are = front ∙ ap concat (sym none); ends_are = h.ends_are ∙ ap (block_ends 0) (sym none) };
      stands = rw front stands;
      few = omega arith;
      short = omega arith;
      once = λ all once. rw none (once_known block all kept once among);
    }

pub kept_fresh : (kept : List (List ℕ)) (block words ends longer : List ℕ) (last : ℕ)
    → StandsLast kept block words ends last → longer ≡ ends ++ length words ∷ [] → (IsAmong block kept → ⊥)
    → IsBlockPlaced kept block words longer last
kept_fresh kept block words ends longer last h longer_is fresh =
    let none = append-none block in
    record {
      more = block ∷ [];
      kept_are = kept_more kept block (concat kept) ends words longer (length words)
          (record { words_are = refl; ends_are = h.ends_are }) h.words_are refl longer_is;
      stands = last_stands kept block words ends last h;
      few = omega arith;
      short = omega (arith, ap (λ (w : List ℕ). length w) none);
      once = λ all once. once_fresh block all kept once fresh;
    }
