-- Lists of lines: the one line of a tile, the greatest depth, and the first line that is so.
use Rattle.std.proofs.Common.{◌≡◌, inl, inr, ◌↔◌, ℕ, zero, suc, ◌≤◌, max, List, [], ◌∷◌, map, refl, sym, ap, ◌∙◌, subst, Option, Some, None, arith}
use Rattle.theory_addresses.specs.Search.{IsAmong}
use Rattle.theory_addresses.proofs.Lists.{IsAmong-map}
use Rattle.theory_windows.specs.Distinct.{AreDistinct}
use Rattle.theory_windows.proofs.Members.{among-map}
use Rattle.theory_listings.specs.Lines.{ListLine, named_tiles, deepest_line, IsLineAt, IsFirstLine}

pub same_some : {A : Type 0} (x y : A) → Some x ≡ Some y → x ≡ y
same_some {A} x y e = ap (λ o. inside o) e
  where
    inside : Option A → A
    inside None = x
    inside (Some z) = z

-- ---- lines by number
pub line-among : {L : Type 0} (lines : List L) (i : ℕ) (l : L) → IsLineAt lines i l → IsAmong l lines
line-among [] i l e = absurd (cc e)
line-among (k ∷ ks) zero l e = inl (sym (same_some k l e))
line-among (k ∷ ks) (suc i) l e = inr (line-among ks i l e)

-- of lines that name distinct tiles, one names a tile
pub one-line : {T M : Type 0} (lines : List (ListLine T M)) → AreDistinct (named_tiles lines)
    → (k l : ListLine T M) → IsAmong k lines → IsAmong l lines → k.tile ≡ l.tile → k ≡ l
one-line [] d k l i j e = elim i [ ]
one-line (x ∷ xs) d k l (inl f) (inl g) e = f ∙ sym g
one-line {T} (x ∷ xs) d k l (inl f) (inr j) e = absurd
    (d.0 (subst (λ (t : T). IsAmong t (named_tiles xs)) (sym e ∙ ap (λ q. q.tile) f)
    (IsAmong-map (λ q. q.tile) l xs j)))
one-line {T} (x ∷ xs) d k l (inr i) (inl g) e = absurd
    (d.0 (subst (λ (t : T). IsAmong t (named_tiles xs)) (e ∙ ap (λ q. q.tile) g)
    (IsAmong-map (λ q. q.tile) k xs i)))
one-line (x ∷ xs) d k l (inr i) (inr j) e = one-line xs d.1 k l i j e

-- a tile that is named is that of a line
pub tile-line : {T M : Type 0} (lines : List (ListLine T M)) (t : T) → IsAmong t (named_tiles lines)
    → (l : ListLine T M) × IsAmong l lines × (t ≡ l.tile)
tile-line lines t i = among-map (λ l. l.tile) t lines i

pub line-tile : {T M : Type 0} (lines : List (ListLine T M)) (l : ListLine T M) → IsAmong l lines → IsAmong l.tile (named_tiles lines)
line-tile lines l i = IsAmong-map (λ l. l.tile) l lines i

-- ---- the greatest depth
max-left : (a b c : ℕ) → c ≤ b → c ≤ max a b
max-left a b c h = omega arith

pub max-right : (a b : ℕ) → a ≤ max a b
max-right a b = omega arith

pub deepest-line : {T M : Type 0} (m : ℕ) (lines : List (ListLine T M)) (l : ListLine T M) → IsAmong l lines → l.digits ≤ deepest_line m lines
deepest-line m [] l i = elim i [ ]
deepest-line m (k ∷ ks) l (inl e) = subst (λ d. d ≤ deepest_line m (k ∷ ks)) (ap (λ q. q.digits) (sym e)) (max-right k.digits (deepest_line m ks))
deepest-line m (k ∷ ks) l (inr i) = max-left k.digits (deepest_line m ks) l.digits (deepest-line m ks l i)

-- ---- the first line that is so
pub first-same : {L : Type 0} (Q R : L → Type 0) (lines : List L) (i : ℕ)
    → ((l : L) → IsAmong l lines → Q l ↔ R l) → IsFirstLine Q lines i → IsFirstLine R lines i
first-same Q R lines i h f = record {
  line = f.line;
  is_line = f.is_line;
  so = (h f.line (line-among lines i f.line f.is_line)).0 f.so;
  first = λ j k below at r. absurd (f.first j k below at ((h k (line-among lines j k at)).1 r));
}

pub not-both : {Q R : Type 0} → Q ↔ R → (¬ Q) ↔ (¬ R)
not-both h = (λ n r. absurd (n (h.1 r)), λ n q. absurd (n (h.0 q)))

-- ---- lines that come from others
line-image : {K L : Type 0} (f : K → L) (xs : List K) (i : ℕ) (x : K) → IsLineAt xs i x → IsLineAt (map f xs) i (f x)
line-image f [] i x e = absurd (cc e)
line-image f (y ∷ ys) zero x e = ap (λ z. Some (f z)) (same_some y x e)
line-image f (y ∷ ys) (suc i) x e = line-image f ys i x e

line-source : {K L : Type 0} (f : K → L) (xs : List K) (i : ℕ) (l : L) → IsLineAt (map f xs) i l → (x : K) × IsLineAt xs i x × (f x ≡ l)
line-source f [] i l e = absurd (cc e)
line-source f (y ∷ ys) zero l e = (y, refl, same_some (f y) l e)
line-source f (y ∷ ys) (suc i) l e = line-source f ys i l e

pub first-image : {K L : Type 0} (Q : L → Type 0) (f : K → L) (xs : List K) (i : ℕ) → IsFirstLine (λ x. Q (f x)) xs i → IsFirstLine Q (map f xs) i
first-image Q f xs i h = record {
  line = f h.line;
  is_line = line-image f xs i h.line h.is_line;
  so = h.so;
  first = λ j k below at q. let s = line-source f xs j k at in absurd (h.first j s.0 below s.1 (subst Q (sym s.2) q));
}

pub first-source : {K L : Type 0} (Q : L → Type 0) (f : K → L) (xs : List K) (i : ℕ) → IsFirstLine Q (map f xs) i → IsFirstLine (λ x. Q (f x)) xs i
first-source Q f xs i h =
    let s = line-source f xs i h.line h.is_line in
    record {
      line = s.0;
      is_line = s.1;
      so = subst Q (sym s.2) h.so;
      first = λ j x below at q. absurd (h.first j (f x) below (line-image f xs j x at) q);
    }
