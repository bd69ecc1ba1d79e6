-- Edges that meet the window, crossed whether open or not.
use Rattle.std.proofs.Common.{◌≡◌, ◌⊎◌, inl, inr, List, [], ◌∷◌, flat_map, refl, sym, ap, ◌∙◌, subst, Bool, true, false, cond, not, ◌&&◌}
use Rattle.std.specs.List.{filter, AllByRecursion}
use Rattle.theory_ring.specs.Ring.{Laws}
use Rattle.theory_ring.specs.Sign.{Signed, OrderLaws}
use Rattle.theory_ring.specs.Divisor.{DividesWhole}
use Rattle.theory_plane.specs.BoxTest.{box_test}
use Rattle.theory_plane.proofs.BoxMeets.{box_test-meets, meets-box_test}
use Rattle.theory_addresses.specs.Search.{IsAmong}
use Rattle.theory_windows.specs.Outlines.{PlaneEdge, edges, MeetsBox, is_reverse}
use Rattle.theory_windows.specs.Patch.{Patch, IsDissected, HasAcross, IsClosed}
use Rattle.theory_windows.specs.GrowingPatch.{GrowingPatch}
use Rattle.theory_windows.specs.OpenEdges.{NumberedEdge, numbered_from}
use Rattle.theory_windows.specs.OpenTest.{is_met, is_open}
use Rattle.theory_windows.specs.SearchState.{SearchState, outlines, IsRightState}
use Rattle.theory_windows.specs.PatchWindow.{PatchWindow}
use Rattle.theory_windows.specs.EveryEdge.{FoundOrOpen, NoneOpen}
use Rattle.theory_addresses.proofs.Lists.{IsAmong-map, AllByRecursion-among}
use Rattle.theory_windows.proofs.Members.{among-map, comes-from, ComesFrom, goes-to}
use Rattle.theory_windows.proofs.Reverses.{reverse-is}
use Rattle.theory_addresses.proofs.Filters.{IsAmong-kept}
use Rattle.theory_windows.proofs.OpenEdges.{any-among, some-any, of-polygon, number-of-edge}
use Rattle.theory_windows.proofs.OpenFacts.{of_patch}

-- of a list in which each fails, none is left
none-left : {A : Type 0} (p : A → Bool) (xs : List A) → ((x : A) → IsAmong x xs → p x ≡ false) → filter p xs ≡ []
none-left p [] h = refl
none-left p (x ∷ xs) h = ap (λ b. cond b (x ∷ filter p xs) (filter p xs)) (h x (inl refl)) ∙ none-left p xs (λ y i. h y (inr i))

module _ (S : Signed) (L : Laws S.ops) (O : OrderLaws S) (whole : DividesWhole S) where
  module _ {T : Type 0} (G : PatchWindow S T) where
    abbrev F : GrowingPatch S T
    F = G.growing

    abbrev P : Patch S T
    P = G.growing.patch

    abbrev D : IsDissected S T P
    D = G.dissected

    module _ (s : SearchState S T) (right : IsRightState S T F G.box s) where
      abbrev lines : List (PlaneEdge S)
      lines = flat_map edges (outlines S T F s.found)

      -- ---- an edge that meets the window, crossed whether open or not
      module _ (t : T) (i : IsAmong t s.found) (e : PlaneEdge S) (j : IsAmong e (edges (P.outline t))) (m : MeetsBox S G.box e) where
        found-or-open : (u : T) → IsAmong u P.tiles → (f : PlaneEdge S) → IsAmong f (edges (P.outline u)) → is_reverse S e f ≡ true
            → IsAmong u s.found ⊎ ((o : NumberedEdge S) × IsAmong o s.open_edges × (o.line ≡ e))
        found-or-open u k f l back = at_test (is_met S lines e) refl
          where
            open-number : is_met S lines e ≡ false → (o : NumberedEdge S) × IsAmong o s.open_edges × (o.line ≡ e)
            open-number h =
                let n = number-of-edge S 0 (outlines S T F s.found) (P.outline t) e (IsAmong-map P.outline t s.found i) j in
                let shut : is_open S G.box lines e ≡ true = both_hold (box_test S e.from e.to G.box)
                (is_met S lines e) (meets-box_test S L O e.from e.to G.box m) h in
                let among = IsAmong-kept (λ (n : NumberedEdge S). is_open S G.box lines n.line) n.0
                (numbered_from S 0 (outlines S T F s.found)) n.1
                (ap (is_open S G.box lines) n.2 ∙ shut) in
                (n.0, subst (IsAmong n.0) (sym right.open_is) among, n.2)
              where
                both_hold : (b c : Bool) → b ≡ true → c ≡ false → b && not c ≡ true
                both_hold true false g h = refl
                both_hold true true g h = absurd (cc h)
                both_hold false c g h = absurd (cc g)

            at_test : (b : Bool) → is_met S lines e ≡ b → IsAmong u s.found ⊎ ((o : NumberedEdge S) × IsAmong o s.open_edges × (o.line ≡ e))
            at_test false h = inr (open-number h)
            at_test true h =
                let g = some-any (is_reverse S e) lines h in
                let c : ComesFrom P.outline edges g.0 s.found = comes-from P.outline edges g.0 s.found g.1 in
                let same : g.0 ≡ f = reverse-is S L O e g.0 g.2 ∙ sym (reverse-is S L O e f back) in
                inl (subst (λ v. IsAmong v s.found) (D.one_owner c.source u
                (of_patch S L O whole G s right c.source c.among) k f
                (subst (λ h. IsAmong h (edges (P.outline c.source))) same c.of_source) l) c.among)

      none-open : IsClosed S T P G.box s.found → s.open_edges ≡ []
      none-open C = right.open_is ∙ none-left (λ (n : NumberedEdge S). is_open S G.box lines n.line)
          (numbered_from S 0 (outlines S T F s.found)) (λ n i. shut n i)
        where
          met_not_open : (b c : Bool) → (b ≡ true → c ≡ true) → b && not c ≡ false
          met_not_open true true h = refl
          met_not_open true false h = absurd (cc (h refl))
          met_not_open false c h = refl

          shut : (n : NumberedEdge S) → IsAmong n (numbered_from S 0 (outlines S T F s.found)) → is_open S G.box lines n.line ≡ false
          shut n i =
              let p = of-polygon S 0 (outlines S T F s.found) n i in
              let t = among-map P.outline p.0 s.found p.1 in
              let e : IsAmong n.line (edges (P.outline t.0)) = subst (λ q. IsAmong n.line (edges q)) t.2 p.2 in
              met_not_open (box_test S n.line.from n.line.to G.box) (is_met S lines n.line) (λ b.
              let a : HasAcross S T P s.found n.line = AllByRecursion-among
              (λ e. MeetsBox S G.box e → HasAcross S T P s.found e) n.line (edges (P.outline t.0)) e
              (AllByRecursion-among (λ t. AllByRecursion (λ e. MeetsBox S G.box e → HasAcross S T P s.found e)
              (edges (P.outline t))) t.0 s.found t.1 C.closed)
              (box_test-meets S L O whole n.line.from n.line.to G.box b) in
              any-among (is_reverse S n.line) a.1 lines (goes-to P.outline edges a.1 a.0 s.found a.2 a.3) a.4)

  pub found_or_open : {T : Type 0} → FoundOrOpen S T
  found_or_open G s right t i e j m u k f l back = found-or-open G s right t i e j m u k f l back

  pub none_open : {T : Type 0} → NoneOpen S T
  none_open G s right C = none-open G s right C
