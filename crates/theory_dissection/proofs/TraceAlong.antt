-- An edge with a trace to the top lies along that edge of the supertile, on the part that the trace names first.
use Rattle.std.proofs.Common.{◌≡◌, ℕ, suc, ◌+◌, ◌<◌, ◌≤◌, List, [], ◌∷◌, ◌++◌, length, pos, Some, refl, sym, ap, ap₂, ◌∙◌, subst, arith, length-append}
use Rattle.std.specs.declared.cmp.Ordering.TheVariants.{Greater}
use Rattle.theory_ring.specs.Ring.{Ops, power}
use Rattle.theory_plane.specs.Plane.{orientation}
use Rattle.theory_ring.proofs.Normaliser.{var, con, ring, ◌⊕◌, ◌⊗◌}
use Rattle.theory_plane.proofs.OnSegment.{on_segment-between}
use Rattle.theory_substitution.specs.Plane.{plane_point, Keeps}
use Rattle.theory_substitution.specs.Motion.{Motion, moved, still}
use Rattle.theory_addresses.specs.Address.{Step, Address, top_from, top_kind, depth, Fits}
use Rattle.theory_substitution.specs.RuleParts.{edge_count, vertices_of, vertex, next, child_of}
use Rattle.theory_edge_to_edge.specs.Edges.{Edge, inflated_edge, child_edge}
use Rattle.theory_substitution.specs.Supertile.{inflated}
use Rattle.theory_substitution.specs.Placement.{placement}
use Rattle.theory_addresses.specs.Contact.{outer}
use Rattle.theory_edge_to_edge.specs.Contacts.{tables_of}
use Rattle.theory_addresses.specs.Tables.{Tables, child_kinds, child_kind_of, contact_of}
use Rattle.theory_addresses.specs.Trace.{Cut, IsTrace, bare, further, HasTrace, first_part}
use Rattle.theory_substitution.proofs.Motions.{moved-followed}
use Rattle.theory_substitution.proofs.Keeping.{motion-keeps}
use Rattle.theory_substitution.proofs.Placement.{placement-append}
use Rattle.theory_substitution.proofs.Addresses.{top_from-append}
use Rattle.theory_addresses.proofs.Chains.{IsChain, chain_of}
use Rattle.theory_edge_to_edge.proofs.TablesOf.{child_kind_of-found}
use Rattle.theory_edge_to_edge.proofs.ChildEdges.{kind-with_edge}
use Rattle.theory_dissection.specs.TileEdges.{edge_of, inflated_line, supertile_edge, image_of, tile_at}
use Rattle.theory_dissection.specs.OnBoundary.{LiesOnPart, IsOnBoundary}
use Rattle.theory_dissection.proofs.Setting.{Setting, contacts-coherent, inflating-keeps, part-from}
use Rattle.theory_dissection.proofs.Around.{orientation-none}
use Rattle.theory_dissection.proofs.StarEdges.{next_of, spot_of, left_of_edge}
use Rattle.theory_dissection.proofs.Injective.{Along, along_from, Along-image, between-start, between-end}
use Rattle.theory_dissection.proofs.AlongAlong.{Along-trans}
use Rattle.theory_dissection.proofs.MirroredCuts.{part_facts}
use Rattle.theory_dissection.proofs.Opposite.{tile_edge}
use Rattle.theory_dissection.proofs.RuleAddresses.{tile-among}
use Rattle.theory_dissection.proofs.MovedStar.{star_of}

-- a chain with one coarse digit more
pub IsChain-append : (t : Tables) (k : ℕ) (ds : List Step) (d : Step) → IsChain t k (ds ++ d ∷ [])
    → (child_kind_of t d.parent d.child ≡ Some (top_from k ds)) × (d.parent < length t.kinds)
IsChain-append t k [] d h = (h.0, h.1)
IsChain-append t k (e ∷ ds) d h = IsChain-append t e.parent ds d h.1

pub IsChain-fine : (t : Tables) (k : ℕ) (ds : List Step) (d : Step)
    → ((k c kind : ℕ) → child_kind_of t k c ≡ Some kind → kind < length t.kinds) → IsChain t k (ds ++ d ∷ [])
    → IsChain t k ds
IsChain-fine t k [] d exists h = exists d.parent d.child k h.0
IsChain-fine t k (e ∷ ds) d exists h = (h.0, IsChain-fine t e.parent ds d exists h.1)

module _ (T : Setting) where
  open T use {points as P, laws as W, accepted.{rule as r, numbered as N, edge_to_edge as D}}

  abbrev A : Type 0
  A = P.ring.carrier

  abbrev K : Ops
  K = P.ring

  abbrev λs : ℕ → A → A
  λs n = K.mul (power K r.factor n)

  -- by λ^n and then by a child's inflated motion is by the child's motion and then by λ^n
  pub inflated-moves : (n : ℕ) (m : Motion A) (z : A)
      → moved P (inflated P r n m) (K.mul (power K r.factor n) z) ≡ K.mul (power K r.factor n) (moved P m z)
  inflated-moves n m z =
      ring K W.of_ring (power K P.zeta m.turn ∷ (power K r.factor n ∷ (z ∷ (m.shift ∷ []))))
      (var 0 ⊗ (var 1 ⊗ var 2) ⊕ var 1 ⊗ var 3) (var 1 ⊗ (var 0 ⊗ var 2 ⊕ var 3)) refl

  -- ---- a prototile's edge along itself
  vertices_are : (k : ℕ) → k < length r.kinds → (vs : List A) → vs ≡ vertices_of r k → length vs ≡ edge_count r k
  vertices_are k h vs e = ap (λ l. length l) e ∙ N.vertex_each k h

  pub ends_apart : (k e : ℕ) → k < length r.kinds → e < edge_count r k → vertex P r k e ≡ vertex P r k (next r k e) → ⊥
  ends_apart k e hk he same =
      let size : length (vertices_of r k) ≡ edge_count r k = N.vertex_each k hk in
      let three : 3 ≤ length (vertices_of r k) = omega (arith, size, N.at_least_3_edges k hk) in
      let keeps : Keeps P (λ z. z) = record { turns = λ a b c. refl; segments = λ a b c. refl; equal_lengths = λ a b c d. refl } in
      let z = left_of_edge (star_of T (λ u. u) keeps k hk) e (spot_of (length (vertices_of r k)) e (omega (arith, size, he))) in
      let is : next_of (length (vertices_of r k)) e ≡ next r k e = ap (λ n. next_of n e) size in
      let left : P.real.sign (orientation P.real.ops (plane_point P (vertex P r k e)) (plane_point P (vertex P r k (next r k e))) z.0) ≡ Greater
      = ap (λ j. P.real.sign (orientation P.real.ops (plane_point P (vertex P r k e)) (plane_point P (vertex P r k j)) z.0)) (sym is) ∙ z.1 in
      let flat = ap (λ v. P.real.sign (orientation P.real.ops (plane_point P (vertex P r k e)) (plane_point P v) z.0)) same in
      cc (sym left ∙ sym flat ∙ orientation-none P.real W.of_real W.of_order (plane_point P (vertex P r k e)) z.0)

  pub along-itself : (e : Edge A) → (e.from ≡ e.to → ⊥) → Along P W e e
  along-itself e apart = record {
    ends_differ = apart;
    end_on = on_segment-between P.real W.of_real W.of_order _ _ _
        (between-end P.real W.of_real W.of_order (plane_point P e.from) (plane_point P e.to));
    start_on = on_segment-between P.real W.of_real W.of_order _ _ _
        (between-start P.real W.of_real W.of_order (plane_point P e.from) (plane_point P e.to));
  }

  pub still-moves : (z : A) → moved P (still P) z ≡ K.mul (K.int (pos 1)) z
  still-moves z = ring K W.of_ring (z ∷ []) (con (pos 1) ⊗ var 0 ⊕ con (pos 0)) (con (pos 1) ⊗ var 0) refl

  one-moves : (z : A) → moved P (still P) z ≡ z
  one-moves z = ring K W.of_ring (z ∷ []) (con (pos 1) ⊗ var 0 ⊕ con (pos 0)) (var 0) refl

  -- ---- what is shown, of digits
  pub record OnTop (k e : ℕ) (ds : List Step) (top part : ℕ) : Type 0 where
    pub edge_exists : top < edge_count r (top_from k ds)
    pub along : Along P W (supertile_edge P r (top_from k ds) (length ds) top) (tile_edge T k ds e)
    pub on_part : LiesOnPart P r (top_from k ds) (length ds) top part (tile_edge T k ds e)

  on_top-bare : (k e : ℕ) → k < length r.kinds → e < edge_count r k → OnTop k e [] e 0
  on_top-bare k e hk he = record {
    edge_exists = he;
    along =
        subst (λ (x : Edge A). Along P W (supertile_edge P r k 0 e) x)
        (ap₂ (λ u v. record { from = u; to = v }) (sym (still-moves (vertex P r k e)))
        (sym (still-moves (vertex P r k (next r k e)))))
        (along-itself (supertile_edge P r k 0 e)
        (λ same. ends_apart k e hk he (sym (unit (vertex P r k e)) ∙ same
        ∙ unit (vertex P r k (next r k e)))));
    on_part = refl;
  }
    where
      unit : (z : A) → K.mul (K.int (pos 1)) z ≡ z
      unit z = ring K W.of_ring (z ∷ []) (con (pos 1) ⊗ var 0) (var 0) refl

  -- a coarse digit more moves a tile as the child is moved
  pub coarser : (fine : List Step) (d : Step) (z : A)
      → moved P (placement P r (fine ++ d ∷ [])) z ≡ moved P
      (inflated P r (length fine) (child_of P r d.parent d.child).motion) (moved P (placement P r fine) z)
  coarser fine d z =
      ap (λ (m : Motion A). moved P m z) (placement-append P W r fine d)
      ∙ moved-followed P W (placement P r fine) (inflated P r (length fine) (child_of P r d.parent d.child).motion) z

  pub one_more : (n : ℕ) (z : A) → K.mul (power K r.factor n) (K.mul z r.factor) ≡ K.mul (power K r.factor (suc n)) z
  one_more n z = ring K W.of_ring (power K r.factor n ∷ (r.factor ∷ (z ∷ []))) (var 0 ⊗ (var 2 ⊗ var 1)) ((var 1 ⊗ var 0) ⊗ var 2) refl

  -- one coarse digit more
  on_top-further : (k e own f p part : ℕ) (fine : List Step) (d : Step) → child_kind_of (tables_of P r) d.parent d.child ≡ Some (top_from k fine)
      → contact_of (tables_of P r) d.parent d.child own ≡ Some (outer f p) → OnTop k e fine own part → OnTop k e (fine ++ d ∷ []) f p
  on_top-further k e own f p part fine d fits is h =
      let n = length fine in
      let c = child_of P r d.parent d.child in
      let G = moved P (inflated P r n c.motion) in
      let x = part-from T d.parent d.child own f p is in
      let facts = part_facts T d.parent f p (child_edge P r d.parent d.child own) (kind-with_edge P r d.parent f x.edge_below) x.edge_below x.at in
      let kind : top_from k fine ≡ c.kind = (child_kind_of-found P r d.parent d.child (top_from k fine) fits).1 in
      let line : Edge A = (child_edge P r d.parent d.child own).line in
      -- the tile's edge, moved as the child is
      let tile : tile_edge T k (fine ++ d ∷ []) e ≡ image_of P G (tile_edge T k fine e)
      = ap₂ (λ u v. record { from = u; to = v }) (coarser fine d (vertex P r k e)) (coarser fine d (vertex P r k (next r k e))) in
      let child : image_of P G (supertile_edge P r (top_from k fine) n own) ≡ inflated_line P r n line
      = ap (λ (j : ℕ). image_of P G (supertile_edge P r j n own)) kind
      ∙ ap₂ (λ u v. record { from = u; to = v }) (inflated-moves n c.motion (vertex P r c.kind own))
      (inflated-moves n c.motion (vertex P r c.kind (next r c.kind own))) in
      let on_line : Along P W (inflated_line P r n line) (tile_edge T k (fine ++ d ∷ []) e)
      = subst (λ (w : Edge A). Along P W w (tile_edge T k (fine ++ d ∷ []) e)) child
      (subst (λ (w : Edge A). Along P W (image_of P G (supertile_edge P r (top_from k fine) n own)) w) (sym tile)
      (Along-image P W G (motion-keeps P W (inflated P r n c.motion)) (supertile_edge P r (top_from k fine) n own) (tile_edge T k fine e) h.along)) in
      let whole : inflated_line P r n (inflated_edge P r d.parent f) ≡ supertile_edge P r d.parent (suc n) f
      = ap₂ (λ u v. record { from = u; to = v }) (one_more n (vertex P r d.parent f)) (one_more n (vertex P r d.parent (next r d.parent f))) in
      let on_whole : Along P W (supertile_edge P r d.parent (suc n) f) (inflated_line P r n line)
      = subst (λ (w : Edge A). Along P W w (inflated_line P r n line)) whole
      (Along-image P W (λs n) (inflating-keeps T n) (inflated_edge P r d.parent f) line facts.along) in
      let size : suc n ≡ length (fine ++ d ∷ []) = sym (length-append fine (d ∷ []) ∙ plus_one n) in
      let all = at_depth (sym (top_from-append k fine d)) size x.edge_below
      (Along-trans P W (supertile_edge P r d.parent (suc n) f) (inflated_line P r n line)
      (tile_edge T k (fine ++ d ∷ []) e) on_whole on_line)
      (child_edge P r d.parent d.child own, x.at, along_from P W (inflated_line P r n line) (tile_edge T k (fine ++ d ∷ []) e) on_line) in
      record { edge_exists = all.0; along = all.1; on_part = all.2 }
    where
      plus_one : (m : ℕ) → m + 1 ≡ suc m
      plus_one m = omega arith

      at_depth : {j m : ℕ} → d.parent ≡ j → suc (length fine) ≡ m → f < edge_count r d.parent
          → Along P W (supertile_edge P r d.parent (suc (length fine)) f) (tile_edge T k (fine ++ d ∷ []) e)
          → LiesOnPart P r d.parent (suc (length fine)) f p (tile_edge T k (fine ++ d ∷ []) e)
          → (f < edge_count r j) × Along P W (supertile_edge P r j m f) (tile_edge T k (fine ++ d ∷ []) e)
          × LiesOnPart P r j m f p (tile_edge T k (fine ++ d ∷ []) e)
      at_depth same size a b c = rw (← same, ← size) (a, b, c)

  pub on_top : (k e : ℕ) (ds : List Step) (top : ℕ) (cuts : List Cut) → IsChain (tables_of P r) k ds
      → k < length r.kinds → e < edge_count r k → IsTrace (tables_of P r) e ds top cuts
      → OnTop k e ds top (first_part cuts)
  on_top k e [] top cuts chain hk he bare = on_top-bare k e hk he
  on_top k e ds top cuts chain hk he (further {fine = fine} {own = own} {f = f} {p = p} {cuts = cuts'} d rest is met) =
      let here : IsChain (tables_of P r) k (fine ++ d ∷ []) = subst (λ (l : List Step). IsChain (tables_of P r) k l) is chain in
      let finer = IsChain-fine (tables_of P r) k fine d (contacts-coherent T).child_exists here in
      subst (λ (l : List Step). OnTop k e l f p) (sym is)
      (on_top-further k e own f p (first_part cuts') fine d (IsChain-append (tables_of P r) k fine d here).0
      met (on_top k e fine own cuts' finer hk he rest))

  pub trace-on_boundary : (a : Address) (e top : ℕ) (cuts : List Cut) → Fits (child_kinds (tables_of P r)) a
      → a.kind < length r.kinds → e < edge_count r a.kind → HasTrace (tables_of P r) a e top cuts
      → IsOnBoundary P r (tile_at P r a) e top (first_part cuts)
  trace-on_boundary a e top cuts fits hk he trace =
      let h = on_top a.kind e a.digits top cuts (chain_of (tables_of P r) a fits) hk he trace in
      record {
        own = tile-among T a (chain_of (tables_of P r) a fits);
        edge_exists = h.edge_exists;
        along = along_from P W (supertile_edge P r (top_kind a) (depth a) top) (edge_of P r (tile_at P r a) e) h.along;
        on_part = h.on_part;
      }
