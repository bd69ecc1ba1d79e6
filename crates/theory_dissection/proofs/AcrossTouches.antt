-- Across in the plane is touch in the tables, and an edge with a trace has no tile across it.
use Rattle.std.proofs.Common.{◌≡◌, ℕ, ◌<◌, List, length, IsSome, refl, sym, ap, subst}
use Rattle.theory_ring.specs.Ring.{Ops, power}
use Rattle.theory_substitution.specs.Plane.{plane_point, Keeps}
use Rattle.theory_substitution.specs.Motion.{moved}
use Rattle.theory_addresses.specs.Address.{Step, Address, top_from, top_kind, depth, Fits}
use Rattle.theory_substitution.specs.RuleParts.{vertex, edge_count}
use Rattle.theory_edge_to_edge.specs.Edges.{Edge}
use Rattle.theory_addresses.specs.Search.{IsAmong}
use Rattle.theory_substitution.specs.Supertile.{Placed, supertile}
use Rattle.theory_edge_to_edge.specs.Contacts.{tables_of}
use Rattle.theory_addresses.specs.Tables.{Tables, child_kinds, type_of}
use Rattle.theory_addresses.specs.Trace.{Cut, HasTrace}
use Rattle.theory_addresses.specs.Touch.{Touches}
use Rattle.theory_substitution.proofs.Keeping.{motion-keeps}
use Rattle.theory_addresses.proofs.Chains.{IsChain, chain_of, fits_of}
use Rattle.theory_edge_to_edge.proofs.TablesOf.{type_of-at, type_of-found}
use Rattle.theory_addresses.proofs.FineTouch.{Meets, as_children, as_parts}
use Rattle.theory_addresses.proofs.Touching.{Meets-of, Touches-sym, trace_excludes_touch}
use Rattle.theory_dissection.specs.TileEdges.{edge_of, supertile_edge, IsTileBeside, image_of, tile_at, kind_edge}
use Rattle.theory_dissection.specs.Across.{RunsBack, IsTileAcross}
use Rattle.theory_dissection.proofs.Setting.{Setting, contacts-coherent, inflating-keeps}
use Rattle.theory_dissection.proofs.Ahead.{Ahead}
use Rattle.theory_dissection.proofs.Injective.{AheadOf, along_of, ahead-along, keeps-injective}
use Rattle.theory_dissection.proofs.StarEdges.{from, to}
use Rattle.theory_dissection.proofs.NoReturn.{no_return}
use Rattle.theory_dissection.proofs.EitherWay.{TraceOrTouch, traced, touched, trace_or_touch}
use Rattle.theory_dissection.proofs.MeetMates.{met_mates}
use Rattle.theory_dissection.proofs.Opposite.{touches-opposite}
use Rattle.theory_dissection.proofs.TraceAlong.{ends_apart, along-itself, trace-on_boundary}
use Rattle.theory_dissection.proofs.Members.{member}
use Rattle.theory_dissection.proofs.OnlyOne.{end-is, kind_edge_below, one_along}
use Rattle.theory_dissection.proofs.RuleAddresses.{top_exists, lowest_exists, tile-among}
use Rattle.theory_dissection.proofs.MovedStar.{star_of}

meets-top : {t : Tables} (k l e f : ℕ) (xs ys : List Step) → Meets t xs e ys f → top_from l ys ≡ top_from k xs
meets-top k l e f xs ys (as_children {ds = ds} parent met) = ap (λ (j : ℕ). top_from j ds) (sym parent)
meets-top k l e f xs ys (as_parts {s = s} {u = u} {own = own} {other = other} {xs = xs'} {ys = ys'} is is' n m
    rest) = meets-top s.parent u.parent own other xs' ys' rest

module _ (T : Setting) where
  open T use {points as P, laws as W, accepted.{rule as r, numbered as N, edge_to_edge as D}}

  abbrev A : Type 0
  A = P.ring.carrier

  abbrev K : Ops
  K = P.ring

  abbrev t : Tables
  t = tables_of P r

  abbrev tile : Address → Placed A
  tile = tile_at P r

  pub same : Keeps P (λ z. z)
  same = record { turns = λ a b c. refl; segments = λ a b c. refl; equal_lengths = λ a b c d. refl }

  -- ---- the edges of a tile
  edge-apart : (u : Placed A) (e : ℕ) → u.address.kind < length r.kinds → e < edge_count r u.address.kind
      → (edge_of P r u e).from ≡ (edge_of P r u e).to → ⊥
  edge-apart u e hk he h = ends_apart T u.address.kind e hk he (keeps-injective P W (moved P u.motion) (motion-keeps P W u.motion) _ _ h)

  pub edge-itself : (u : Placed A) (e : ℕ) → u.address.kind < length r.kinds → e < edge_count r u.address.kind
      → AheadOf P W (edge_of P r u e) (edge_of P r u e)
  edge-itself u e hk he = ahead-along P W (edge_of P r u e) (edge_of P r u e) (along-itself T (edge_of P r u e) (edge-apart u e hk he))

  -- a line along an edge of kind k that f moves, as one along an edge of its polygon
  pub as_edge : (f : A → A) (keeps : Keeps P f) (k e : ℕ) (hk : k < length r.kinds) (l : Edge A) → AheadOf P W (image_of P f (kind_edge P r k e)) l
      → Ahead P.real (from (star_of T f keeps k hk) e) (to (star_of T f keeps k hk) e)
      (plane_point P l.from) (plane_point P l.to)
  as_edge f keeps k e hk l h =
      subst (λ z. Ahead P.real (plane_point P (f (vertex P r k e))) z (plane_point P l.from) (plane_point P l.to)) (sym (end-is T f keeps k e hk)) h

  -- no two edges of one prototile that f moves have a line along the one and back along the other
  pub not_back : (f : A → A) (keeps : Keeps P f) (k d e : ℕ) (hk : k < length r.kinds) → d < edge_count r k → e < edge_count r k → (u v : A)
      → AheadOf P W (image_of P f (kind_edge P r k d)) (record { from = u; to = v })
      → AheadOf P W (image_of P f (kind_edge P r k e)) (record { from = v; to = u }) → ⊥
  not_back f keeps k d e hk hd he u v h g =
      no_return (star_of T f keeps k hk) d e (plane_point P u) (plane_point P v)
      (kind_edge_below T k d hk hd) (kind_edge_below T k e hk he)
      (as_edge f keeps k d hk (record { from = u; to = v }) h) (as_edge f keeps k e hk (record { from = v; to = u }) g)

  -- an edge that runs back is a line back along it
  back-line : (u : Placed A) (f : ℕ) (l : Edge A) → u.address.kind < length r.kinds
      → f < edge_count r u.address.kind → RunsBack l (edge_of P r u f)
      → AheadOf P W (edge_of P r u f) (record { from = l.to; to = l.from })
  back-line u f l hk hf h =
      subst (λ v. AheadOf P W (edge_of P r u f) (record { from = v; to = l.from })) h.from_end
      (subst (λ w. AheadOf P W (edge_of P r u f) (record { from = (edge_of P r u f).from; to = w })) h.to_start (edge-itself u f hk hf))

  not_own : (u : Placed A) (e f : ℕ) → u.address.kind < length r.kinds → e < edge_count r u.address.kind
      → f < edge_count r u.address.kind → RunsBack (edge_of P r u e) (edge_of P r u f) → ⊥
  not_own u e f hk he hf h =
      not_back (moved P u.motion) (motion-keeps P W u.motion) u.address.kind e f hk he hf
      (edge_of P r u e).from (edge_of P r u e).to (edge-itself u e hk he)
      (back-line u f (edge_of P r u e) hk hf h)

  -- ---- touch is across
  pub edge_known : (k e : ℕ) → e < edge_count r k → IsSome (type_of t k e)
  edge_known k e h = rw (type_of-at P r k e h) refl

  pub touch-across : (a b : Address) (e f : ℕ) → Fits (child_kinds t) a → Fits (child_kinds t) b
      → e < edge_count r a.kind → Touches t a e b f → IsTileAcross P r (tile a) e (tile b) f
  touch-across a b e f fits fits' he touches =
      let coherent = contacts-coherent T in
      let known = edge_known a.kind e he in
      let chain = chain_of t a fits in
      let chain' = chain_of t b fits' in
      let meets = Meets-of a b coherent fits fits' known touches in
      let mated = met_mates t a.kind b.kind e f a.digits b.digits coherent chain chain' known meets in
      let hf = (type_of-found P r b.kind f mated.other mated.other_is).0 in
      let opposite = touches-opposite T a b e f fits fits' known touches in
      let runs : RunsBack (edge_of P r (tile a) e) (edge_of P r (tile b) f) = record { from_end = opposite.0; to_start = opposite.1 } in
      let top = meets-top a.kind b.kind e f a.digits b.digits meets in
      record {
        own = tile-among T a chain;
        beside = subst (λ n. IsAmong (tile b) (supertile P r (top_kind a) n)) (sym touches.one_depth)
            (subst (λ k. IsAmong (tile b) (supertile P r k (depth b))) top (tile-among T b chain'));
        other = λ one. not_own (tile a) e f (lowest_exists T a.kind a.digits chain) he (subst (λ (x : Address). f < edge_count r x.kind) one hf)
            (subst (λ (x : Address). RunsBack (edge_of P r (tile a) e) (edge_of P r (tile x) f)) one runs);
        edge_exists = hf;
        runs_back = runs;
      }

  -- two edges of the tiles that run back along one line are one
  pub one_across : (a : Address) (b c : Placed A) (f g : ℕ) (l : Edge A) → IsChain t a.kind a.digits
      → IsTileBeside P r a b → IsTileBeside P r a c → f < edge_count r b.address.kind
      → g < edge_count r c.address.kind
      → RunsBack l (edge_of P r b f) → RunsBack l (edge_of P r c g) → (c ≡ b) × (g ≡ f)
  one_across a b c f g l chain i j hf hg x y =
      let top = top_exists T a.kind a.digits chain in
      let hb = (member T (top_kind a) (depth a) top b i).tile.kind_exists in
      let hc = (member T (top_kind a) (depth a) top c j).tile.kind_exists in
      let line : Edge A = record { from = l.to; to = l.from } in
      one_along T (λ z. z) same (top_kind a) (depth a) top c b g f (plane_point P line.from)
      (plane_point P line.to) j i hg hf (back-line c g l hc hg y) (back-line b f l hb hf x)

  -- a tile of the list is that of its address
  pub tile-is : (a : Address) (c : Placed A) → IsChain t a.kind a.digits → IsTileBeside P r a c
      → (c ≡ tile c.address) × IsChain t c.address.kind c.address.digits × (top_kind c.address ≡ top_kind a) × (depth c.address ≡ depth a)
  tile-is a c chain i =
      let m = member T (top_kind a) (depth a) (top_exists T a.kind a.digits chain) c i in
      (ap (λ u. record { address = c.address; motion = u }) m.motion_is, m.tile.chain, m.tile.top, m.depth_is)

  -- the same supertile, from another tile of it
  beside-of : (a b : Address) → top_kind b ≡ top_kind a → depth b ≡ depth a → (c : Placed A) → IsTileBeside P r a c → IsTileBeside P r b c
  beside-of a b top deep c i = subst (λ n. IsAmong c (supertile P r (top_kind b) n)) (sym deep)
      (subst (λ k. IsAmong c (supertile P r k (depth a))) (sym top) i)

  turned-back : {l m : Edge A} → RunsBack l m → RunsBack m l
  turned-back h = record { from_end = sym h.to_start; to_start = sym h.from_end }

  -- ---- an edge with a trace has no tile across it
  pub traced-none : (a : Address) (e top : ℕ) (cuts : List Cut) → Fits (child_kinds t) a
      → e < edge_count r a.kind → HasTrace t a e top cuts → (c : Placed A) (g : ℕ)
      → IsTileAcross P r (tile a) e c g → ⊥
  traced-none a e top cuts fits he trace c g across =
      let chain = chain_of t a fits in
      let c-is = tile-is a c chain across.beside in
      let coherent = contacts-coherent T in
      at_case (trace_or_touch t c.address g coherent
      (fits_of t c.address.kind c.address.digits coherent c-is.1)
      (edge_known c.address.kind g across.edge_exists)) c-is.1 c-is.2 c-is.3 c-is.0
    where
      at_case : TraceOrTouch t c.address g → IsChain t c.address.kind c.address.digits
          → top_kind c.address ≡ top_kind a → depth c.address ≡ depth a → c ≡ tile c.address → ⊥
      at_case (touched m) chain' top' deep is =
          -- the edge that c's edge touches runs as a's edge does, so it is a's edge
          let coherent = contacts-coherent T in
          let fits' = fits_of t c.address.kind c.address.digits coherent chain' in
          let back = touch-across c.address m.other g m.edge fits' m.fits across.edge_exists m.touches in
          let runs : RunsBack (edge_of P r (tile c.address) g) (edge_of P r (tile a) e) = turned-back
          (subst (λ (x : Placed A). RunsBack (edge_of P r (tile a) e) (edge_of P r x g)) is
          across.runs_back) in
          let own = beside-of a c.address top' deep (tile a) (tile-among T a (chain_of t a fits)) in
          let one = one_across c.address (tile a) (tile m.other) e m.edge (edge_of P r (tile c.address) g)
          chain' own back.beside he back.edge_exists runs back.runs_back in
          let touches : Touches t c.address g a e
          = subst (λ (f : ℕ). Touches t c.address g a f) one.1
          (subst (λ (x : Address). Touches t c.address g x m.edge)
          (ap (λ (x : Placed A). x.address) one.0) m.touches) in
          trace_excludes_touch a c.address coherent fits fits' (edge_known a.kind e he) trace
          (Touches-sym c.address a coherent fits' fits (edge_known c.address.kind g across.edge_exists) touches)
      at_case (traced top2 cuts2 trace2) chain' top' deep is =
          -- both lie along edges of the supertile, the one back along the other
          let coherent = contacts-coherent T in
          let fits' = fits_of t c.address.kind c.address.digits coherent chain' in
          let hk = top_exists T a.kind a.digits (chain_of t a fits) in
          let own = trace-on_boundary T a e top cuts fits (lowest_exists T a.kind a.digits (chain_of t a fits)) he trace in
          let other = trace-on_boundary T c.address g top2 cuts2 fits'
          (lowest_exists T c.address.kind c.address.digits chain') across.edge_exists trace2 in
          let l = edge_of P r (tile a) e in
          let runs = across.runs_back in
          let mine = ahead-along P W (supertile_edge P r (top_kind a) (depth a) top) l
          (along_of P W (supertile_edge P r (top_kind a) (depth a) top) l own.along) in
          let its = ahead-along P W (supertile_edge P r (top_kind c.address) (depth c.address) top2)
          (edge_of P r (tile c.address) g) (along_of P W _ _ other.along) in
          let its' : AheadOf P W (supertile_edge P r (top_kind a) (depth a) top2) (edge_of P r (tile c.address) g)
          = subst (λ n. AheadOf P W (supertile_edge P r (top_kind a) n top2) (edge_of P r (tile c.address) g))
          deep (subst (λ k. AheadOf P W (supertile_edge P r k (depth c.address) top2)
          (edge_of P r (tile c.address) g)) top' its) in
          let its2 : AheadOf P W (supertile_edge P r (top_kind a) (depth a) top2) (edge_of P r c g)
          = subst (λ (x : Placed A). AheadOf P W (supertile_edge P r (top_kind a) (depth a) top2) (edge_of P r x g)) (sym is) its' in
          let its3 : AheadOf P W (supertile_edge P r (top_kind a) (depth a) top2) (record { from = l.to; to = l.from })
          = subst (λ u. AheadOf P W (supertile_edge P r (top_kind a) (depth a) top2) (record { from = u; to = l.from })) runs.from_end
          (subst (λ v. AheadOf P W (supertile_edge P r (top_kind a) (depth a) top2)
          (record { from = (edge_of P r c g).from; to = v })) runs.to_start its2) in
          not_back (K.mul (power K r.factor (depth a))) (inflating-keeps T (depth a)) (top_kind a) top top2 hk
          own.edge_exists (subst (λ k. top2 < edge_count r k) top' other.edge_exists) l.from l.to mine
          its3
