-- Pads at which no named pad stands, tile by tile.
use Rattle.std.proofs.Common.{◌≡◌, ℕ, suc, zero, ◌+◌, ◌<◌, ◌≤◌, Bool, true, false, cond, List, [], ◌∷◌, ◌++◌, map, flat_map, drop, length, get_or, Option, None, Some, option_map, inl, inr, refl, sym, ap, subst, ◌∙◌, arith, add-one, append_assoc}
use Rattle.std.specs.Prelude.{filter, filter_map, not, slice_get, if◌then◌else◌}
use Rattle.std.specs.List.{cons_option, enumerate_from}
use Rattle.std.specs.Option.{is_some}
use Rattle.std.specs.Str.{bytes_eq}
use Rattle.std.proofs.lemmas.List.{append-nil, drop_all, drop_more}
use Rattle.words.specs.Members.{In}
use Rattle.words.specs.Ordered.{in_order}
use Rattle.records.specs.Grid.{Tile}
use Rattle.records.specs.Profile.{PadKind, Profile}
use Rattle.records.specs.Side.{Side}
use Rattle.fabric.specs.Graph.{Graph}
use Rattle.links.proofs.Members.{of_flat_map}
use Rattle.cells.specs.Sites.{Site, site_in, is_named, tile_pad_sites, unnamed_pads}
use Rattle.slice_model.specs.Grid.{StandsInGrid, AllStand}
use Rattle.slice_model.specs.Unnamed.{unnamed_of, unnamed_in}
use denote.Ref.{Bor}

filter_both : {X : Type 0} (t : X → Bool) (xs ys : List X) → filter t (xs ++ ys) ≡ filter t xs ++ filter t ys
filter_both t [] ys = refl
filter_both {X} t (x ∷ xs) ys = go (t x) (filter_both t xs ys)
  where
    go : (b : Bool) → filter t (xs ++ ys) ≡ filter t xs ++ filter t ys → cond b (x ∷ filter t (xs ++ ys)) (filter t (xs ++ ys)) ≡ cond b (x ∷ filter t xs) (filter t xs) ++ filter t ys
    go true h = ap (λ zs. x ∷ zs) h
    go false h = h

-- all kinds make a site in a tile that has a place, and none makes one in another
made_in : {K : Type 0} (number : ℕ) (tile : Tile) (kinds : List K) (place : ℕ × ℕ) → tile.place ≡ Some place → filter_map (site_in number tile) kinds ≡ map (λ k. record { number = number; tile = tile; kind = k }) kinds
made_in number tile [] place e = refl
made_in {K} number tile (k ∷ ks) place e =
    ap (λ o. cons_option (option_map (λ (place : ℕ × ℕ). (let s : Site K = record { number = number; tile = tile; kind = k } in s)) o) (filter_map (site_in number tile) ks)) e
    ∙ ap (λ ss. (let s : Site K = record { number = number; tile = tile; kind = k } in s) ∷ ss) (made_in number tile ks place e)

none_in : {K : Type 0} (number : ℕ) (tile : Tile) (kinds : List K) → tile.place ≡ None → filter_map (site_in number tile) kinds ≡ []
none_in number tile [] e = refl
none_in {K} number tile (k ∷ ks) e =
    ap (λ o. cons_option (option_map (λ (place : ℕ × ℕ). (let s : Site K = record { number = number; tile = tile; kind = k } in s)) o) (filter_map (site_in number tile) ks)) e ∙ none_in number tile ks e

pub with_place : (profile : Profile) (side : Side) (number : ℕ) (tile : Tile) (kinds : List PadKind) (place : ℕ × ℕ) → tile.place ≡ Some place
    → kinds ≡ in_order (λ k. k.name) (filter (λ k. bytes_eq k.tile tile.kind) profile.pads)
    → unnamed_of side number tile kinds ≡ filter (λ s. not (is_named side s)) (tile_pad_sites profile number tile)
with_place profile side number tile kinds place e same =
    ap (filter (λ s. not (is_named side s)))
    (sym (made_in number tile kinds place e) ∙ ap (filter_map (site_in number tile)) same)

pub without_place : (profile : Profile) (side : Side) (number : ℕ) (tile : Tile) → tile.place ≡ None → filter (λ s. not (is_named side s)) (tile_pad_sites profile number tile) ≡ []
without_place profile side number tile e =
    ap (filter (λ s. not (is_named side s))) (none_in number tile (in_order (λ k. k.name) (filter (λ k. bytes_eq k.tile tile.kind) profile.pads)) e)

pub tile_none : (profile : Profile) (side : Side) (number : ℕ) (tile : Tile) (ys : List (Site PadKind)) → is_some tile.place ≡ false
    → ys ≡ ys ++ filter (λ s. not (is_named side s)) (tile_pad_sites profile number tile)
tile_none profile side number tile ys h =
    sym (append-nil ys) ∙ ap (λ zs. ys ++ zs) (sym (without_place profile side number tile (go tile.place h)))
  where
    go : (o : Option (ℕ × ℕ)) → is_some o ≡ false → o ≡ None
    go None e = refl
    go (Some p) e = absurd (let no : ⊥ = cc in no)

pub tile_some : (profile : Profile) (side : Side) (number : ℕ) (tile : Tile) (kinds : List PadKind) → is_some tile.place ≡ true
    → kinds ≡ in_order (λ k. k.name) (filter (λ k. bytes_eq k.tile tile.kind) profile.pads)
    → unnamed_of side number tile kinds ≡ filter (λ s. not (is_named side s)) (tile_pad_sites profile number tile)
tile_some profile side number tile kinds h same = (let p = go tile.place h in with_place profile side number tile kinds p.0 p.1 same)
  where
    go : (o : Option (ℕ × ℕ)) → is_some o ≡ true → (p : ℕ × ℕ) × (o ≡ Some p)
    go None e = absurd (let no : ⊥ = cc in no)
    go (Some p) e = (p, refl)

-- the next tile, and those behind it
rest_of : (tiles : List Tile) (i : ℕ) (tile : Tile) → slice_get tiles i ≡ Some tile → drop i tiles ≡ tile ∷ drop (suc i) tiles
rest_of [] i tile e = absurd (let no : ⊥ = cc in no)
rest_of (t ∷ ts) zero tile e = ap (λ u. u ∷ ts) (let same : t ≡ tile = cc in same)
rest_of (t ∷ ts) (suc i) tile e = rest_of ts i tile e

rest_at : (tiles : List Tile) (i : ℕ) (tile : Tile) → slice_get tiles i ≡ Some tile → drop i tiles ≡ tile ∷ drop (i + 1) tiles
rest_at tiles i tile e = rest_of tiles i tile e ∙ ap (λ n. tile ∷ drop n tiles) (sym (add-one i))

module _ (profile : Profile) (side : Side) where
  first_in : (n : ℕ) (tile : Tile) (tiles : List Tile)
      → unnamed_in profile side n (tile ∷ tiles) ≡ filter (λ s. not (is_named side s)) (tile_pad_sites profile n tile) ++ unnamed_in profile side (n + 1) tiles
  first_in n tile tiles = filter_both (λ s. not (is_named side s)) (tile_pad_sites profile n tile) (flat_map (λ t. tile_pad_sites profile t.0 t.1) (enumerate_from (n + 1) tiles))

  pub tile_step : (tiles : List Tile) (n : ℕ) (tile : Tile) (old new all : List (Site PadKind)) → slice_get tiles n ≡ Some tile
      → new ≡ old ++ filter (λ s. not (is_named side s)) (tile_pad_sites profile n tile) → old ++ unnamed_in profile side n (drop n tiles) ≡ all
      → new ++ unnamed_in profile side (n + 1) (drop (n + 1) tiles) ≡ all
  tile_step tiles n tile old new all e made h =
      ap (λ ss. ss ++ unnamed_in profile side (n + 1) (drop (n + 1) tiles)) made
      ∙ (append_assoc old (filter (λ s. not (is_named side s)) (tile_pad_sites profile n tile)) (unnamed_in profile side (n + 1) (drop (n + 1) tiles))
      ∙ (ap (λ ss. old ++ ss) (sym (ap (unnamed_in profile side n) (rest_at tiles n tile e) ∙ first_in n tile (drop (n + 1) tiles))) ∙ h))

  pub tile_end : (tiles : List Tile) (n : ℕ) (old all : List (Site PadKind)) → length tiles ≤ n → old ++ unnamed_in profile side n (drop n tiles) ≡ all → old ≡ all
  tile_end tiles n old all l h = sym (append-nil old) ∙ (ap (λ ts. old ++ unnamed_in profile side n ts) (sym (drop_all n tiles l)) ∙ h)

-- the next kind, and those behind it
next_kind : (side : Side) (number : ℕ) (tile : Tile) (k : PadKind) (ks : List PadKind)
    → unnamed_of side number tile (k ∷ ks)
    ≡ (if is_named side (record { number = number; tile = tile; kind = k }) then [] else (record { number = number; tile = tile; kind = k } ∷ [])) ++ unnamed_of side number tile ks
next_kind side number tile k ks = go (is_named side (record { number = number; tile = tile; kind = k }))
  where
    go : (b : Bool) → cond (not b) (record { number = number; tile = tile; kind = k } ∷ unnamed_of side number tile ks) (unnamed_of side number tile ks)
        ≡ (if b then [] else (record { number = number; tile = tile; kind = k } ∷ [])) ++ unnamed_of side number tile ks
    go true = refl
    go false = refl

pub kind_more : (side : Side) (number : ℕ) (tile : Tile) (kinds : List (Bor PadKind)) (i : ℕ) (d : Bor PadKind) (ys more whole : List (Site PadKind)) → i < length kinds
    → ys ++ unnamed_of side number tile (map (λ k. k.now) (drop i kinds)) ≡ whole
    → more ≡ ys ++ (if is_named side (record { number = number; tile = tile; kind = (get_or kinds i d).now }) then [] else (record { number = number; tile = tile; kind = (get_or kinds i d).now } ∷ []))
    → more ++ unnamed_of side number tile (map (λ k. k.now) (drop (i + 1) kinds)) ≡ whole
kind_more side number tile kinds i d ys more whole below all is =
    let rest : List (Site PadKind) = unnamed_of side number tile (map (λ (k : Bor PadKind). k.now) (drop (i + 1) kinds)) in
    let k : PadKind = (get_or kinds i d).now in
    let made : List (Site PadKind) = (if is_named side (record { number = number; tile = tile; kind = k }) then [] else (record { number = number; tile = tile; kind = k } ∷ [])) in
    ap (λ zs. zs ++ rest) is
    ∙ (append_assoc ys made rest
    ∙ (ap (λ zs. ys ++ zs) (sym (ap (λ (ks : List (Bor PadKind)). unnamed_of side number tile (map (λ k. k.now) ks)) (drop_more kinds i d below) ∙ next_kind side number tile k (map (λ k. k.now) (drop (i + 1) kinds))))
    ∙ all))

pub kind_all : (side : Side) (number : ℕ) (tile : Tile) (kinds : List (Bor PadKind)) (i : ℕ) (ys whole : List (Site PadKind)) → length kinds ≤ i
    → ys ++ unnamed_of side number tile (map (λ k. k.now) (drop i kinds)) ≡ whole → ys ≡ whole
kind_all side number tile kinds i ys whole over all =
    sym (append-nil ys) ∙ (ap (λ zs. ys ++ zs) (sym (ap (λ (ks : List (Bor PadKind)). unnamed_of side number tile (map (λ k. k.now) ks)) (drop_all i kinds over))) ∙ all)

-- unnamed pads stand in the grid
of_filter : {X : Type 0} (t : X → Bool) (xs : List X) (x : X) → In (filter t xs) x → In xs x
of_filter t [] x i = i
of_filter {X} t (y ∷ ys) x i = go (t y) i (of_filter t ys x)
  where
    go : (b : Bool) → In (cond b (y ∷ filter t ys) (filter t ys)) x → (In (filter t ys) x → In ys x) → In (y ∷ ys) x
    go true j ih = elim j [ inl e ↦ inl e | inr k ↦ inr (ih k) ]
    go false j ih = inr (ih j)

of_enumerated : (first : ℕ) (tiles : List Tile) (q : ℕ × Tile) → In (enumerate_from first tiles) q → (k : ℕ) × ((first + k ≡ q.0) × (slice_get tiles k ≡ Some q.1))
of_enumerated first [] q i = absurd i
of_enumerated first (t ∷ ts) q i = elim i [
  | inl e ↦ (zero, ((let z : first + zero ≡ first = omega arith in z ∙ ap (λ (r : ℕ × Tile). r.0) e), ap (λ (r : ℕ × Tile). Some r.1) e))
  | inr j ↦ (let r = of_enumerated (first + 1) ts q j in (suc r.0, ((let z : first + suc r.0 ≡ (first + 1) + r.0 = omega arith in z ∙ r.1.0), r.1.1)))
]

in_tile : {K : Type 0} (number : ℕ) (tile : Tile) (kinds : List K) (s : Site K) → In (filter_map (site_in number tile) kinds) s → (number ≡ s.number) × (tile ≡ s.tile)
in_tile number tile [] s i = absurd i
in_tile {K} number tile (k ∷ ks) s i = go tile.place i (in_tile number tile ks s)
  where
    go : (o : Option (ℕ × ℕ)) → In (cons_option (option_map (λ (place : ℕ × ℕ). (let r : Site K = record { number = number; tile = tile; kind = k } in r)) o) (filter_map (site_in number tile) ks)) s
        → (In (filter_map (site_in number tile) ks) s → (number ≡ s.number) × (tile ≡ s.tile)) → (number ≡ s.number) × (tile ≡ s.tile)
    go None j ih = ih j
    go (Some p) j ih = elim j [ inl e ↦ (ap (λ (r : Site K). r.number) e, ap (λ (r : Site K). r.tile) e) | inr l ↦ ih l ]

pub unnamed_stand : (g : Graph) (profile : Profile) (side : Side) → AllStand g (unnamed_pads g profile side)
unnamed_stand g profile side = record {
  each = λ s i. (
      let q = of_flat_map (λ (t : ℕ × Tile). tile_pad_sites profile t.0 t.1) (enumerate_from 0 g.grid.tiles) s
      (of_filter (λ s. not (is_named side s)) (flat_map (λ t. tile_pad_sites profile t.0 t.1) (enumerate_from 0 g.grid.tiles)) s i) in
      let n = of_enumerated 0 g.grid.tiles q.0 q.1.0 in
      let k = in_tile q.0.0 q.0.1 (in_order (λ (k : PadKind). k.name) (filter (λ k. bytes_eq k.tile q.0.1.kind) profile.pads)) s q.1.1 in
      let place : n.0 ≡ s.number = (let z : n.0 ≡ 0 + n.0 = omega arith in z ∙ (n.1.0 ∙ k.0)) in
      record { at = subst (λ m. slice_get g.grid.tiles m ≡ Some s.tile) place (n.1.1 ∙ ap Some k.1) });
}
