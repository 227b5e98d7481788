-- Arcs that differ, and the least mux of one.
use Rattle.std.proofs.Common.{◌≡◌, ℕ, ◌+◌, ◌<◌, ◌≤◌, ◌⊎◌, ◌↔◌, ◌&&◌, Bool, true, false, List, [], length, map, get_or, Option, Some, None, option_map, refl, sym, ap, subst, ◌∙◌, inl, inr, arith}
use Rattle.std.specs.Prelude.{slice_get, not, MatchOption, if◌then◌else◌}
use Rattle.std.specs.declared.cmp.Ordering.{Ordering}
use Rattle.std.specs.declared.cmp.Ordering.TheVariants.{Greater}
use Rattle.std.specs.Option.{option_map_or}
use Rattle.std.specs.Ordering.{is_gt}
use Rattle.std.proofs.lemmas.Bool.{and_parts, cases_lt, false≢true}
use Rattle.std.proofs.lemmas.Option.{get_or_from_slice_get, slice_get-map, slice_get_within}
use Rattle.words.specs.Members.{In}
use Rattle.patterns.specs.Bits.{Bits}
use Rattle.patterns.specs.Fits.{has_plain_bit}
use Rattle.records.specs.Grid.{Tile}
use Rattle.records.specs.Config.{Config}
use Rattle.fabric.specs.Device.{Device}
use Rattle.fabric.specs.Graph.{GraphMux, GraphArc, Graph}
use Rattle.fabric.specs.GraphOf.{IsGraph}
use Rattle.fabric.specs.Links.{is_chosen}
use Rattle.fabric.specs.Agree.{ArcsAgree, HasLine}
use Rattle.fabric_laws.proofs.Agreeing.{line_listed}
use Rattle.fabric_laws.proofs.Graphs.{some_same}
use Rattle.fabric_laws.proofs.Numbered.{get_in, number_there}
use Rattle.fabric_laws.proofs.Standing.{arc_stands}
use Rattle.graph_lists.specs.ArcLists.{ArcNumbers, numbers_of}
use Rattle.design_checks.specs.Checks.{IsLeast}
use Rattle.design_checks.specs.RoutingChecks.{Differs, MuxName, differ, mux_name_cmp}
use Rattle.chosen_links.proofs.Standing.{Had, had}
use Rattle.arc_lines.specs.LineArcs.{AreLineMarks}
use Rattle.arc_lines.specs.Differing.{DiffersBelow, IsLeastMux, IsRefusedMux, differs_by, lower_mux, mux_name, name_at}
use Rattle.arc_lines.proofs.LeastMux.{one_more}

module _ (g : Graph) (chosen lined : List Bool) where
  abbrev flag : ℕ → GraphArc → Bool
  flag a arc = differs_by (get_or chosen a false) (get_or lined a false) (has_plain_bit arc.arc.bits)

  no_more : (a m : ℕ) → DiffersBelow g chosen lined a m → DiffersBelow g chosen lined (a + 1) m
  no_more a m d = let b = d.below in record { place = d.place; arc = d.arc; below = omega arith; at = d.at; of_mux = d.of_mux; differs = d.differs }

  -- the least mux once one more arc is looked at
  pub least_more : (a k : ℕ) (n : ArcNumbers) (b : Bool) (old new : Option ℕ) → k ≡ a → option_map numbers_of (slice_get g.arcs k) ≡ Some n
      → option_map (λ (arc : GraphArc). differs_by (get_or chosen a false) (get_or lined a false) (has_plain_bit arc.arc.bits)) (slice_get g.arcs k) ≡ Some b
      → new ≡ (if b then Some (lower_mux g old n.mux) else old)
      → IsLeastMux g (DiffersBelow g chosen lined a) old → IsLeastMux g (DiffersBelow g chosen lined (a + 1)) new
  least_more a k n b old new place h d made so_far =
      one_more g (DiffersBelow g chosen lined a) (DiffersBelow g chosen lined (a + 1)) n.mux b (no_more a) split here old new made so_far
    where
      numbers : Had numbers_of (slice_get g.arcs a) n
      numbers = had numbers_of (slice_get g.arcs a) n (subst (λ j. option_map numbers_of (slice_get g.arcs j) ≡ Some n) place h)

      told : Had (flag a) (slice_get g.arcs a) b
      told = had (flag a) (slice_get g.arcs a) b (subst (λ j. option_map (flag a) (slice_get g.arcs j) ≡ Some b) place d)

      split : (m : ℕ) → DiffersBelow g chosen lined (a + 1) m → DiffersBelow g chosen lined a m ⊎ ((b ≡ true) × (m ≡ n.mux))
      split m k = elim (cases_lt k.place a) [
        | inl l ↦ inl (record { place = k.place; arc = k.arc; below = l; at = k.at; of_mux = k.of_mux; differs = k.differs })
        | inr l ↦ (let w = k.below in
            let same : k.place ≡ a = omega arith in
            let at : slice_get g.arcs a ≡ Some k.arc = ap (slice_get g.arcs) (sym same) ∙ k.at in
            let arc : told.element ≡ k.arc = some_same (sym told.there ∙ at) in
            let other : numbers.element ≡ k.arc = some_same (sym numbers.there ∙ at) in
            inr (
              sym told.is ∙ (ap (flag a) arc ∙ (ap (λ p. flag p k.arc) (sym same) ∙ k.differs)),
              sym k.of_mux ∙ (ap (λ (x : GraphArc). x.mux) (sym other) ∙ ap (λ (x : ArcNumbers). x.mux) numbers.is),
            ))
      ]

      here : b ≡ true → DiffersBelow g chosen lined (a + 1) n.mux
      here e =
          let same : numbers.element ≡ told.element = some_same (sym numbers.there ∙ told.there) in
          record {
            place = a;
            arc = told.element;
            below = omega arith;
            at = told.there;
            of_mux = ap (λ (x : GraphArc). x.mux) (sym same) ∙ ap (λ (x : ArcNumbers). x.mux) numbers.is;
            differs = told.is ∙ e;
          }

-- how an arc differs
by_cases : (chosen lined plain : Bool) → differs_by chosen lined plain ≡ true → ((chosen ≡ true) × ((plain ≡ true) × (lined ≡ false))) ⊎ ((lined ≡ true) × (chosen ≡ false))
by_cases true true plain e = absurd (false≢true e)
by_cases false true plain e = inr (refl, refl)
by_cases true false plain e = inl (refl, (e, refl))
by_cases false false plain e = absurd (false≢true e)

to_differ : (c l p : Bool) (chosen lined plain : Bool) → c ≡ chosen → l ≡ lined → p ≡ plain → differs_by chosen lined plain ≡ true → differs_by c l p ≡ true
to_differ c l p chosen lined plain x y z e = ap (λ b. differs_by b l p) x ∙ (ap (λ b. differs_by chosen b p) y ∙ (ap (λ b. differs_by chosen lined b) z ∙ e))

not_greater : (o : Ordering) → is_gt o ≡ false → o ≡ Greater → ⊥
not_greater o e h = false≢true (sym e ∙ ap is_gt h)

module _ (device : Device) (g : Graph) (is : IsGraph device g) (image : Bits) (config : Config) (chosen lined : List Bool)
    (chosen_are : chosen ≡ map (is_chosen g image) g.arcs) (marks : AreLineMarks g config lined) where
  chosen_at : (a : ℕ) (arc : GraphArc) → slice_get g.arcs a ≡ Some arc → get_or chosen a false ≡ is_chosen g image arc
  chosen_at a arc at = get_or_from_slice_get chosen a (is_chosen g image arc) false (ap (λ bs. slice_get bs a) chosen_are ∙ (slice_get-map (is_chosen g image) g.arcs a ∙ ap (option_map (is_chosen g image)) at))

  unlined : (a : ℕ) (arc : GraphArc) → slice_get g.arcs a ≡ Some arc → get_or lined a false ≡ false → HasLine g config arc → ⊥
  unlined a arc at e h = false≢true (sym e ∙ (marks a arc at).1 h)

  -- the arc of a number differs
  there : (a : ℕ) (arc : GraphArc) → slice_get g.arcs a ≡ Some arc → (c l p : Bool) → is_chosen g image arc ≡ c → get_or lined a false ≡ l → has_plain_bit arc.arc.bits ≡ p → differs_by c l p ≡ true
      → DiffersBelow g chosen lined (length g.arcs) arc.mux
  there a arc at c l p x y z e = record {
    place = a;
    arc = arc;
    below = slice_get_within g.arcs a arc at;
    at = at;
    of_mux = refl;
    differs = to_differ (get_or chosen a false) (get_or lined a false) (has_plain_bit arc.arc.bits) c l p (chosen_at a arc at ∙ x) y z e;
  }

  agree : ((m : ℕ) → DiffersBelow g chosen lined (length g.arcs) m → ⊥) → ArcsAgree g image config
  agree none = record { chosen_has_line = has; line_is_chosen = listed }
    where
      has : (arc : GraphArc) → In g.arcs arc → is_chosen g image arc ≡ true → has_plain_bit arc.arc.bits ≡ true → HasLine g config arc
      has arc i c p = let n = number_there g.arcs arc i in go n.0 n.1 (get_or lined n.0 false) refl
        where
          go : (a : ℕ) → slice_get g.arcs a ≡ Some arc → (b : Bool) → get_or lined a false ≡ b → HasLine g config arc
          go a at true e = (marks a arc at).0 e
          go a at false e = absurd (none arc.mux (there a arc at true false true c e p refl))

      listed : (arc : GraphArc) → HasLine g config arc → is_chosen g image arc ≡ true
      listed arc h = let n = number_there g.arcs arc (line_listed g config arc h) in go n.0 n.1 (is_chosen g image arc) refl
        where
          go : (a : ℕ) → slice_get g.arcs a ≡ Some arc → (b : Bool) → is_chosen g image arc ≡ b → is_chosen g image arc ≡ true
          go a at true e = e
          go a at false e = absurd (none arc.mux (there a arc at false true (has_plain_bit arc.arc.bits) e ((marks a arc at).1 h) refl refl))

  -- the name of the mux of an arc
  name_is : (m : ℕ) (mux : GraphMux) → slice_get g.muxes m ≡ Some mux → name_at g m ≡ mux_name g mux
  name_is m mux at = ap (λ o. option_map_or (mux_name g) o (record { tile = []; sink = [] })) at

  tile_is : (mux : GraphMux) (tile : Tile) → slice_get g.grid.tiles mux.tile ≡ Some tile → mux_name g mux ≡ record { tile = tile.name; sink = mux.mux.sink }
  tile_is mux tile at = ap (λ o. let n : MuxName = record { tile = option_map_or (λ (t : Tile). t.name) o []; sink = mux.mux.sink } in n) at

  -- a name at which an arc differs is that of the mux of one that is looked at
  named : (y : MuxName) → Differs g image config y → (m : ℕ) × ((name_at g m ≡ y) × DiffersBelow g chosen lined (length g.arcs) m)
  named y d =
      let n = number_there g.arcs d.arc d.listed in (
        d.arc.mux,
        (
          name_is d.arc.mux d.mux d.of_mux ∙ (tile_is d.mux d.tile d.in_tile ∙ sym d.named),
          elim d.differs [
            | inl c ↦ there n.0 d.arc n.1 true false true c.0 (no_line n.0 n.1 c.1.1) c.1.0 refl
            | inr l ↦ there n.0 d.arc n.1 false true (has_plain_bit d.arc.arc.bits) l.1 ((marks n.0 d.arc n.1).1 l.0) refl refl
          ],
        ),
      )
    where
      no_line : (a : ℕ) → slice_get g.arcs a ≡ Some d.arc → (HasLine g config d.arc → ⊥) → get_or lined a false ≡ false
      no_line a at n = go (get_or lined a false) refl
        where
          go : (b : Bool) → get_or lined a false ≡ b → b ≡ false
          go true e = absurd (n ((marks a d.arc at).0 e))
          go false e = refl

  refused : (m : ℕ) → DiffersBelow g chosen lined (length g.arcs) m → ((n : ℕ) → DiffersBelow g chosen lined (length g.arcs) n → is_gt (mux_name_cmp (name_at g m) (name_at g n)) ≡ false)
      → IsRefusedMux g image config m
  refused m d least =
      let stands = arc_stands device g is d.arc (get_in g.arcs d.place d.arc d.at) in
      let mux : GraphMux = stands.mux in
      let at : slice_get g.muxes m ≡ Some mux = ap (slice_get g.muxes) (sym d.of_mux) ∙ stands.of_mux in
      let in_tile : slice_get g.grid.tiles mux.tile ≡ Some stands.tile = ap (λ grid. slice_get grid.tiles mux.tile) is.grid ∙ stands.in_tile in
      record {
        mux = mux;
        is = at;
        refused = differ (mux_name g mux) (record {
          has = record {
            arc = d.arc;
            mux = mux;
            tile = stands.tile;
            listed = get_in g.arcs d.place d.arc d.at;
            of_mux = stands.of_mux;
            in_tile = in_tile;
            named = tile_is mux stands.tile in_tile;
            differs = elim (by_cases (get_or chosen d.place false) (get_or lined d.place false) (has_plain_bit d.arc.arc.bits) d.differs) [
              | inl c ↦ inl (sym (chosen_at d.place d.arc d.at) ∙ c.0, (c.1.0, unlined d.place d.arc d.at c.1.1))
              | inr l ↦ inr ((marks d.place d.arc d.at).0 l.0, sym (chosen_at d.place d.arc d.at) ∙ l.1)
            ];
          };
          least = λ y h. let n = named y h in
              not_greater (mux_name_cmp (mux_name g mux) y) (subst (λ z. is_gt (mux_name_cmp (mux_name g mux) z) ≡ false) n.1.0
              (subst (λ z. is_gt (mux_name_cmp z (name_at g n.0)) ≡ false) (name_is m mux at) (least n.0 n.1.1)));
        });
      }

  -- what the least mux with an arc that differs says
  pub answered : (found : Option ℕ) → IsLeastMux g (DiffersBelow g chosen lined (length g.arcs)) found → MatchOption found (ArcsAgree g image config) (IsRefusedMux g image config)
  answered None h = agree h
  answered (Some m) h = refused m h.0 h.1
