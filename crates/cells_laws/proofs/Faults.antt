-- Nothing is refused exactly where all is accepted, and a fault that is named is one.
use Rattle.std.proofs.Common.{◌≡◌, ◌≢◌, ℕ, ◌^◌, Bool, true, false, inl, inr, List, [], ◌∷◌, ◌++◌, map, flat_map, length, Option, Some, None, option_map, refl, sym, ap, subst, ◌∙◌}
use Rattle.std.specs.Prelude.{Ok, Err, ◌==◌, ◌&&◌, if◌then◌else◌, codes, unwrap_or}
use Rattle.std.specs.Option.{option_map_or, option_to_list, is_some}
use Rattle.std.specs.Str.{bytes_eq}
use Rattle.std.proofs.lemmas.Bool.{false≢true, and_parts, and_from}
use Rattle.std.proofs.lemmas.Bool.Decides.{Decides-eqb}
use Rattle.std.proofs.lemmas.Option.{same_Some}
use Rattle.std.proofs.lemmas.Slice.Eq.{bytes_eq-Decides}
use Rattle.words.specs.Members.{In}
use Rattle.words.specs.Firsts.{or_else, first_fault}
use Rattle.patterns.specs.Bits.{Bits}
use Rattle.records.specs.Profile.{Take, TakeWire, TakeNotWire, TakeZero, TakeOne, TakeOff, TakeIn, TakeOut, Choice, Require, TableKind, RegisterKind, SliceKind, PadKind, Profile}
use Rattle.records.specs.Side.{Placed, Triple, Side}
use Rattle.links.proofs.Members.{in_left, in_right, in_either, in_map, of_map, in_flat_map, of_flat_map}
use Rattle.fabric.specs.Graph.{Graph}
use Rattle.fabric.specs.Values.{word_at, value_at}
use Rattle.circuit.specs.Cells.{Cells}
use Rattle.cells.specs.Sites.{Site, slice_site, pad_site, settings_at, unnamed_pads}
use Rattle.cells.specs.Takes.{take_at, suits, takes_out}
use Rattle.cells.specs.Resolved.{role_of}
use Rattle.cells.specs.Readings.{Reading, require_reading, table_reading, choice_reading, choices_of, register_readings, slice_readings, pad_reading, unnamed_reading, slices_of, pads_of, readings}
use Rattle.cells.specs.Faults.{CellFault, UnknownSite, ShapeDiffers, Unmodelled, UnnamedPad, site_fault, site_of_slice, shaped_alike, shape_fault, value_fault, unnamed_fault, cell_fault}
use Rattle.cells.specs.Accepted.{SliceModelled, ShapedAlike, TripleAlike, PadIsQuiet, CellsAreAccepted, IsRefused}
use Rattle.cells.specs.CellsOf.{unless, slice_cells, pad_cells, cells_of}
use Rattle.cells_laws.proofs.Options.{tested_from, tested_to, or_none, none_or, or_some, none_each, each_none, some_one}
use Rattle.cells_laws.proofs.NameOrder.{ordered_from, ordered_to}
use Rattle.cells_laws.proofs.Shapes.{equal_shape_exact}

-- a fault that is named unless a test passes, or where one does
unless_none : {E : Type 0} (b : Bool) (e : E) → (if b then None else Some e) ≡ None → b ≡ true
unless_none true e h = refl
unless_none false e h = absurd (let no : ⊥ = cc in no)

none_unless : {E : Type 0} (b : Bool) (e : E) → b ≡ true → (if b then None else Some e) ≡ None
none_unless true e h = refl
none_unless false e h = absurd (false≢true h)

unless_some : {E : Type 0} (b : Bool) (e x : E) → (if b then None else Some e) ≡ Some x → (b ≡ false) × (e ≡ x)
unless_some true e x h = absurd (let no : ⊥ = cc in no)
unless_some false e x h = (refl, same_Some e x h)

where_none : {E : Type 0} (b : Bool) (e : E) → (if b then Some e else None) ≡ None → b ≡ false
where_none true e h = absurd (let no : ⊥ = cc in no)
where_none false e h = refl

none_where : {E : Type 0} (b : Bool) (e : E) → b ≡ false → (if b then Some e else None) ≡ None
none_where true e h = absurd (false≢true (sym h))
none_where false e h = refl

where_some : {E : Type 0} (b : Bool) (e x : E) → (if b then Some e else None) ≡ Some x → (b ≡ true) × (e ≡ x)
where_some true e x h = (refl, same_Some e x h)
where_some false e x h = absurd (let no : ⊥ = cc in no)

is_there : {X : Type 0} (o : Option X) → is_some o ≡ true → (x : X) × (o ≡ Some x)
is_there None h = absurd (false≢true h)
is_there (Some x) h = (x, refl)

there_is : {X : Type 0} (o : Option X) (x : X) → o ≡ Some x → is_some o ≡ true
there_is o x e = subst (λ p. is_some p ≡ true) (sym e) refl

-- a take that drives out of the fabric
out_is : (t : Take) → takes_out t ≡ true → t ≡ TakeOut
out_is (TakeWire name) h = absurd (false≢true h)
out_is (TakeNotWire name) h = absurd (false≢true h)
out_is TakeZero h = absurd (false≢true h)
out_is TakeOne h = absurd (false≢true h)
out_is TakeOff h = absurd (false≢true h)
out_is TakeIn h = absurd (false≢true h)
out_is TakeOut h = refl

not_out : (t : Take) → t ≢ TakeOut → takes_out t ≡ false
not_out t n = go (takes_out t) refl
  where
    go : (b : Bool) → takes_out t ≡ b → takes_out t ≡ false
    go true e = absurd (n (out_is t e))
    go false e = e

site_known : {K : Type 0} (name : List ℕ) (o : Option (Site K)) → site_fault name o ≡ None → (s : Site K) × (o ≡ Some s)
site_known name None h = absurd (let no : ⊥ = cc in no)
site_known name (Some s) h = (s, refl)

known_site : {K : Type 0} (name : List ℕ) (o : Option (Site K)) (s : Site K) → o ≡ Some s → site_fault name o ≡ None
known_site name o s e = subst (λ p. site_fault name p ≡ None) (sym e) refl

site_unknown : {K : Type 0} (name : List ℕ) (o : Option (Site K)) (e : CellFault) → site_fault name o ≡ Some e → (o ≡ None) × (UnknownSite name ≡ e)
site_unknown name None e h = (refl, same_Some (UnknownSite name) e h)
site_unknown name (Some s) e h = absurd (let no : ⊥ = cc in no)

module _ (g : Graph) (profile : Profile) (side : Side) where
  abbrev site : List ℕ → Option (Site SliceKind)
  site name = site_of_slice g profile side name

  -- both sites are there, and alike
  alike_from : (a b : Option (Site SliceKind)) → shaped_alike g a b ≡ true → (s t : Site SliceKind) × ((a ≡ Some s) × ((b ≡ Some t) × ShapedAlike g s t))
  alike_from None b h = absurd (false≢true h)
  alike_from (Some s) None h = absurd (false≢true h)
  alike_from (Some s) (Some t) h = (s, t, (refl, (refl, (equal_shape_exact (settings_at g s) s.kind (settings_at g t) t.kind).0 h)))

  alike_to : (a b : Option (Site SliceKind)) (s t : Site SliceKind) → a ≡ Some s → b ≡ Some t → ShapedAlike g s t → shaped_alike g a b ≡ true
  alike_to a b s t e f h = subst (λ o. shaped_alike g o b ≡ true) (sym e) (subst (λ o. shaped_alike g (Some s) o ≡ true) (sym f) ((equal_shape_exact (settings_at g s) s.kind (settings_at g t) t.kind).1 h))

  triple_from : (t : Triple) → shaped_alike g (site t.first) (site t.second) ≡ true → shaped_alike g (site t.first) (site t.third) ≡ true → TripleAlike g profile side t
  triple_from t h k =
      let a = alike_from (site t.first) (site t.second) h in
      let b = alike_from (site t.first) (site t.third) k in
      let same : b.0 ≡ a.0 = same_Some b.0 a.0 (sym b.2.0 ∙ a.2.0) in
      record {
        first = a.0;
        second = a.1;
        third = b.1;
        at_first = a.2.0;
        at_second = a.2.1.0;
        at_third = b.2.1.0;
        second_alike = a.2.1.1;
        third_alike = subst (λ s. ShapedAlike g s b.1) same b.2.1.1;
      }

  abbrev triple_test : Triple → Bool
  triple_test t = shaped_alike g (site t.first) (site t.second) && shaped_alike g (site t.first) (site t.third)

  pub triple_tested : (t : Triple) → triple_test t ≡ true → TripleAlike g profile side t
  triple_tested t h = let parts = and_parts (shaped_alike g (site t.first) (site t.second)) (shaped_alike g (site t.first) (site t.third)) h in triple_from t parts.0 parts.1

  pub triple_to : (t : Triple) → TripleAlike g profile side t → triple_test t ≡ true
  triple_to t h = and_from (shaped_alike g (site t.first) (site t.second)) (shaped_alike g (site t.first) (site t.third))
      (alike_to (site t.first) (site t.second) h.first h.second h.at_first h.at_second h.second_alike)
      (alike_to (site t.first) (site t.third) h.first h.third h.at_first h.at_third h.third_alike)

module _ (g : Graph) (profile : Profile) (image : Bits) (side : Side) where
  -- the settings of a slice, in the order in which they are read
  module _ (p : Placed) (s : Site SliceKind) where
    abbrev requires : List Reading
    requires = map (require_reading g image p.name s.number) s.kind.require

    abbrev tables : List Reading
    tables = map (table_reading g image p.name s.number) s.kind.tables

    abbrev registers : List Reading
    registers = flat_map (register_readings g image p.name s.number) s.kind.registers

    -- where each setting that is read for a slice is modelled, its settings are
    modelled_from : ((r : Reading) → In (slice_readings g image p s) r → r.modelled ≡ true) → SliceModelled g image s
    modelled_from h = record { required = required; words = words; choices = choices }
      where
        required : (r : Require) → In s.kind.require r → value_at g image s.number r.setting ≡ Some r.value
        required r i =
            let x = require_reading g image p.name s.number r in
            let here = in_left (requires ++ tables) registers x (in_left requires tables x (in_map (require_reading g image p.name s.number) s.kind.require r i)) in
            let v = tested_from (bytes_eq r.value) (value_at g image s.number r.setting) (h x here) in
            v.1.0 ∙ ap (λ w. Some w) (sym ((bytes_eq-Decides r.value v.0).0 v.1.1))

        words : (t : TableKind) → In s.kind.tables t → (bits : List Bool) × ((word_at g image s.number t.word ≡ Some bits) × (length bits ≡ 2 ^ length t.pins))
        words t i =
            let x = table_reading g image p.name s.number t in
            let here = in_left (requires ++ tables) registers x (in_right requires tables x (in_map (table_reading g image p.name s.number) s.kind.tables t i)) in
            let v = tested_from (λ bits. length bits == 2 ^ length t.pins) (word_at g image s.number t.word) (h x here) in
            (v.0, (v.1.0, (Decides-eqb (length v.0) (2 ^ length t.pins)).0 v.1.1))

        choices : (r : RegisterKind) (c : Choice) → In s.kind.registers r → In (choices_of r) c → (t : Take) × (take_at g image s.number c ≡ Some t)
        choices r c i j =
            let x = choice_reading g image p.name s.number c in
            let here = in_flat_map (register_readings g image p.name s.number) s.kind.registers r x i (in_map (choice_reading g image p.name s.number) (choices_of r) c j) in
            is_there (take_at g image s.number c) (h x (in_right (requires ++ tables) registers x here))

    modelled_to : SliceModelled g image s → (r : Reading) → In (slice_readings g image p s) r → r.modelled ≡ true
    modelled_to h r i = elim (in_either (requires ++ tables) registers r i) [
      | inl j ↦ elim (in_either requires tables r j) [ inl k ↦ of_require k | inr k ↦ of_table k ]
      | inr j ↦ of_register j
    ]
      where
        of_require : In requires r → r.modelled ≡ true
        of_require k =
            let q = of_map (require_reading g image p.name s.number) s.kind.require r k in
            ap (λ x. x.modelled) (sym q.1.1)
            ∙ tested_to (bytes_eq q.0.value) (value_at g image s.number q.0.setting) q.0.value (h.required q.0 q.1.0) ((bytes_eq-Decides q.0.value q.0.value).1 refl)

        of_table : In tables r → r.modelled ≡ true
        of_table k =
            let q = of_map (table_reading g image p.name s.number) s.kind.tables r k in
            let w = h.words q.0 q.1.0 in
            ap (λ x. x.modelled) (sym q.1.1)
            ∙ tested_to (λ bits. length bits == 2 ^ length q.0.pins) (word_at g image s.number q.0.word) w.0 w.1.0 ((Decides-eqb (length w.0) (2 ^ length q.0.pins)).1 w.1.1)

        of_register : In registers r → r.modelled ≡ true
        of_register k =
            let q = of_flat_map (register_readings g image p.name s.number) s.kind.registers r k in
            let c = of_map (choice_reading g image p.name s.number) (choices_of q.0) r q.1.1 in
            let t = h.choices q.0 c.0 q.1.0 c.1.0 in
            ap (λ x. x.modelled) (sym c.1.1) ∙ there_is (take_at g image s.number c.0) t.0 t.1

  abbrev of_slices : List Reading
  of_slices = flat_map (λ p. option_map_or (slice_readings g image p) (slice_site g profile p) []) (slices_of side)

  abbrev of_pads : List Reading
  of_pads = flat_map (λ p. option_to_list (option_map (pad_reading g image side p) (pad_site g profile p))) (pads_of side)

  abbrev of_unnamed : List Reading
  of_unnamed = map (unnamed_reading g image) (unnamed_pads g profile side)

  module _ (modelled : (r : Reading) → In (readings g profile image side) r → r.modelled ≡ true) where
    slice_modelled : (p : Placed) (s : Site SliceKind) → In side.slices p → slice_site g profile p ≡ Some s → SliceModelled g image s
    slice_modelled p s i e = modelled_from p s (λ r j. modelled r (in_left (of_slices ++ of_pads) of_unnamed r (in_left of_slices of_pads r
        (in_flat_map (λ p. option_map_or (slice_readings g image p) (slice_site g profile p) []) (slices_of side) p r (ordered_to (λ p. p.name) side.slices p i)
        (subst (λ o. In (option_map_or (slice_readings g image p) o []) r) (sym e) j)))))

    pad_suits : (p : Placed) (s : Site PadKind) → In side.pads p → pad_site g profile p ≡ Some s
        → (t : Take) × ((take_at g image s.number s.kind.mode ≡ Some t) × (suits (role_of side p.name) t ≡ true))
    pad_suits p s i e =
        let r = pad_reading g image side p s in
        tested_from (suits (role_of side p.name)) (take_at g image s.number s.kind.mode) (modelled r (in_left (of_slices ++ of_pads) of_unnamed r (in_right of_slices of_pads r
        (in_flat_map (λ p. option_to_list (option_map (pad_reading g image side p) (pad_site g profile p))) (pads_of side) p r (ordered_to (λ p. p.name) side.pads p i)
        (subst (λ o. In (option_to_list (option_map (pad_reading g image side p) o)) r) (sym e) (inl refl))))))

    has_mode : (s : Site PadKind) → In (unnamed_pads g profile side) s → (t : Take) × (take_at g image s.number s.kind.mode ≡ Some t)
    has_mode s i =
        let r = unnamed_reading g image s in
        is_there (take_at g image s.number s.kind.mode) (modelled r (in_right (of_slices ++ of_pads) of_unnamed r (in_map (unnamed_reading g image) (unnamed_pads g profile side) s i)))

  all_modelled : CellsAreAccepted g profile image side → (r : Reading) → In (readings g profile image side) r → r.modelled ≡ true
  all_modelled h r i = elim (in_either (of_slices ++ of_pads) of_unnamed r i) [
    | inl j ↦ elim (in_either of_slices of_pads r j) [ inl k ↦ of_slice k | inr k ↦ of_pad k ]
    | inr j ↦ of_unnamed_pad j
  ]
    where
      of_slice : In of_slices r → r.modelled ≡ true
      of_slice k =
          let q = of_flat_map (λ p. option_map_or (slice_readings g image p) (slice_site g profile p) []) (slices_of side) r k in
          let s = h.slices q.0 (ordered_from (λ p. p.name) side.slices q.0 q.1.0) in
          modelled_to q.0 s.0 s.1.1 r (subst (λ o. In (option_map_or (slice_readings g image q.0) o []) r) s.1.0 q.1.1)

      of_pad : In of_pads r → r.modelled ≡ true
      of_pad k =
          let q = of_flat_map (λ p. option_to_list (option_map (pad_reading g image side p) (pad_site g profile p))) (pads_of side) r k in
          let s = h.pads q.0 (ordered_from (λ p. p.name) side.pads q.0 q.1.0) in
          let here : In (pad_reading g image side q.0 s.0 ∷ []) r = subst (λ o. In (option_to_list (option_map (pad_reading g image side q.0) o)) r) s.1.0 q.1.1 in
          elim here [
            | inl e ↦ ap (λ x. x.modelled) (sym e) ∙ tested_to (suits (role_of side q.0.name)) (take_at g image s.0.number s.0.kind.mode) s.1.1.0 s.1.1.1.0 s.1.1.1.1
            | inr none ↦ absurd none
          ]

      of_unnamed_pad : In of_unnamed r → r.modelled ≡ true
      of_unnamed_pad k =
          let q = of_map (unnamed_reading g image) (unnamed_pads g profile side) r k in
          let t = h.unnamed q.0 q.1.0 in
          ap (λ x. x.modelled) (sym q.1.1) ∙ there_is (take_at g image q.0.number q.0.kind.mode) t.0 t.1.0

  -- the five conditions in their order
  abbrev slice_part : Option CellFault
  slice_part = first_fault (λ before p. site_fault p.name (slice_site g profile p)) (slices_of side)

  abbrev pad_part : Option CellFault
  pad_part = first_fault (λ before p. site_fault p.name (pad_site g profile p)) (pads_of side)

  abbrev shape_part : Option CellFault
  shape_part = first_fault (λ before t. shape_fault g profile side t) side.triples

  abbrev value_part : Option CellFault
  value_part = first_fault (λ before r. value_fault r) (readings g profile image side)

  abbrev unnamed_part : Option CellFault
  unnamed_part = first_fault (λ before s. unnamed_fault g image s) (unnamed_pads g profile side)

  pub none_accepted : cell_fault g profile image side ≡ None → CellsAreAccepted g profile image side
  none_accepted h =
      let a = or_none slice_part (or_else pad_part (or_else shape_part (or_else value_part unnamed_part))) h in
      let b = or_none pad_part (or_else shape_part (or_else value_part unnamed_part)) a.1 in
      let c = or_none shape_part (or_else value_part unnamed_part) b.1 in
      let d = or_none value_part unnamed_part c.1 in
      let modelled = values d.0 in
      record {
        slices = λ p i. (let s = site_known p.name (slice_site g profile p) (none_each (λ p. site_fault p.name (slice_site g profile p)) [] (slices_of side) a.0 p (ordered_to (λ p. p.name) side.slices p i)) in
            (s.0, (s.1, slice_modelled modelled p s.0 i s.1)));
        pads = λ p i. (let s = site_known p.name (pad_site g profile p) (none_each (λ p. site_fault p.name (pad_site g profile p)) [] (pads_of side) b.0 p (ordered_to (λ p. p.name) side.pads p i)) in
            (s.0, (s.1, pad_suits modelled p s.0 i s.1)));
        shapes = λ t i. triple_tested g profile side t (unless_none (triple_test g profile side t) (ShapeDiffers t.first) (none_each (shape_fault g profile side) [] side.triples c.0 t i));
        unnamed = λ s i. quiet s (has_mode modelled s i) (none_each (unnamed_fault g image) [] (unnamed_pads g profile side) d.1 s i);
      }
    where
      values : value_part ≡ None → (r : Reading) → In (readings g profile image side) r → r.modelled ≡ true
      values h r i = unless_none r.modelled (Unmodelled r.cell r.setting (unwrap_or r.value (codes "?"))) (none_each value_fault [] (readings g profile image side) h r i)

      quiet : (s : Site PadKind) → (t : Take) × (take_at g image s.number s.kind.mode ≡ Some t) → unnamed_fault g image s ≡ None → PadIsQuiet g image s
      quiet s t h = (
        t.0,
        (
          t.1,
          λ e. false≢true (sym (where_none (option_map_or takes_out (take_at g image s.number s.kind.mode) false) (UnnamedPad s.tile.name s.kind.name) h)
              ∙ tested_to takes_out (take_at g image s.number s.kind.mode) t.0 t.1 (subst (λ u. takes_out u ≡ true) (sym e) refl)),
        ),
      )

  pub accepted_none : CellsAreAccepted g profile image side → cell_fault g profile image side ≡ None
  accepted_none h =
      none_or slice_part (or_else pad_part (or_else shape_part (or_else value_part unnamed_part)))
      (each_none (λ p. site_fault p.name (slice_site g profile p)) [] (slices_of side) (λ p i. (let s = h.slices p (ordered_from (λ p. p.name) side.slices p i) in known_site p.name (slice_site g profile p) s.0 s.1.0)))
      (none_or pad_part (or_else shape_part (or_else value_part unnamed_part))
      (each_none (λ p. site_fault p.name (pad_site g profile p)) [] (pads_of side) (λ p i. (let s = h.pads p (ordered_from (λ p. p.name) side.pads p i) in known_site p.name (pad_site g profile p) s.0 s.1.0)))
      (none_or shape_part (or_else value_part unnamed_part)
      (each_none (shape_fault g profile side) [] side.triples (λ t i. none_unless (triple_test g profile side t) (ShapeDiffers t.first) (triple_to g profile side t (h.shapes t i))))
      (none_or value_part unnamed_part
      (each_none value_fault [] (readings g profile image side) (λ r i. none_unless r.modelled (Unmodelled r.cell r.setting (unwrap_or r.value (codes "?"))) (all_modelled h r i)))
      (each_none (unnamed_fault g image) [] (unnamed_pads g profile side) quiet))))
    where
      quiet : (s : Site PadKind) → In (unnamed_pads g profile side) s → unnamed_fault g image s ≡ None
      quiet s i = let t = h.unnamed s i in none_where (option_map_or takes_out (take_at g image s.number s.kind.mode) false) (UnnamedPad s.tile.name s.kind.name)
          (subst (λ o. option_map_or takes_out o false ≡ false) (sym t.1.0) (not_out t.0 t.1.1))

  pub some_refused : (e : CellFault) → cell_fault g profile image side ≡ Some e → IsRefused g profile image side e
  some_refused e h = elim (or_some slice_part (or_else pad_part (or_else shape_part (or_else value_part unnamed_part))) e h) [
    | inl a ↦ (let r = some_one (λ p. site_fault p.name (slice_site g profile p)) [] (slices_of side) e a in
        let u = site_unknown r.0.name (slice_site g profile r.0) e r.1.1 in
        subst (IsRefused g profile image side) u.1 (r.0, (refl, inl (ordered_from (λ p. p.name) side.slices r.0 r.1.0, u.0))))
    | inr k ↦ elim (or_some pad_part (or_else shape_part (or_else value_part unnamed_part)) e k) [
      | inl a ↦ (let r = some_one (λ p. site_fault p.name (pad_site g profile p)) [] (pads_of side) e a in
          let u = site_unknown r.0.name (pad_site g profile r.0) e r.1.1 in
          subst (IsRefused g profile image side) u.1 (r.0, (refl, inr (ordered_from (λ p. p.name) side.pads r.0 r.1.0, u.0))))
      | inr l ↦ elim (or_some shape_part (or_else value_part unnamed_part) e l) [
        | inl a ↦ (let r = some_one (shape_fault g profile side) [] side.triples e a in
            let u = unless_some (triple_test g profile side r.0) (ShapeDiffers r.0.first) e r.1.1 in
            subst (IsRefused g profile image side) u.1 (r.0, (r.1.0, (refl, λ t. false≢true (sym u.0 ∙ triple_to g profile side r.0 t)))))
        | inr m ↦ elim (or_some value_part unnamed_part e m) [
          | inl a ↦ (let r = some_one value_fault [] (readings g profile image side) e a in
              let u = unless_some r.0.modelled (Unmodelled r.0.cell r.0.setting (unwrap_or r.0.value (codes "?"))) e r.1.1 in
              subst (IsRefused g profile image side) u.1 (r.0, (r.1.0, (u.0, (refl, (refl, refl))))))
          | inr a ↦ (let r = some_one (unnamed_fault g image) [] (unnamed_pads g profile side) e a in
              let u = where_some (option_map_or takes_out (take_at g image r.0.number r.0.kind.mode) false) (UnnamedPad r.0.tile.name r.0.kind.name) e r.1.1 in
              let t = tested_from takes_out (take_at g image r.0.number r.0.kind.mode) u.0 in
              subst (IsRefused g profile image side) u.1 (r.0, (r.1.0, (refl, (refl, t.1.0 ∙ ap (λ x. Some x) (out_is t.0 t.1.1))))))
        ]
      ]
    ]
  ]

-- what stands unless there is a fault
pub ok_from : {X E : Type 0} (o : Option E) (x y : X) → unless o x ≡ Ok y → (o ≡ None) × (x ≡ y)
ok_from None x y h = (refl, let same : x ≡ y = cc in same)
ok_from (Some e) x y h = absurd (let no : ⊥ = cc in no)

ok_to : {X E : Type 0} (o : Option E) (x : X) → o ≡ None → unless o x ≡ Ok x
ok_to o x e = subst (λ p. unless p x ≡ Ok x) (sym e) refl

err_from : {X E : Type 0} (o : Option E) (x : X) (e : E) → unless o x ≡ Err e → o ≡ Some e
err_from None x e h = absurd (let no : ⊥ = cc in no)
err_from (Some f) x e h = let same : f ≡ e = cc in ap (λ z. Some z) same

abbrev all_cells : Graph → Profile → Bits → Side → Cells
all_cells g profile image side = record { slices = slice_cells g profile image side; pads = pad_cells g profile side }

pub accepted_cells : (g : Graph) (profile : Profile) (image : Bits) (side : Side) → CellsAreAccepted g profile image side → cells_of g profile image side ≡ Ok (all_cells g profile image side)
accepted_cells g profile image side h = ok_to (cell_fault g profile image side) (all_cells g profile image side) (accepted_none g profile image side h)

pub cells_accepted : (g : Graph) (profile : Profile) (image : Bits) (side : Side) (cells : Cells) → cells_of g profile image side ≡ Ok cells → CellsAreAccepted g profile image side
cells_accepted g profile image side cells h = none_accepted g profile image side (ok_from (cell_fault g profile image side) (all_cells g profile image side) cells h).0

pub cells_refused : (g : Graph) (profile : Profile) (image : Bits) (side : Side) (e : CellFault) → cells_of g profile image side ≡ Err e → IsRefused g profile image side e
cells_refused g profile image side e h = some_refused g profile image side e (err_from (cell_fault g profile image side) (all_cells g profile image side) e h)
