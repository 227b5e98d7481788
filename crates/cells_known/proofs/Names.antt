-- The slices of a side file that is read, and its pads, stand in strict byte order of their names.
use Rattle.std.proofs.Common.{◌≡◌, ◌≢◌, ℕ, zero, suc, ◌<◌, ◌⊎◌, inl, inr, List, [], ◌∷◌, ◌++◌, map, Some, refl, sym, ap, subst, ◌∙◌, arith}
use Rattle.std.specs.Prelude.{Ok, slice_get, option_map}
use Rattle.std.specs.declared.cmp.Ordering.{Ordering}
use Rattle.std.specs.declared.cmp.Ordering.TheVariants.{Less, Equal, Greater}
use Rattle.std.specs.Ordering.{is_eq, match_ordering}
use Rattle.std.proofs.lemmas.List.{map-append}
use Rattle.std.proofs.lemmas.Simd.{map-map}
use Rattle.std.proofs.lemmas.Map.Text.{is_eq-slice_cmp}
use Rattle.std.proofs.lemmas.Option.{same_Some, slice_get-map}
use Rattle.std.proofs.lemmas.Slice.Eq.{bytes_eq-Decides}
use Rattle.words.specs.Members.{In}
use Rattle.words.specs.Ordered.{put_in_order, in_order, IsInOrder}
use Rattle.words.specs.Twice.{HasNoneTwice}
use Rattle.patterns.specs.Bits.{Bits}
use Rattle.records.specs.Profile.{Profile}
use Rattle.records.specs.Side.{Placed, Side}
use Rattle.fabric.specs.Graph.{Graph}
use Rattle.fabric.specs.InOrder.{IsRising}
use Rattle.fabric.specs.Wires.{name_cmp}
use Rattle.circuit.specs.Cells.{SliceCell, PadCell, Cells}
use Rattle.circuit.specs.Designs.{placed_members}
use Rattle.circuit.specs.Triples.{Member}
use Rattle.cells.specs.CellsOf.{cells_of}
use Rattle.cells.specs.Readings.{slices_of, pads_of}
use Rattle.links.proofs.Members.{in_map, of_map}
use Rattle.fabric_laws.proofs.Numbered.{get_in}
use Rattle.cells_laws.proofs.NameOrder.{ordered_from, name_order}
use Rattle.cells_laws.proofs.Named.{slice_names, pad_names}
use Rattle.formed_laws.specs.Readers.{IsReadSide}
use Rattle.formed_laws.specs.SideRead.{placed_cells, IsApart}
use Rattle.formed_laws.proofs.SideRead.{read_apart}
use Rattle.formed_laws.proofs.Twice.{left_part, right_part}
use Rattle.net_order.specs.Orders.{AreInNameOrder}

-- a name that is another one and doesn't come after a second comes before it
before : (a b : List ℕ) → name_cmp a b ≢ Greater → a ≢ b → name_cmp a b ≡ Less
before a b not_after apart = go (name_cmp a b) refl
  where
    go : (o : Ordering) → name_cmp a b ≡ o → name_cmp a b ≡ Less
    go Less e = e
    go Greater e = absurd (not_after e)
    go Equal e = absurd (apart ((bytes_eq-Decides a b).0 (sym (is_eq-slice_cmp a b) ∙ ap is_eq e)))

module _ {X : Type 0} (name : X → List ℕ) where
  -- the names of elements that are put in order
  put_name : (x : X) (ys : List X) (n : List ℕ) → In (map name (put_in_order name x ys)) n → (name x ≡ n) ⊎ In (map name ys) n
  put_name x [] n i = i
  put_name x (y ∷ ys) n i = go (name_cmp (name x) (name y)) i (put_name x ys n)
    where
      go : (o : Ordering) → In (map name (match_ordering o (x ∷ y ∷ ys) (x ∷ y ∷ ys) (y ∷ put_in_order name x ys))) n
          → (In (map name (put_in_order name x ys)) n → (name x ≡ n) ⊎ In (map name ys) n) → (name x ≡ n) ⊎ In (map name (y ∷ ys)) n
      go Less k ih = k
      go Equal k ih = k
      go Greater k ih = elim k [ inl e ↦ inr (inl e) | inr j ↦ elim (ih j) [ inl e ↦ inl e | inr l ↦ inr (inr l) ] ]

  put_once : (x : X) (ys : List X) → HasNoneTwice (map name (x ∷ ys)) → HasNoneTwice (map name (put_in_order name x ys))
  put_once x [] h = h
  put_once x (y ∷ ys) h = go (name_cmp (name x) (name y)) (put_once x ys ((λ i. h.0 (inr i)), h.1.1))
    where
      go : (o : Ordering) → HasNoneTwice (map name (put_in_order name x ys)) → HasNoneTwice (map name (match_ordering o (x ∷ y ∷ ys) (x ∷ y ∷ ys) (y ∷ put_in_order name x ys)))
      go Less ih = h
      go Equal ih = h
      go Greater ih = ((λ i. elim (put_name x ys (name y) i) [ inl e ↦ h.0 (inl (sym e)) | inr j ↦ h.1.0 j ]), ih)

  ordered_name : (xs : List X) (n : List ℕ) → In (map name (in_order name xs)) n → In (map name xs) n
  ordered_name xs n i =
      let r = of_map name (in_order name xs) n i in
      subst (In (map name xs)) r.1.1 (in_map name xs r.0 (ordered_from name xs r.0 r.1.0))

  ordered_once : (xs : List X) → HasNoneTwice (map name xs) → HasNoneTwice (map name (in_order name xs))
  ordered_once [] h = tt
  ordered_once (x ∷ xs) h = put_once x (in_order name xs) ((λ i. h.0 (ordered_name xs (name x) i)), ordered_once xs h.1)

  strictly : (xs : List X) → IsInOrder name xs → HasNoneTwice (map name xs) → IsRising name_cmp (map name xs)
  strictly [] r h = tt
  strictly (x ∷ xs) r h = (first, strictly xs r.1 h.1)
    where
      first : (n : List ℕ) → In (map name xs) n → name_cmp (name x) n ≡ Less
      first n i =
          let g = of_map name xs n i in
          subst (λ m. name_cmp (name x) m ≡ Less) g.1.1 (before (name x) (name g.0) (r.0 g.0 g.1.0) (λ e. h.0 (subst (In (map name xs)) (sym e) (in_map name xs g.0 g.1.0))))

  names_rise : (xs : List X) → HasNoneTwice (map name xs) → IsRising name_cmp (map name (in_order name xs))
  names_rise xs h = strictly (in_order name xs) (name_order name xs) (ordered_once xs h)

-- elements at two numbers of a rising list
rising_at : (ns : List (List ℕ)) → IsRising name_cmp ns → (i j : ℕ) (a b : List ℕ) → i < j → slice_get ns i ≡ Some a → slice_get ns j ≡ Some b → name_cmp a b ≡ Less
rising_at [] r i j a b less ea eb = absurd (let no : ⊥ = cc in no)
rising_at (n ∷ ns) r zero zero a b less ea eb = absurd (let no : ⊥ = omega arith in no)
rising_at (n ∷ ns) r zero (suc j) a b less ea eb = subst (λ m. name_cmp m b ≡ Less) (same_Some n a ea) (r.0 b (get_in ns j b eb))
rising_at (n ∷ ns) r (suc i) zero a b less ea eb = absurd (let no : ⊥ = omega arith in no)
rising_at (n ∷ ns) r (suc i) (suc j) a b less ea eb = rising_at ns r.1 i j a b (omega arith) ea eb

names_of_members : (ps : List Placed) → map (λ (m : Member). m.name) (placed_members ps) ≡ map (λ (p : Placed). p.name) ps
names_of_members ps = map-map (λ (m : Member). m.name) (λ (p : Placed). let m : Member = record { name = p.name; domain = p.domain } in m) ps

module _ (g : Graph) (profile : Profile) (image : Bits) (side : Side) (cells : Cells) (read : IsReadSide side) (made : cells_of g profile image side ≡ Ok cells) where
  pub apart : IsApart side
  apart = read_apart side read

  both_once : HasNoneTwice (map (λ (p : Placed). p.name) side.slices ++ map (λ (p : Placed). p.name) side.pads)
  both_once = subst HasNoneTwice (map-append (λ (p : Placed). p.name) side.slices side.pads) apart.names

  slice_names_are : map (λ (s : SliceCell). s.name) cells.slices ≡ map (λ (p : Placed). p.name) (slices_of side)
  slice_names_are =
      sym (map-map (λ (m : Member). m.name) (λ (s : SliceCell). let m : Member = record { name = s.name; domain = s.domain } in m) cells.slices)
      ∙ (ap (map (λ (m : Member). m.name)) (slice_names g profile image side cells made) ∙ names_of_members (slices_of side))

  pad_names_are : map (λ (p : PadCell). p.name) cells.pads ≡ map (λ (p : Placed). p.name) (pads_of side)
  pad_names_are =
      sym (map-map (λ (m : Member). m.name) (λ (p : PadCell). let m : Member = record { name = p.name; domain = p.domain } in m) cells.pads)
      ∙ (ap (map (λ (m : Member). m.name)) (pad_names g profile image side cells made) ∙ names_of_members (pads_of side))

  pub slices_rise : IsRising name_cmp (map (λ (s : SliceCell). s.name) cells.slices)
  slices_rise = subst (IsRising name_cmp) (sym slice_names_are)
      (names_rise (λ (p : Placed). p.name) side.slices (left_part (map (λ (p : Placed). p.name) side.slices) (map (λ (p : Placed). p.name) side.pads) both_once))

  pub pads_rise : IsRising name_cmp (map (λ (p : PadCell). p.name) cells.pads)
  pads_rise = subst (IsRising name_cmp) (sym pad_names_are)
      (names_rise (λ (p : Placed). p.name) side.pads (right_part (map (λ (p : Placed). p.name) side.slices) (map (λ (p : Placed). p.name) side.pads) both_once))

  named : (i : ℕ) (s : SliceCell) → slice_get cells.slices i ≡ Some s → slice_get (map (λ (u : SliceCell). u.name) cells.slices) i ≡ Some s.name
  named i s e = slice_get-map (λ (u : SliceCell). u.name) cells.slices i ∙ ap (option_map (λ (u : SliceCell). u.name)) e

  pub in_name_order : AreInNameOrder cells
  in_name_order = record {
    rises = λ i j s u less es eu. rising_at (map (λ (v : SliceCell). v.name) cells.slices) slices_rise i j s.name u.name less (named i s es) (named j u eu);
  }
