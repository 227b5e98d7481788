-- What muxes by numbers are in the graph of their device.
use Rattle.std.proofs.Common.{◌≡◌, ℕ, zero, suc, List, [], ◌∷◌, length, get_or, map, Option, Some, refl, sym, ap, subst, ◌∙◌, arith}
use Rattle.std.specs.Prelude.{slice_get}
use Rattle.std.proofs.lemmas.List.{length-map}
use Rattle.std.proofs.lemmas.Option.{slice_get-get_or}
use Rattle.words.specs.Members.{In}
use Rattle.records.specs.Grid.{origin_of}
use Rattle.fabric.specs.Device.{Device}
use Rattle.fabric.specs.Graph.{GraphMux, Graph}
use Rattle.fabric.specs.GraphOf.{IsGraph, muxes_of}
use Rattle.fabric_laws.proofs.Numbered.{get_in}
use Rattle.mux_rows.specs.MuxTable.{MuxNumbers}
use Rattle.graph_numbers.specs.Numbers.{mux_numbers}
use Rattle.graph_numbers.specs.StandFor.{mux_of}
use Rattle.graph_numbers.proofs.Numbered.{muxes_stand}
use Rattle.record_laws.proofs.MuxOf.{MuxOf, Numbered, what_it_is, below_of}

-- where each element of a list stands for one of another, that of a place stands for that of the place
pub stands_at : {A B : Type 0} (G : A → Option B) (xs : List A) (ys : List B) → map G xs ≡ map (λ y. Some y) ys → (i : ℕ) (x : A) → slice_get xs i ≡ Some x → G x ≡ slice_get ys i
stands_at G [] ys h i x at = absurd (let no : ⊥ = cc in no)
stands_at G (z ∷ xs) [] h i x at = absurd (let no : ⊥ = cc in no)
stands_at G (z ∷ xs) (y ∷ ys) h zero x at =
    let same : z ≡ x = cc in
    let first : G z ≡ Some y = cc in
    ap G (sym same) ∙ first
stands_at G (z ∷ xs) (y ∷ ys) h (suc i) x at =
    let rest : map G xs ≡ map (λ v. Some v) ys = cc in
    stands_at G xs ys rest i x at

pub as_long : {A B : Type 0} (G : A → Option B) (xs : List A) (ys : List B) → map G xs ≡ map (λ y. Some y) ys → length xs ≡ length ys
as_long G xs ys h = sym (length-map xs G) ∙ (ap (λ l. length l) h ∙ length-map ys (λ y. Some y))

module _ (device : Device) (g : Graph) (is : IsGraph device g) (muxes : List MuxNumbers) (are : muxes ≡ mux_numbers device g.wires) where
  abbrev numbered : Numbered
  numbered = record { device = device; wires = g.wires }

  pub stand : map (mux_of device) muxes ≡ map (λ m. Some m) (muxes_of device g.wires)
  stand = ap (map (mux_of device)) are ∙ muxes_stand device g.wires

  -- the numbers of a mux of the graph
  pub number_at : (m : ℕ) (x : GraphMux) → slice_get (muxes_of device g.wires) m ≡ Some x → (num : MuxNumbers) × (slice_get muxes m ≡ Some num)
  number_at m x h =
      let d : MuxNumbers = record { tile = 0; place = 0; sink = 0 } in
      let long = as_long (mux_of device) muxes (muxes_of device g.wires) stand in
      let below = below_of (muxes_of device g.wires) m x h in
      (get_or muxes m d, slice_get-get_or muxes m d (omega arith))

  module _ (m : ℕ) (num : MuxNumbers) (at : slice_get muxes m ≡ Some num) where
    pub of : MuxOf numbered num
    of = what_it_is numbered num (subst (λ ms. In ms num) are (get_in muxes m num at))

    abbrev pub graph_mux : GraphMux
    graph_mux = record { tile = num.tile; origin = origin_of of.tile; sink = num.sink; mux = of.mux }

    is_mux_of : mux_of device num ≡ Some graph_mux
    is_mux_of = rw (of.in_tile, of.at_place) refl

    pub in_graph : slice_get (muxes_of device g.wires) m ≡ Some graph_mux
    in_graph = sym (stands_at (mux_of device) muxes (muxes_of device g.wires) stand m num at) ∙ is_mux_of
