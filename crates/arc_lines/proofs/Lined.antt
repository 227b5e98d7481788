-- The numbers of the arcs of lines are those of the arcs that have a line.
use Rattle.std.proofs.Common.{◌≡◌, ℕ, zero, suc, ◌<◌, ◌↔◌, Bool, true, false, cond, List, [], ◌∷◌, length, filter_map, flat_map, find, position, get_or, Option, Some, None, refl, sym, ap, subst, ◌∙◌, inl, inr}
use Rattle.std.specs.Prelude.{slice_get, ◌==◌, ◌&&◌}
use Rattle.std.specs.declared.cmp.Ordering.{Ordering}
use Rattle.std.specs.declared.cmp.Ordering.TheVariants.{Less, Equal}
use Rattle.std.specs.List.{position_or_len}
use Rattle.std.specs.Option.{option_and_then, option_map_or}
use Rattle.std.specs.Str.{bytes_eq}
use Rattle.std.proofs.lemmas.Cmp.{tied_itself}
use Rattle.std.proofs.lemmas.Bool.{cases_lt, le-ltb, lt-ltb}
use Rattle.std.proofs.lemmas.List.Folds.{find_at}
use Rattle.std.proofs.lemmas.Option.{slice_get_past, slice_get_within}
use Rattle.words.specs.Members.{In}
use Rattle.links.proofs.Members.{in_flat_map, of_flat_map}
use Rattle.records.specs.Config.{ArcLine, TileText, Config}
use Rattle.fabric.specs.InOrder.{IsRising}
use Rattle.fabric.specs.Device.{Device}
use Rattle.fabric.specs.Graph.{GraphArc, Graph}
use Rattle.fabric.specs.GraphOf.{IsGraph, arc_cmp}
use Rattle.fabric.specs.Image.{tile_named, mux_named, arc_named, arc_of_line}
use Rattle.fabric.specs.Agree.{HasLine}
use Rattle.fabric_laws.proofs.Graphs.{some_same}
use Rattle.fabric_laws.proofs.Members.{in_filter_map_from, in_filter_map_to}
use Rattle.fabric_laws.proofs.Numbered.{get_in}
use Rattle.fabric_laws.proofs.Orders.{arc_total}
use Rattle.arc_lines.specs.LineArcs.{AreLineMarks, arc_place, line_place, section_places, text_places}

-- a list that rises has each element at one place
one_place : {X : Type 0} (cmp : X → X → Ordering) → ((x : X) → cmp x x ≡ Equal) → (xs : List X) → IsRising cmp xs → (i j : ℕ) (x : X) → slice_get xs i ≡ Some x → slice_get xs j ≡ Some x → i ≡ j
one_place cmp tied [] rising i j x h k = absurd (let no : ⊥ = cc in no)
one_place cmp tied (y ∷ ys) rising zero zero x h k = refl
one_place cmp tied (y ∷ ys) rising zero (suc j) x h k =
    absurd (let s : y ≡ x = some_same h in let l : cmp y x ≡ Less = rising.0 x (get_in ys j x k) in let e : cmp x x ≡ Less = subst (λ z. cmp z x ≡ Less) s l in let t = tied x in let no : ⊥ = cc in no)
one_place cmp tied (y ∷ ys) rising (suc i) zero x h k =
    absurd (let s : y ≡ x = some_same k in let l : cmp y x ≡ Less = rising.0 x (get_in ys i x h) in let e : cmp x x ≡ Less = subst (λ z. cmp z x ≡ Less) s l in let t = tied x in let no : ⊥ = cc in no)
one_place cmp tied (y ∷ ys) rising (suc i) (suc j) x h k = ap suc (one_place cmp tied ys rising.1 i j x h k)

-- the first that passes stands where the first place is
first_at : {X : Type 0} (p : X → Bool) (xs : List X) → find p xs ≡ option_and_then (slice_get xs) (position p xs)
first_at p xs =
    let n = position_or_len p xs in
    find_at p xs ∙ elim (cases_lt n (length xs)) [
      | inl l ↦ ap (λ b. option_and_then (slice_get xs) (cond b (Some n) None)) (sym (lt-ltb n (length xs) l))
      | inr l ↦ slice_get_past xs n l ∙ ap (λ b. option_and_then (slice_get xs) (cond b (Some n) None)) (sym (le-ltb n (length xs) l))
    ]

module _ (g : Graph) where
  -- the arc of a line, by its number
  arc_at : (o : Option ℕ) (line : ArcLine) → option_and_then (λ mux. arc_named g mux line.source) o ≡ option_and_then (slice_get g.arcs) (option_and_then (λ mux. arc_place g mux line.source) o)
  arc_at None line = refl
  arc_at (Some mux) line = first_at (λ a. (a.mux == mux) && bytes_eq a.arc.source line.source) g.arcs

  line_at : (tile : ℕ) (line : ArcLine) → arc_of_line g tile line ≡ option_and_then (slice_get g.arcs) (line_place g tile line)
  line_at tile line = arc_at (mux_named g tile line.sink) line

  -- a number in a section is that of the arc of a line of it
  in_section : (config : Config) (a : ℕ) (arc : GraphArc) (text : TileText) → In config.tiles text → slice_get g.arcs a ≡ Some arc
      → (o : Option ℕ) → tile_named g text.tile ≡ o → In (option_map_or (λ tile. filter_map (line_place g tile) text.arcs) o []) a → HasLine g config arc
  in_section config a arc text listed at None e i = absurd i
  in_section config a arc text listed at (Some t) e i =
      let r = in_filter_map_from (line_place g t) text.arcs a i in
      record {
        text = text;
        line = r.0;
        section = listed;
        listed = r.1;
        is = ap (option_and_then (λ tile. arc_of_line g tile r.0)) e ∙ (line_at t r.0 ∙ (ap (option_and_then (slice_get g.arcs)) r.2 ∙ at));
      }

  has_from : (config : Config) (a : ℕ) (arc : GraphArc) → slice_get g.arcs a ≡ Some arc → In (text_places g config) a → HasLine g config arc
  has_from config a arc at i =
      let r = of_flat_map (section_places g) config.tiles a i in
      in_section config a arc r.0 r.1.0 at (tile_named g r.0.tile) refl r.1.1

  module _ (device : Device) (is : IsGraph device g) where
    same_place : (a : ℕ) (arc : GraphArc) (o : Option ℕ) → slice_get g.arcs a ≡ Some arc → option_and_then (slice_get g.arcs) o ≡ Some arc → o ≡ Some a
    same_place a arc None at h = absurd (let no : ⊥ = cc in no)
    same_place a arc (Some k) at h = ap (λ n. Some n) (one_place arc_cmp (tied_itself arc_total) g.arcs is.arcs.rising k a arc h at)

    in_tile : (a : ℕ) (arc : GraphArc) (line : ArcLine) (lines : List ArcLine) → In lines line → slice_get g.arcs a ≡ Some arc → (o : Option ℕ)
        → option_and_then (λ tile. arc_of_line g tile line) o ≡ Some arc → In (option_map_or (λ tile. filter_map (line_place g tile) lines) o []) a
    in_tile a arc line lines listed at None h = absurd (let no : ⊥ = cc in no)
    in_tile a arc line lines listed at (Some t) h =
        in_filter_map_to (line_place g t) lines line a listed (same_place a arc (line_place g t line) at (sym (line_at t line) ∙ h))

    has_to : (config : Config) (a : ℕ) (arc : GraphArc) → slice_get g.arcs a ≡ Some arc → HasLine g config arc → In (text_places g config) a
    has_to config a arc at h =
        in_flat_map (section_places g) config.tiles h.text a h.section (in_tile a arc h.line h.text.arcs h.listed at (tile_named g h.text.tile) h.is)

    -- marks of the numbers of a text are those of its arcs
    pub marks_are : (config : Config) (places : List ℕ) (marks : List Bool) → places ≡ text_places g config
        → ((k : ℕ) → k < length g.arcs → (get_or marks k false ≡ true) ↔ In places k) → AreLineMarks g config marks
    marks_are config places marks are marked a arc at =
        let m = marked a (slice_get_within g.arcs a arc at) in (
          (λ e. has_from config a arc at (subst (λ ps. In ps a) are (m.0 e))),
          (λ h. m.1 (subst (λ ps. In ps a) (sym are) (has_to config a arc at h))),
        )
