-- Rows of the ends of links.
use Rattle.std.proofs.Common.{◌≡◌, ℕ, ◌<◌, Bool, true, false, cond, List, [], ◌∷◌, map, filter, length, Some, refl, sym, ap, subst, ◌∙◌, arith}
use Rattle.std.specs.Prelude.{◌==◌, slice_get}
use Rattle.std.specs.List.{All, zip}
use Rattle.std.proofs.lemmas.List.FromFn.{length-map-range_with_len, get_or-map-range_with_len}
use Rattle.std.proofs.lemmas.Option.{slice_get-get_or}
use Rattle.links.specs.Links.{Link}
use Rattle.fabric.specs.InOrder.{InOrderOnce}
use Rattle.graph_lists.specs.FixedLists.{links_from, links_into}
use Rattle.grouped.specs.Rows.{grouped, row_of}
use Rattle.link_order.specs.Order.{AreWithin, link_cmp}
use Rattle.place_rows.proofs.RowsBy.{keys_known}
use Rattle.link_rows.specs.Kept.{LinkTable, AreEndsOf}

pub sinks_known : (wires : ℕ) (links : List Link) (keys : List ℕ) → AreWithin wires links → keys ≡ map (λ l. l.sink) links → All (λ key. key < wires) keys
sinks_known wires links keys within are = subst (λ ks. All (λ key. key < wires) ks) (sym are) (keys_known (λ l. l.sink) wires links (λ l i. (within l i).1))

pub sources_known : (wires : ℕ) (links : List Link) (keys : List ℕ) → AreWithin wires links → keys ≡ map (λ l. l.source) links → All (λ key. key < wires) keys
sources_known wires links keys within are = subst (λ ks. All (λ key. key < wires) ks) (sym are) (keys_known (λ l. l.source) wires links (λ l i. (within l i).0))

module _ {X : Type 0} (f g : X → ℕ) where
  -- the other ends of those with this end
  abbrev ends : List X → ℕ → List ℕ
  ends xs k = map g (filter (λ x. f x == k) xs)

  row_is_ends : (xs : List X) (k : ℕ) → row_of (λ (n : ℕ). n) (map f xs) (map g xs) k ≡ ends xs k
  row_is_ends [] k = refl
  row_is_ends (x ∷ xs) k = go (f x == k) ∙ ap (λ ys. cond (f x == k) (g x ∷ ys) ys) (row_is_ends xs k) ∙ sym (other (f x == k))
    where
      go : (b : Bool) → map (λ (p : ℕ × ℕ). p.1) (cond b ((f x, g x) ∷ filter (λ (p : ℕ × ℕ). p.0 == k) (zip (map f xs) (map g xs))) (filter (λ (p : ℕ × ℕ). p.0 == k) (zip (map f xs) (map g xs))))
          ≡ cond b (g x ∷ row_of (λ (n : ℕ). n) (map f xs) (map g xs) k) (row_of (λ (n : ℕ). n) (map f xs) (map g xs) k)
      go true = refl
      go false = refl

      other : (b : Bool) → map g (cond b (x ∷ filter (λ y. f y == k) xs) (filter (λ y. f y == k) xs)) ≡ cond b (g x ∷ ends xs k) (ends xs k)
      other true = refl
      other false = refl

pub long : (count : ℕ) (keys items : List ℕ) → length (grouped (λ (k : ℕ). k) count keys items) ≡ count
long count keys items = length-map-range_with_len (row_of (λ (n : ℕ). n) keys items) 0 count

-- the row of a number
pub row_there : (count : ℕ) (keys items : List ℕ) (k : ℕ) → k < count → slice_get (grouped (λ (n : ℕ). n) count keys items) k ≡ Some (row_of (λ (n : ℕ). n) keys items k)
row_there count keys items k below =
    let rows = grouped (λ (n : ℕ). n) count keys items in
    let n = long count keys items in
    slice_get-get_or rows k [] (omega arith) ∙ ap (λ r. Some r) (get_or-map-range_with_len (row_of (λ (n : ℕ). n) keys items) 0 count k k [] below (omega arith))

some_one : {X : Type 0} (x y : X) → Some x ≡ Some y → x ≡ y
some_one x y h = cc

pub sources_row : (t : LinkTable) (links : List Link) (sources sinks : List (List ℕ)) (w : ℕ) (row : List ℕ) → AreEndsOf links sources sinks
    → (let made : LinkTable = record { wires = length sources; links = links } in made) ≡ t → w < t.wires → Some row ≡ slice_get sources w → row ≡ links_into t.links w
sources_row t links sources sinks w row are is below there =
    let count : length sources ≡ t.wires = ap (λ (x : LinkTable). x.wires) is in
    let found = row_there (length sources) (map (λ l. l.sink) links) (map (λ l. l.source) links) w (omega arith) in
    some_one row _ (there ∙ ap (λ rows. slice_get rows w) are.by_sink ∙ found)
    ∙ row_is_ends (λ (l : Link). l.sink) (λ (l : Link). l.source) links w
    ∙ ap (λ (x : LinkTable). links_into x.links w) is

pub sinks_row : (t : LinkTable) (links : List Link) (sources sinks : List (List ℕ)) (w : ℕ) (row : List ℕ) → AreEndsOf links sources sinks
    → (let made : LinkTable = record { wires = length sources; links = links } in made) ≡ t → w < t.wires → Some row ≡ slice_get sinks w → row ≡ links_from t.links w
sinks_row t links sources sinks w row are is below there =
    let count : length sources ≡ t.wires = ap (λ (x : LinkTable). x.wires) is in
    let found = row_there (length sources) (map (λ l. l.source) links) (map (λ l. l.sink) links) w (omega arith) in
    some_one row _ (there ∙ ap (λ rows. slice_get rows w) are.by_source ∙ found)
    ∙ row_is_ends (λ (l : Link). l.source) (λ (l : Link). l.sink) links w
    ∙ ap (λ (x : LinkTable). links_from x.links w) is

-- rows of wires are as many as the wires, and are those of the links
pub ends_of : (wires : ℕ) (links first second : List Link) (sources sinks : List (List ℕ)) → first ≡ links → second ≡ links
    → sources ≡ grouped (λ (k : ℕ). k) wires (map (λ l. l.sink) first) (map (λ l. l.source) first)
    → sinks ≡ grouped (λ (k : ℕ). k) wires (map (λ l. l.source) second) (map (λ l. l.sink) second) → (length sources ≡ wires) × AreEndsOf links sources sinks
ends_of wires links first second sources sinks e d by_sink by_source =
    let sinks_of : List Link → List ℕ = λ ls. map (λ l. l.sink) ls in
    let sources_of : List Link → List ℕ = λ ls. map (λ l. l.source) ls in
    let count : length sources ≡ wires = ap length by_sink ∙ long wires (sinks_of first) (sources_of first) in (
      count,
      record {
        by_sink = by_sink ∙ (λ i. grouped (λ (k : ℕ). k) (sym count i) (sinks_of (e i)) (sources_of (e i)));
        by_source = by_source ∙ (λ i. grouped (λ (k : ℕ). k) (sym count i) (sources_of (d i)) (sinks_of (d i)));
      },
    )

-- links in order have the ends that they had
pub within_still : (wires : ℕ) (links ordered : List Link) → AreWithin wires links → InOrderOnce link_cmp links ordered → AreWithin wires ordered
within_still wires links ordered within are = λ l i. within l ((are.members l).0 i)
