-- The same of what the program keeps of a search.
use Rattle.std.specs.Prelude.{◌≡◌, ℕ, ◌+◌, ◌*◌, ◌<◌, ◌≤◌, ◌⊎◌, false, List, [], ◌∷◌, ◌++◌, length, slice_index, get_or, replicate, nat_lt, if◌then◌else◌}
use Rattle.words.specs.Members.{In}
use Rattle.paths.specs.Wiring.{roads_of}
use Rattle.paths.specs.Paths.{IsPath, IsThePath, weight_of}
use Rattle.net_links.specs.Nets.{Network, NetRules, rules_of}
use Rattle.pin_search.specs.declared.front.Front.{Front}
use Rattle.pin_search.specs.Labels.{far, first_in, weight_in}
use Rattle.pin_search.specs.Searches.{Search, IsSearched, Moves}

-- no wire has a label, waits or was touched, and no arc out of the tree was found
pub record IsAtRest (wires : ℕ) (front : Front) : Type 0 where
  pub labels : front.labels.items ≡ replicate wires far
  pub waiting : front.waiting.items ≡ replicate wires false
  pub queue : front.queue ≡ []
  pub touched : front.touched.items ≡ []
  pub best : front.best ≡ far

-- each wire that a search has left a trace of was touched
pub record Keeps (count : ℕ) (front : Front) : Type 0 where
  pub labels_len : length front.labels.items ≡ count
  pub waiting_len : length front.waiting.items ≡ count
  pub wires : (w : ℕ) → In front.touched.items w → w < count
  pub known : (w : ℕ) → w < count → In front.touched.items w
      ⊎ ((slice_index front.labels.items w ≡ far) × (get_or front.waiting.items w false ≡ false))

abbrev pub Searches : Network → NetRules → ℕ → ℕ → Front → Type 0
Searches g n pin busy front = Search g n pin busy front.labels.items front.waiting.items front.queue front.touched.items front.best

-- the wire w, which has this label, is spread from
pub record Turn (g : Network) (n : NetRules) (pin w label : ℕ) (front : Front) : Type 0 where
  pub search : Searches g n pin w front
  pub wire : w < g.wiring.wires
  pub label_is : slice_index front.labels.items w ≡ label
  pub near : label < far

abbrev pub MovesTo : Front → Front → Type 0
MovesTo old new = Moves old.labels.items old.queue old.touched.items old.best
    new.labels.items new.queue new.touched.items new.best

-- so much is known of a label's weight that one wire more can be labelled
abbrev pub IsSmall : Front → ℕ → Type 0
IsSmall front label = weight_in label ≤ (length front.touched.items + 1) * 4294967295

-- the wires that were touched, with w, if it had no label
abbrev pub noted : List ℕ → List ℕ → ℕ → List ℕ
noted labels touched w = if nat_lt (slice_index labels w) far then touched else touched ++ w ∷ []

-- the search is over
abbrev pub Ends : Network → NetRules → ℕ → Front → Type 0
Ends g n pin front = IsSearched g n pin front.labels.items front.best

-- the labels name the arcs, one after the other
abbrev pub Follows : Network → List ℕ → ℕ → List ℕ → Type 0
Follows g labels first [] = first ≡ 0
Follows g labels first (a ∷ rest) = (first ≡ a + 1) × Follows g labels (first_in (slice_index labels (g.wiring.sink a))) rest

-- no path leads to the pin
abbrev pub HasNoPath : Network → NetRules → ℕ → Type 0
HasNoPath g n pin = (path : List ℕ) → IsPath (roads_of g.wiring (rules_of g n)) (In n.tree) path pin → ⊥

-- the path and its weight
abbrev pub IsPathOfWeight : Network → NetRules → ℕ → List ℕ → ℕ → Type 0
IsPathOfWeight g n pin arcs weight = IsThePath (roads_of g.wiring (rules_of g n)) n.weight (In n.tree) arcs pin
    × (weight ≡ weight_of (roads_of g.wiring (rules_of g n)) n.weight arcs)
