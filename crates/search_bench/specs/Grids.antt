-- A grid of wires: from each wire ten arcs lead to the wires at ten distances further on, round the end.
use Rattle.std.specs.Prelude.{◌≡◌, ℕ, ◌+◌, ◌-◌, ◌*◌, ◌/◌, ◌%◌, ◌<◌, ◌≤◌, true, List, [], length, slice_index, take, drop, nat_lt, if◌then◌else◌}
use Rattle.net_links.specs.Nets.{Network, NetRules}

-- the wire at a distance further on, and further back
abbrev pub forth : ℕ → ℕ → ℕ → ℕ
forth wires w distance = if nat_lt (w + distance) wires then w + distance else (w + distance - wires)

abbrev pub back : ℕ → ℕ → ℕ → ℕ
back wires w distance = if nat_lt w distance then wires + w - distance else (w - distance)

-- the arc at a place of the list of arcs into the wires
abbrev pub into : ℕ → List ℕ → ℕ → ℕ
into wires distances place = back wires (place / 10) (slice_index distances (place % 10)) * 10 + place % 10

-- the ten arcs of a wire
abbrev pub part : List ℕ → ℕ → List ℕ
part arcs w = take 10 (drop (w * 10) arcs)

-- so many numbers in order
pub record AreIds (count : ℕ) (arcs : List ℕ) : Type 0 where
  pub len : length arcs ≡ count
  pub each : (place : ℕ) → place < count → slice_index arcs place ≡ place

-- so many arcs into the wires
pub record AreInto (wires : ℕ) (distances : List ℕ) (count : ℕ) (arcs : List ℕ) : Type 0 where
  pub len : length arcs ≡ count
  pub each : (place : ℕ) → place < count → slice_index arcs place ≡ into wires distances place

pub record IsGrid (wires : ℕ) (distances outs ins : List ℕ) : Type 0 where
  pub few : wires * 10 < 4294967296
  pub within : (j : ℕ) → j < 10 → slice_index distances j < wires
  pub outs_are : AreIds (wires * 10) outs
  pub ins_are : AreInto wires distances (wires * 10) ins

abbrev pub network : ℕ → List ℕ → List ℕ → List ℕ → Network
network wires distances outs ins = record {
  wiring = record {
    wires = wires;
    outs = part outs;
    source = λ a. a / 10;
    sink = λ a. forth wires (a / 10) (slice_index distances (a % 10));
  };
  ins = part ins;
}

-- each wire weighs 1, and nothing is forbidden
abbrev pub net_rules : List ℕ → NetRules
net_rules tree = record {
  weight = λ w. 1;
  enterable = λ w. true;
  takes = λ a. true;
  next = λ w. [];
  drivers = λ w. [];
  tree = tree;
  roots = tree;
}

-- Where each wire stands in the list: at the place before this number, or nowhere where this is 0.
pub record IsTree (places tree : List ℕ) : Type 0 where
  pub listed : (k : ℕ) → k < length tree → (slice_index tree k < length places) × (slice_index places (slice_index tree k) ≡ k + 1)
  pub known : (w : ℕ) → w < length places → 0 < slice_index places w
      → (slice_index places w ≤ length tree) × (slice_index tree (slice_index places w - 1) ≡ w)
