-- What stands at a pin is told by the part that feeds it.
use Rattle.std.proofs.Common.{◌≡◌, ℕ, zero, suc, ◌+◌, ◌<◌, ◌≤◌, List, [], ◌∷◌, ◌++◌, length, get_or, Option, None, Some, option_and_then, ◌⊎◌, inl, inr, refl, sym, ap, subst, ◌∙◌, arith}
use Rattle.std.specs.Prelude.{slice_get}
use Rattle.links.proofs.Members.{same_number}
use Rattle.records.specs.Side as side_of
use Rattle.circuit.specs.Parts.{Source}
use Rattle.circuit.specs.Triples.{triple_of}
use Rattle.part_triples.specs.Numbers.{AreCopies}
use Rattle.rr_ids.specs.Domains.{domain_of}
use Rattle.rr_ids.specs.declared.domain.Domain.{Domain}
use Rattle.table_masks.specs.declared.table_pin.TablePin.{TablePin}
use Rattle.table_masks.specs.declared.table_pin.TablePin.TheVariants.{Open, Fed}
use Rattle.table_masks.specs.Pins.{FeedAlike, IsFirstAlike, SameFeed, IsFed, PinTold, PinsTold, fed_by}

some_source : (a b : Source) → Some a ≡ Some b → a ≡ b
some_source a b h = cc

none_source : (a : Source) → None ≡ Some a → ⊥
none_source a h = (let no : ⊥ = cc in no)

module _ (side : side_of.Side) (all : List Source) (feeds : List (Option ℕ)) (part place : ℕ) (s : Source) (fed : get_or feeds place None ≡ Some part) (at : slice_get all part ≡ Some s) where
  here : fed_by all feeds place ≡ Some s
  here = ap (option_and_then (slice_get all)) fed ∙ at

  -- a feed that is alike
  alike_same : (j : ℕ) (feed : Option ℕ) → get_or feeds j None ≡ feed → FeedAlike side all feed part → SameFeed side (fed_by all feeds) j place
  alike_same j None e h = absurd h
  alike_same j (Some other) e h = record {
    first = h.first;
    second = s;
    feeds_first = ap (option_and_then (slice_get all)) e ∙ h.first_at;
    feeds_second = here;
    same = h.same ∙ ap (λ (z : Source). triple_of side z.part) (some_source h.second s (sym h.second_at ∙ at));
  }

  same_alike : (j : ℕ) (feed : Option ℕ) → get_or feeds j None ≡ feed → SameFeed side (fed_by all feeds) j place → FeedAlike side all feed part
  same_alike j None e h = none_source h.first (sym (ap (option_and_then (slice_get all)) e) ∙ h.feeds_first)
  same_alike j (Some other) e h = record {
    first = h.first;
    second = s;
    first_at = sym (ap (option_and_then (slice_get all)) e) ∙ h.feeds_first;
    second_at = at;
    same = h.same ∙ ap (λ (z : Source). triple_of side z.part) (some_source h.second s (sym h.feeds_second ∙ here));
  }

  itself : SameFeed side (fed_by all feeds) place place
  itself = record { first = s; second = s; feeds_first = here; feeds_second = here; same = refl }

  pub is_fed : (first : ℕ) (d : Domain) → domain_of d ≡ s.domain → first ≤ place → IsFirstAlike side all feeds part place first → IsFed side (fed_by all feeds) place first d
  is_fed first d is within least = record {
    source = s;
    feeds = here;
    domain = is;
    before = within;
    alike = elim (same_number first place) [
      | inl e ↦ subst (λ i. SameFeed side (fed_by all feeds) i place) (sym e) itself
      | inr apart ↦ alike_same first (get_or feeds first None) refl (least.alike (below first place within apart))
    ];
    least = λ j less same. least.least j less (same_alike j (get_or feeds j None) refl same);
  }
    where
      below : (i n : ℕ) → i ≤ n → (i ≡ n → ⊥) → i < n
      below i n h apart = omega arith

-- a pin with no feed
pub is_open : (all : List Source) (feeds : List (Option ℕ)) (place : ℕ) → get_or feeds place None ≡ None → fed_by all feeds place ≡ None
is_open all feeds place none = ap (option_and_then (slice_get all)) none

-- a feed that is no part
pub is_nothing : (all : List Source) (feeds : List (Option ℕ)) (part place : ℕ) → get_or feeds place None ≡ Some part → slice_get all part ≡ None → fed_by all feeds place ≡ None
is_nothing all feeds part place fed none = ap (option_and_then (slice_get all)) fed ∙ none

-- ---- one pin more

last : {X : Type 0} (xs : List X) (x : X) (i : ℕ) (y : X) → slice_get (xs ++ x ∷ []) i ≡ Some y → (slice_get xs i ≡ Some y) ⊎ ((i ≡ length xs) × (x ≡ y))
last [] x zero y h = inr (refl, (let same : x ≡ y = cc in same))
last [] x (suc i) y h = absurd (let no : ⊥ = cc in no)
last (z ∷ zs) x zero y h = inl h
last (z ∷ zs) x (suc i) y h = elim (last zs x i y h) [ inl k ↦ inl k | inr e ↦ inr (ap suc e.0, e.1) ]

pub pins_more : (side : side_of.Side) (fed : ℕ → Option Source) (pins more : List TablePin) (place : ℕ) (p : TablePin) → length pins ≡ place → more ≡ pins ++ p ∷ [] → PinsTold side fed pins → PinTold side fed place p → PinsTold side fed more
pins_more side fed pins more place p long is told here = λ i q there. elim (last pins p i q (subst (λ ps. slice_get ps i ≡ Some q) is there)) [
  | inl old ↦ told i q old
  | inr e ↦ subst (PinTold side fed i) e.1 (subst (λ k. PinTold side fed k p) (sym (e.0 ∙ long)) here)
]
