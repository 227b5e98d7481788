-- Parts that are read.
use Rattle.std.proofs.Common.{◌≡◌, ℕ, zero, suc, ◌+◌, ◌<◌, ◌≤◌, Bool, true, false, List, [], ◌∷◌, length, get_or, drop, replicate, Option, Some, None, option_and_then, inl, inr, refl, sym, ap, subst, ◌∙◌, arith}
use Rattle.std.specs.Prelude.{slice_get, slice_set}
use Rattle.std.proofs.lemmas.List.{drop_more, drop_all, length-replicate, length-set, get_or-set_same, get_or-set_other, get_or-replicate}
use Rattle.std.proofs.lemmas.Option.{get_or_from_slice_get, slice_get-get_or, slice_get_within}
use Rattle.words.specs.Members.{In}
use Rattle.links.proofs.Members.{same_number}
use Rattle.circuit.specs.Cells.{Cells}
use Rattle.circuit.specs.Parts.{Source, sources}
use Rattle.circuit.specs.Circuits.{Circuit, IsRead}
use Rattle.fabric_laws.proofs.Numbered.{get_in, number_there}
use Rattle.pin_feeds.specs.Told.{Tells}
use Rattle.pin_feeds.proofs.Connected.{read_told}
use Rattle.pin_rules.specs.ReadParts.{AreReadParts, read_with}

one_more : (flags : List Bool) (feed : Option ℕ) (feeds : List (Option ℕ)) → read_with (read_with flags (feed ∷ [])) feeds ≡ read_with flags (feed ∷ feeds)
one_more flags None feeds = refl
one_more flags (Some k) feeds = refl

pub read_more : (feeds : List (Option ℕ)) (i : ℕ) (d : Option ℕ) (flags more whole : List Bool) → i < length feeds
    → read_with flags (drop i feeds) ≡ whole → more ≡ read_with flags (get_or feeds i d ∷ []) → read_with more (drop (i + 1) feeds) ≡ whole
read_more feeds i d flags more whole below are is =
    ap (λ fs. read_with fs (drop (i + 1) feeds)) is ∙ (one_more flags (get_or feeds i d) (drop (i + 1) feeds) ∙ (sym (ap (read_with flags) (drop_more feeds i d below)) ∙ are))

pub read_all : (feeds : List (Option ℕ)) (i : ℕ) (flags whole : List Bool) → length feeds ≤ i → read_with flags (drop i feeds) ≡ whole → flags ≡ whole
read_all feeds i flags whole over are = sym (ap (read_with flags) (drop_all i feeds over)) ∙ are

true_false : true ≡ false → ⊥
true_false h = (let no : ⊥ = cc in no)

there_below : (flags : List Bool) (k : ℕ) → get_or flags k false ≡ true → k < length flags
there_below [] k h = absurd (true_false (sym h))
there_below (f ∷ fs) zero h = omega arith
there_below (f ∷ fs) (suc k) h = (let rest = there_below fs k h in omega arith)

length_read : (flags : List Bool) (feeds : List (Option ℕ)) → length (read_with flags feeds) ≡ length flags
length_read flags [] = refl
length_read flags (None ∷ feeds) = length_read flags feeds
length_read flags (Some k ∷ feeds) = length_read (slice_set flags k true) feeds ∙ length-set flags k true

-- what is raised stays so
kept : (flags : List Bool) (feeds : List (Option ℕ)) (k : ℕ) → get_or flags k false ≡ true → get_or (read_with flags feeds) k false ≡ true
kept flags [] k h = h
kept flags (None ∷ feeds) k h = kept flags feeds k h
kept flags (Some j ∷ feeds) k h = kept (slice_set flags j true) feeds k (elim (same_number k j) [
  | inl e ↦ subst (λ x. get_or (slice_set flags j true) x false ≡ true) (sym e) (get_or-set_same flags j true false (subst (λ x. x < length flags) e (there_below flags k h)))
  | inr other ↦ get_or-set_other flags j k true false other ∙ h
])

some_number : (a b : ℕ) → Some a ≡ Some b → a ≡ b
some_number a b h = cc

none_some : (a : ℕ) → None ≡ Some a → ⊥
none_some a h = (let no : ⊥ = cc in no)

-- each part that feeds a pin is raised
raised : (flags : List Bool) (feeds : List (Option ℕ)) (k : ℕ) → k < length flags → In feeds (Some k) → get_or (read_with flags feeds) k false ≡ true
raised flags [] k below i = absurd i
raised flags (None ∷ feeds) k below i = elim i [ inl e ↦ absurd (none_some k e) | inr j ↦ raised flags feeds k below j ]
raised flags (Some m ∷ feeds) k below i = elim i [
  | inl e ↦ (
      let same : m ≡ k = some_number m k e in
      kept (slice_set flags m true) feeds k (subst (λ x. get_or (slice_set flags m true) x false ≡ true) same (get_or-set_same flags m true false (subst (λ x. x < length flags) (sym same) below)))
      )
  | inr j ↦ raised (slice_set flags m true) feeds k (subst (λ n. k < n) (sym (length-set flags m true)) below) j
]

-- what is raised was so, or feeds a pin
from_feed : (flags : List Bool) (feeds : List (Option ℕ)) (k : ℕ) → (get_or flags k false ≡ true → ⊥) → get_or (read_with flags feeds) k false ≡ true → In feeds (Some k)
from_feed flags [] k not_yet h = absurd (not_yet h)
from_feed flags (None ∷ feeds) k not_yet h = inr (from_feed flags feeds k not_yet h)
from_feed flags (Some m ∷ feeds) k not_yet h = elim (same_number m k) [
  | inl e ↦ inl (ap (λ x. Some x) e)
  | inr other ↦ inr (from_feed (slice_set flags m true) feeds k (λ l. not_yet (sym (get_or-set_other flags m k true false (λ e. other (sym e))) ∙ l)) h)
]

none_raised : (count k : ℕ) → get_or (replicate count false) k false ≡ true → ⊥
none_raised count k h =
    let below : k < count = subst (λ n. k < n) (length-replicate count false) (there_below (replicate count false) k h) in
    true_false (sym h ∙ get_or-replicate count k false false below)

-- exactly the parts that feed pins are raised
pub flags_are : (cells : Cells) (feeds : List (Option ℕ)) (count : ℕ) (read : List Bool) → count ≡ length (sources cells) → read ≡ read_with (replicate count false) feeds → AreReadParts cells feeds read
flags_are cells feeds count read many made = record {
  long = ap (λ xs. length xs) made ∙ (length_read (replicate count false) feeds ∙ (length-replicate count false ∙ many));
  flags = λ k below. (
    (λ h. from_feed (replicate count false) feeds k (none_raised count k) (subst (λ xs. get_or xs k false ≡ true) made h)),
    (λ i. subst (λ xs. get_or xs k false ≡ true) (sym made) (raised (replicate count false) feeds k (subst (λ n. k < n) (sym (length-replicate count false ∙ many)) below) i)),
  );
}

-- ---- what this says of a circuit

module _ (c : Circuit) (feeds : List (Option ℕ)) (read : List Bool) (tells : Tells c feeds) (are : AreReadParts c.cells feeds read) where
  -- a part whose flag is raised is read
  pub flag_reads : (k : ℕ) (s : Source) → slice_get (sources c.cells) k ≡ Some s → get_or read k false ≡ true → IsRead c s
  flag_reads k s at h =
      let i = number_there feeds (Some k) ((are.flags k (slice_get_within (sources c.cells) k s at)).0 h) in
      let is : get_or feeds i.0 None ≡ Some k = get_or_from_slice_get feeds i.0 (Some k) None i.1 in
      (read_told c feeds tells s).1 (i.0, ap (option_and_then (slice_get (sources c.cells))) is ∙ at)

  raised_at : (s : Source) (i : ℕ) (feed : Option ℕ) → get_or feeds i None ≡ feed → option_and_then (slice_get (sources c.cells)) feed ≡ Some s
      → (k : ℕ) × ((slice_get (sources c.cells) k ≡ Some s) × (get_or read k false ≡ true))
  raised_at s i None is h = absurd (let no : ⊥ = cc in no)
  raised_at s i (Some k) is h =
      let below : i < length feeds = there feeds i k is in
      (k, (h, (are.flags k (slice_get_within (sources c.cells) k s h)).1 (get_in feeds i (Some k) (slice_get-get_or feeds i None below ∙ ap (λ x. Some x) is))))
    where
      there : (fs : List (Option ℕ)) (j m : ℕ) → get_or fs j None ≡ Some m → j < length fs
      there [] j m e = absurd (none_some m e)
      there (f ∷ fs) zero m e = omega arith
      there (f ∷ fs) (suc j) m e = (let rest = there fs j m e in omega arith)

  -- a part that is read has a number with a raised flag
  pub read_flagged : (s : Source) → IsRead c s → (k : ℕ) × ((slice_get (sources c.cells) k ≡ Some s) × (get_or read k false ≡ true))
  read_flagged s r = (let i = (read_told c feeds tells s).0 r in raised_at s i.0 (get_or feeds i.0 None) refl i.1)
