-- The sets of known names as records and their entries are added.
use Rattle.std.proofs.Common.{◌≡◌, ℕ, List, [], ◌∷◌, ◌++◌, Bool, true, false, not, ◌||◌, refl, sym, ap, ◌∙◌, Bor}
use Rattle.std.specs.Str.{bytes_eq}
use Rattle.std.specs.List.{list_any}
use Rattle.std.proofs.lemmas.List.Folds.{list_any-append}
use Rattle.text_cut.specs.Known.{knows}
use Rattle.grammars.specs.BitsDb.{last_of}
use Rattle.grammars.specs.RowByRow.{with_last}
use Rattle.grammars.proofs.Lasts.{last_pushed}
use Rattle.bits_db.specs.Known.{LentNames, HoldsJust, entries_of}

or_last : (a b : Bool) → a || b ≡ b || (a || false)
or_last true true = refl
or_last true false = refl
or_last false true = refl
or_last false false = refl

-- whether one of the things has this name
abbrev pub has_name : {X : Type 0} → (X → List ℕ) → List X → List ℕ → Bool
has_name name xs q = list_any (λ x. bytes_eq (name x) q) xs

-- a set that gets the name of one more thing
pub names_with_one : {X : Type 0} (name : X → List ℕ) (xs : List X) (x : X) (old new : LentNames) (key : Bor (List ℕ)) → name x ≡ key.now → HoldsJust old (has_name name xs)
    → ((q : List ℕ) → knows new q ≡ bytes_eq key.now q || knows old q)
    → HoldsJust new (has_name name (xs ++ x ∷ []))
names_with_one name xs x old new key same held updated q =
    updated q
    ∙ ap (λ b. bytes_eq key.now q || b) (held q)
    ∙ or_last (bytes_eq key.now q) (has_name name xs q)
    ∙ ap (λ n. has_name name xs q || (bytes_eq n q || false)) (sym same)
    ∙ sym (list_any-append (λ x. bytes_eq (name x) q) xs (x ∷ []))

-- a last thing of the same name changes no name
pub names_with_last : {X : Type 0} (name : X → List ℕ) (change : X → X) → ((x : X) → name (change x) ≡ name x) → (xs : List X) (q : List ℕ) → has_name name (with_last change xs) q ≡ has_name name xs q
names_with_last name change same [] q = refl
names_with_last name change same (x ∷ []) q = ap (λ n. bytes_eq n q || false) (same x)
names_with_last name change same (x ∷ y ∷ ys) q = ap (λ b. bytes_eq (name x) q || b) (names_with_last name change same (y ∷ ys) q)

-- nothing is known of the entries of a new thing
pub no_entry_at_head : {X Y : Type 0} (entry : Y → List ℕ) (entries : X → List Y) (xs : List X) (x : X) (names : LentNames) → names ≡ [] → entries x ≡ []
    → HoldsJust names (has_name entry (entries_of entries (last_of (xs ++ x ∷ []))))
no_entry_at_head entry entries xs x names empty none q =
    ap (λ known. knows known q) empty
    ∙ sym (ap (λ o. has_name entry (entries_of entries o) q) (last_pushed xs x) ∙ ap (λ ys. has_name entry ys q) none)

-- what the set of entries says of a name, where the last thing is known
pub entry_known : {X Y : Type 0} (entry : Y → List ℕ) (entries : X → List Y) (all xs : List X) (x : X) (names : LentNames) (n : List ℕ) (key : Bor (List ℕ)) (b : Bool) → all ≡ xs ++ x ∷ [] → n ≡ key.now
    → HoldsJust names (has_name entry (entries_of entries (last_of all))) → knows names key.now ≡ b → has_name entry (entries x) n ≡ b
entry_known entry entries all xs x names n key b split same held known =
    ap (has_name entry (entries x)) same
    ∙ sym (ap (λ o. has_name entry (entries_of entries o) key.now) (ap last_of split ∙ last_pushed xs x))
    ∙ sym (held key.now)
    ∙ known

-- a set that gets the name of one more entry of the last thing
pub entries_with_one : {X Y : Type 0} (entry : Y → List ℕ) (entries : X → List Y) (xs : List X) (x x' : X) (y : Y) (old new : LentNames) (key : Bor (List ℕ)) → entry y ≡ key.now → entries x' ≡ entries x ++ y ∷ []
    → HoldsJust old (has_name entry (entries_of entries (last_of (xs ++ x ∷ []))))
    → ((q : List ℕ) → knows new q ≡ bytes_eq key.now q || knows old q)
    → HoldsJust new (has_name entry (entries_of entries (last_of (xs ++ x' ∷ []))))
entries_with_one entry entries xs x x' y old new key same grown held updated q =
    names_with_one entry (entries x) y old new key same (λ p. held p ∙ ap (λ o. has_name entry (entries_of entries o) p) (last_pushed xs x)) updated q
    ∙ sym (ap (λ o. has_name entry (entries_of entries o) q) (last_pushed xs x') ∙ ap (λ ys. has_name entry ys q) grown)

pub not_false : (b : Bool) → not b ≡ false → b ≡ true
not_false true h = refl
not_false false h = absurd (let no : ⊥ = cc in no)

pub not_true : (b : Bool) → not b ≡ true → b ≡ false
not_true true h = absurd (let no : ⊥ = cc in no)
not_true false h = refl
