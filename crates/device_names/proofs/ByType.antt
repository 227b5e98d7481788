-- Databases by type, as the entries of a map in order.
use Rattle.std.proofs.Common.{◌≡◌, ◌≢◌, ℕ, List, [], ◌∷◌, map, Bool, true, false, cond, Option, Some, None, option_map, bytes_eq, nat_cmp, refl, sym, ap, subst, ◌∙◌, inl, inr}
use Rattle.std.specs.Cmp.Lexicographic.{slice_cmp}
use Rattle.std.specs.List.{AllByRecursion}
use Rattle.std.specs.List.Sorted.{IsStrictlySortedBy}
use Rattle.std.specs.Map.{lookup}
use Rattle.std.specs.BTreeMap.{is_at}
use Rattle.std.specs.declared.cmp.Ordering.{Ordering}
use Rattle.std.specs.declared.cmp.Ordering.TheVariants.{Less}
use Rattle.std.proofs.lemmas.Slice.Eq.{bytes_eq-Decides}
use Rattle.words.specs.Members.{In}
use Rattle.fabric_laws.proofs.Members.{is_false}
use Rattle.records.specs.Database.{TileDb}
use Rattle.fabric.specs.InOrder.{IsRising}
use Rattle.fabric.specs.Device.{TypeDb}
use Rattle.cell_profile.proofs.KindNames.{text_ties}
use Rattle.device_names.specs.Types.{type_named, type_db, AreInNameOrder}

-- what holds of all holds of each
of_each : {X : Type 0} (P : X → Type 0) (xs : List X) (y : X) → AllByRecursion P xs → In xs y → P y
of_each P [] y all i = absurd i
of_each P (x ∷ xs) y all i = elim i [ inl e ↦ subst P e all.0 | inr j ↦ of_each P xs y all.1 j ]

-- keys that ascend are in order, each once
pub rising_sorted : {K : Type 0} (cmp : K → K → Ordering) (ks : List K) → IsStrictlySortedBy cmp ks → IsRising cmp ks
unfolding IsStrictlySortedBy
rising_sorted cmp [] s = tt
rising_sorted cmp (k ∷ ks) s = ((λ y i. of_each (λ z. cmp k z ≡ Less) ks y s.0 i), rising_sorted cmp ks s.1)

kinds_are_keys : (entries : List (List ℕ × TileDb)) → map (λ e. e.0) entries ≡ map (λ t. t.kind) (map type_db entries)
kinds_are_keys [] = refl
kinds_are_keys (e ∷ es) = ap (λ ks. e.0 ∷ ks) (kinds_are_keys es)

-- so the databases of a map are in name order
pub in_name_order : (entries : List (List ℕ × TileDb)) → IsStrictlySortedBy (slice_cmp nat_cmp) (map (λ e. e.0) entries) → AreInNameOrder (map type_db entries)
in_name_order entries s = subst (IsRising (slice_cmp nat_cmp)) (kinds_are_keys entries) (rising_sorted (slice_cmp nat_cmp) (map (λ e. e.0) entries) s)

same_text : (a b : List ℕ) → bytes_eq a b ≡ true → a ≡ b
same_text a b e = (bytes_eq-Decides a b).0 e

-- a database with a name that was asked for
abbrev pub of_name : List ℕ → TileDb → TypeDb
of_name kind db = record { kind = kind; db = db }

-- what is found of a name is the entry at it
pub found : (entries : List (List ℕ × TileDb)) (kind : List ℕ) → type_named (map type_db entries) kind ≡ option_map (of_name kind) (lookup (is_at (slice_cmp nat_cmp kind)) entries)
found [] kind = refl
found (e ∷ es) kind = go (bytes_eq e.0 kind) refl (found es kind)
  where
    go : (b : Bool) → bytes_eq e.0 kind ≡ b → type_named (map type_db es) kind ≡ option_map (of_name kind) (lookup (is_at (slice_cmp nat_cmp kind)) es)
        → cond (bytes_eq e.0 kind) (Some (type_db e)) (type_named (map type_db es) kind) ≡ option_map (of_name kind) (cond (is_at (slice_cmp nat_cmp kind) e.0) (Some e.1) (lookup (is_at (slice_cmp nat_cmp kind)) es))
    go true same ih = rw (text_ties kind e.0, same) (ap (λ k. Some (of_name k e.1)) (same_text e.0 kind same))
    go false other ih = rw (text_ties kind e.0, other) ih

bytes_same : (a : List ℕ) → bytes_eq a a ≡ true
bytes_same a = (bytes_eq-Decides a a).1 refl

bytes_differ : (a b : List ℕ) → a ≢ b → bytes_eq a b ≡ false
bytes_differ a b apart = is_false (bytes_eq a b) (λ e. apart (same_text a b e))

-- the name of the type that is put in finds it
pub found_there : (old new : List (List ℕ × TileDb)) (kind : List ℕ) (db : TileDb)
    → ((q : List ℕ) → lookup (is_at (slice_cmp nat_cmp q)) new ≡ cond (is_at (slice_cmp nat_cmp kind) q) (Some db) (lookup (is_at (slice_cmp nat_cmp q)) old))
    → type_named (map type_db new) kind ≡ Some (of_name kind db)
found_there old new kind db updated = found new kind ∙ ap (option_map (of_name kind)) (updated kind ∙ ap (λ b. cond b (Some db) (lookup (is_at (slice_cmp nat_cmp kind)) old)) (text_ties kind kind ∙ bytes_same kind))

-- and other names find what they found
pub found_others : (old new : List (List ℕ × TileDb)) (kind : List ℕ) (db : TileDb)
    → ((q : List ℕ) → lookup (is_at (slice_cmp nat_cmp q)) new ≡ cond (is_at (slice_cmp nat_cmp kind) q) (Some db) (lookup (is_at (slice_cmp nat_cmp q)) old))
    → (other : List ℕ) → other ≢ kind → type_named (map type_db new) other ≡ type_named (map type_db old) other
found_others old new kind db updated other apart =
    found new other
    ∙ ap (option_map (of_name other)) (updated other ∙ ap (λ b. cond b (Some db) (lookup (is_at (slice_cmp nat_cmp other)) old)) (text_ties kind other ∙ bytes_differ other kind apart))
    ∙ sym (found old other)

-- the database that is found of a name
pub found_db : (entries : List (List ℕ × TileDb)) (kind : List ℕ) → option_map (λ t. t.db) (type_named (map type_db entries) kind) ≡ lookup (is_at (slice_cmp nat_cmp kind)) entries
found_db entries kind = ap (option_map (λ t. t.db)) (found entries kind) ∙ back (lookup (is_at (slice_cmp nat_cmp kind)) entries)
  where
    back : (o : Option TileDb) → option_map (λ t. t.db) (option_map (of_name kind) o) ≡ o
    back None = refl
    back (Some db) = refl
