-- Names that are known.
use Rattle.std.proofs.Common.{◌≡◌, ℕ, List, [], ◌∷◌, ◌++◌, Bool, true, false, not, ◌||◌, refl, sym, ap, ◌∙◌, Bor, append_assoc, length, arith}
use Rattle.std.specs.declared.cmp.Ordering.{Ordering}
use Rattle.std.specs.declared.cmp.Ordering.TheVariants.{Less, Equal, Greater}
use Rattle.std.specs.Ordering.{nat_cmp, match_ordering, is_eq, is_lt}
use Rattle.std.specs.List.{list_any}
use Rattle.std.specs.BTreeSet.{insert_key}
use Rattle.std.specs.Cmp.Lexicographic.{slice_cmp, texts_ties, same_text, nat_list_eq_equiv, nat_list_cmp_total}
use Rattle.std.specs.Str.{bytes_eq}
use Rattle.std.proofs.lemmas.List.Folds.{list_any-append}
use Rattle.text_cut.specs.Known.{knows, AreBelow, IsBelowAll, AreAscending}

abbrev pub name_cmp : Bor (List ℕ) → Bor (List ℕ) → Ordering
name_cmp a b = slice_cmp nat_cmp a.now b.now

or_swap : (a b c : Bool) → a || (b || c) ≡ b || (a || c)
or_swap true true c = refl
or_swap true false c = refl
or_swap false b c = refl

or_twice : (a b : Bool) → a || b ≡ a || (a || b)
or_twice true b = refl
or_twice false b = refl

pub less_of : (o : Ordering) → is_lt o ≡ true → o ≡ Less
less_of Less h = refl
less_of Equal h = absurd (let no : ⊥ = cc in no)
less_of Greater h = absurd (let no : ⊥ = cc in no)

-- ---- the set

-- a set with one more name knows that name too
pub insert_knows : (ks : List (Bor (List ℕ))) (key : Bor (List ℕ)) (q : List ℕ) → knows (insert_key name_cmp ks key) q ≡ bytes_eq key.now q || knows ks q
insert_knows [] key q = refl
insert_knows (x ∷ xs) key q = go (slice_cmp nat_cmp key.now x.now) refl (insert_knows xs key q)
  where
    go : (o : Ordering) → slice_cmp nat_cmp key.now x.now ≡ o → knows (insert_key name_cmp xs key) q ≡ bytes_eq key.now q || knows xs q
        → knows (match_ordering o (key ∷ x ∷ xs) (x ∷ xs) (x ∷ insert_key name_cmp xs key)) q ≡ bytes_eq key.now q || (bytes_eq x.now q || knows xs q)
    go Less same ih = refl
    go Equal same ih =
        let equal : key.now ≡ x.now = same_text key.now x.now (sym (texts_ties key.now x.now ∙ ap is_eq same)) in
        or_twice (bytes_eq x.now q) (knows xs q) ∙ ap (λ n. bytes_eq n q || (bytes_eq x.now q || knows xs q)) (sym equal)
    go Greater same ih = ap (λ b. bytes_eq x.now q || b) ih ∙ or_swap (bytes_eq x.now q) (bytes_eq key.now q) (knows xs q)

-- whether the set holds a name
pub held_known : (ks : List (Bor (List ℕ))) (key : Bor (List ℕ)) → list_any (λ k. is_eq (slice_cmp nat_cmp key.now k.now)) ks ≡ knows ks key.now
held_known [] key = refl
held_known (x ∷ xs) key =
    ap (λ b. b || list_any (λ k. is_eq (slice_cmp nat_cmp key.now k.now)) xs) (sym (texts_ties key.now x.now) ∙ nat_list_eq_equiv.symm key.now x.now)
    ∙ ap (λ b. bytes_eq x.now key.now || b) (held_known xs key)

-- a name that goes from the end of the list into the set
pub moved : (front : List (Bor (List ℕ))) (name : Bor (List ℕ)) (ks : List (Bor (List ℕ))) (q : List ℕ)
    → knows (front ++ insert_key name_cmp ks name) q ≡ knows ((front ++ name ∷ []) ++ ks) q
moved front name ks q =
    list_any-append (λ n. bytes_eq n.now q) front (insert_key name_cmp ks name)
    ∙ ap (λ b. knows front q || b) (insert_knows ks name q)
    ∙ sym (list_any-append (λ n. bytes_eq n.now q) front (name ∷ ks))
    ∙ ap (λ ns. knows ns q) (sym (append_assoc front (name ∷ []) ks))

-- ---- names that ascend

below_trans : (n : List ℕ) (m : List ℕ) (ns : List (Bor (List ℕ))) → slice_cmp nat_cmp n m ≡ Less → IsBelowAll m ns → IsBelowAll n ns
below_trans n m [] h k = tt
below_trans n m (x ∷ ns) h k = (nat_list_cmp_total.trans n m x.now h k.0, below_trans n m ns h k.1)

-- the last of a list stands behind the first
below_last : (n : List ℕ) (front : List (Bor (List ℕ))) (last : Bor (List ℕ)) → IsBelowAll n (front ++ last ∷ []) → slice_cmp nat_cmp n last.now ≡ Less
below_last n [] last h = h.0
below_last n (x ∷ front) last h = below_last n front last h.1

-- what comes behind the last comes behind all
pub below_all : (front : List (Bor (List ℕ))) (last : Bor (List ℕ)) (name : List ℕ) → AreAscending (front ++ last ∷ []) → slice_cmp nat_cmp last.now name ≡ Less → AreBelow (front ++ last ∷ []) name
below_all [] last name up h = (h, tt)
below_all (x ∷ front) last name up h = (nat_list_cmp_total.trans x.now last.now name (below_last x.now front last up.0) h, below_all front last name up.1 h)

below_with_one : (n : List ℕ) (ns : List (Bor (List ℕ))) (name : Bor (List ℕ)) → IsBelowAll n ns → slice_cmp nat_cmp n name.now ≡ Less → IsBelowAll n (ns ++ name ∷ [])
below_with_one n [] name h k = (k, tt)
below_with_one n (x ∷ ns) name h k = (h.0, below_with_one n ns name h.1 k)

-- one more behind all
pub ascending_with_one : (ns : List (Bor (List ℕ))) (name : Bor (List ℕ)) → AreAscending ns → AreBelow ns name.now → AreAscending (ns ++ name ∷ [])
ascending_with_one [] name up h = (tt, tt)
ascending_with_one (x ∷ ns) name up h = (below_with_one x.now ns name up.0 h.0, ascending_with_one ns name up.1 h.1)

other : (n name : List ℕ) → slice_cmp nat_cmp n name ≡ Less → bytes_eq n name ≡ false
other n name h = texts_ties n name ∙ ap is_eq h

-- what comes behind all is none of them
pub new_behind : (ns : List (Bor (List ℕ))) (name : List ℕ) → AreBelow ns name → knows ns name ≡ false
new_behind [] name h = refl
new_behind (x ∷ ns) name h = ap (λ b. b || knows ns name) (other x.now name h.0) ∙ new_behind ns name h.1

-- one more at the end is known too
pub pushed_known : (ns : List (Bor (List ℕ))) (name : Bor (List ℕ)) (q : List ℕ) → knows (ns ++ name ∷ []) q ≡ bytes_eq name.now q || knows ns q
pushed_known ns name q = list_any-append (λ n. bytes_eq n.now q) ns (name ∷ []) ∙ turn (knows ns q) (bytes_eq name.now q)
  where
    turn : (a b : Bool) → a || (b || false) ≡ b || a
    turn true true = refl
    turn true false = refl
    turn false true = refl
    turn false false = refl

pub none_there : (ns : List (Bor (List ℕ))) → length ns ≡ 0 → ns ≡ []
none_there [] h = refl
none_there (n ∷ ns) h = absurd (let no : ⊥ = omega arith in no)
