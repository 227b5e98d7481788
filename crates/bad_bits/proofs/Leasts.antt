-- The least of those with a property.
use Rattle.std.proofs.Common.{◌≡◌, ◌≢◌, ℕ, ◌+◌, ◌<◌, ◌≤◌, ◌↔◌, ◌⊎◌, Bool, true, false, cond, List, [], ◌∷◌, ◌++◌, length, take, get_or, find, Option, None, Some, refl, sym, ap, subst, ◌∙◌, inl, inr}
use Rattle.std.specs.declared.cmp.Ordering.{Ordering}
use Rattle.std.specs.declared.cmp.Ordering.TheVariants.{Less, Equal, Greater}
use Rattle.std.specs.Ordering.{nat_cmp, is_gt, ordering_reverse}
use Rattle.std.specs.Cmp.{nat_cmp_total}
use Rattle.std.specs.Cmp.Lexicographic.{nat_list_cmp_total}
use Rattle.std.proofs.lemmas.Bool.{false≢true}
use Rattle.std.proofs.lemmas.Cmp.{upto, tied_itself}
use Rattle.std.proofs.lemmas.List.{take_all, take_more}
use Rattle.words.specs.Members.{In}
use Rattle.links.proofs.Members.{in_either, in_left, in_right}
use Rattle.fabric.specs.InOrder.{IsRising}
use Rattle.fabric.specs.Wires.{name_cmp}
use Rattle.bad_bits.specs.Least.{LeastOrNone, NamesOf, lesser_of}

not_after : (o : Ordering) → o ≢ Greater → is_gt o ≡ false
not_after Less h = refl
not_after Equal h = refl
not_after Greater h = absurd (h refl)

after_not : (o : Ordering) → is_gt o ≡ false → o ≢ Greater
after_not Less h = λ e. (let no : ⊥ = cc in no)
after_not Equal h = λ e. (let no : ⊥ = cc in no)
after_not Greater h = λ e. false≢true (sym h)

turned : (o : Ordering) → is_gt o ≡ true → is_gt (ordering_reverse o) ≡ false
turned Less e = absurd (false≢true e)
turned Equal e = absurd (false≢true e)
turned Greater e = refl

-- nothing comes after itself
itself : (n : List ℕ) → name_cmp n n ≢ Greater
itself n = after_not (name_cmp n n) (ap is_gt (tied_itself nat_list_cmp_total n))

pub number_itself : (n : ℕ) → nat_cmp n n ≢ Greater
number_itself n = after_not (nat_cmp n n) (ap is_gt (tied_itself nat_cmp_total n))

-- the least of those with a property is that of those with one that is as strong
pub least_same : {X : Type 0} (cmp : X → X → Ordering) (P Q : X → Type 0) → ((x : X) → P x ↔ Q x) → (o : Option X) → LeastOrNone cmp P o → LeastOrNone cmp Q o
least_same cmp P Q same None h = λ x q. h x ((same x).1 q)
least_same cmp P Q same (Some x) h = record { has = (same x).0 h.has; least = λ y q. h.least y ((same y).1 q) }

-- the lesser of two least names
module _ (Has More Both : List ℕ → Type 0) (joins : (n : List ℕ) → Both n ↔ (Has n ⊎ More n)) where
  pub lesser_least : (a b : Option (List ℕ)) → LeastOrNone name_cmp Has a → LeastOrNone name_cmp More b → LeastOrNone name_cmp Both (lesser_of a b)
  lesser_least None None h m = λ n both. elim ((joins n).0 both) [ inl i ↦ h n i | inr j ↦ m n j ]
  lesser_least None (Some y) h m = record {
    has = (joins y).1 (inr m.has);
    least = λ n both. elim ((joins n).0 both) [ inl i ↦ absurd (h n i) | inr j ↦ m.least n j ];
  }
  lesser_least (Some x) None h m = record {
    has = (joins x).1 (inl h.has);
    least = λ n both. elim ((joins n).0 both) [ inl i ↦ h.least n i | inr j ↦ absurd (m n j) ];
  }
  lesser_least (Some x) (Some y) h m = go (is_gt (name_cmp x y)) refl
    where
      go : (c : Bool) → is_gt (name_cmp x y) ≡ c → LeastOrNone name_cmp Both (cond c (Some y) (Some x))
      go true e = record {
        has = (joins y).1 (inr m.has);
        least = λ n both. elim ((joins n).0 both) [
          | inl i ↦ (let lower : is_gt (name_cmp y x) ≡ false = ap is_gt (nat_list_cmp_total.antisymm y x) ∙ turned (name_cmp x y) e in
              after_not (name_cmp y n) (upto nat_list_cmp_total y x n lower (not_after (name_cmp x n) (h.least n i))))
          | inr j ↦ m.least n j
        ];
      }
      go false e = record {
        has = (joins x).1 (inl h.has);
        least = λ n both. elim ((joins n).0 both) [
          | inl i ↦ h.least n i
          | inr j ↦ after_not (name_cmp x n) (upto nat_list_cmp_total x y n e (not_after (name_cmp y n) (m.least n j)))
        ];
      }

-- the least name of the elements of a list, one more at a time
module _ {X : Type 0} (named : X → Option (List ℕ)) where
  pub names_none : LeastOrNone name_cmp (NamesOf named []) None
  names_none = λ n h. h.1.0

  one_name : (x : X) (o : Option (List ℕ)) → named x ≡ o → LeastOrNone name_cmp (λ n. named x ≡ Some n) o
  one_name x None e = λ n h. (let wrong : None ≡ Some n = sym e ∙ h in let no : ⊥ = cc in no)
  one_name x (Some m) e = record {
    has = e;
    least = λ n h. (let both : Some m ≡ Some n = sym e ∙ h in let same : m ≡ n = cc in subst (λ z. name_cmp m z ≢ Greater) same (itself m));
  }

  joined : (xs : List X) (x : X) (n : List ℕ) → NamesOf named (xs ++ x ∷ []) n ↔ (NamesOf named xs n ⊎ (named x ≡ Some n))
  joined xs x n = (
    (λ h. elim (in_either xs (x ∷ []) h.0 h.1.0) [
      | inl i ↦ inl (h.0, (i, h.1.1))
      | inr j ↦ elim j [ inl e ↦ inr (ap named e ∙ h.1.1) | inr k ↦ absurd k ]
    ]),
    (λ h. elim h [
      | inl g ↦ (g.0, (in_left xs (x ∷ []) g.0 g.1.0, g.1.1))
      | inr e ↦ (x, (in_right xs (x ∷ []) x (inl refl), e))
    ]),
  )

  pub names_more : (xs : List X) (i : ℕ) (x : X) (least next : Option (List ℕ)) → i < length xs → x ≡ get_or xs i x → next ≡ lesser_of least (named x) → LeastOrNone name_cmp (NamesOf named (take i xs)) least
      → LeastOrNone name_cmp (NamesOf named (take (i + 1) xs)) next
  names_more xs i x least next below is made so_far =
      let front : take i xs ++ x ∷ [] ≡ take (i + 1) xs = sym (take_more xs i x below ∙ ap (λ z. take i xs ++ z ∷ []) (sym is)) in
      subst (λ o. LeastOrNone name_cmp (NamesOf named (take (i + 1) xs)) o) (sym made)
      (subst (λ zs. LeastOrNone name_cmp (NamesOf named zs) (lesser_of least (named x))) front
      (lesser_least (NamesOf named (take i xs)) (λ n. named x ≡ Some n) (NamesOf named (take i xs ++ x ∷ [])) (joined (take i xs) x) least (named x) so_far (one_name x (named x) refl)))

  pub names_all : (xs : List X) (i : ℕ) (least : Option (List ℕ)) → length xs ≤ i → LeastOrNone name_cmp (NamesOf named (take i xs)) least → LeastOrNone name_cmp (NamesOf named xs) least
  names_all xs i least past so_far = subst (λ zs. LeastOrNone name_cmp (NamesOf named zs) least) (take_all i xs past) so_far

-- the first of a rising list that passes is the least
pub find_least : (t : ℕ → Bool) (xs : List ℕ) → IsRising nat_cmp xs → LeastOrNone nat_cmp (λ w. In xs w × (t w ≡ true)) (find t xs)
find_least t [] r = λ w h. h.0
find_least t (x ∷ xs) r = go (t x) refl (find_least t xs r.1)
  where
    later : (y : ℕ) → In xs y → nat_cmp x y ≢ Greater
    later y i = λ g. (let wrong : Less ≡ Greater = sym (r.0 y i) ∙ g in let no : ⊥ = cc in no)

    behind : t x ≡ false → (o : Option ℕ) → LeastOrNone nat_cmp (λ w. In xs w × (t w ≡ true)) o → LeastOrNone nat_cmp (λ w. In (x ∷ xs) w × (t w ≡ true)) o
    behind e None h = λ w i. elim i.0 [ inl s ↦ false≢true (sym e ∙ (ap t s ∙ i.1)) | inr j ↦ h w (j, i.1) ]
    behind e (Some y) h = record {
      has = (inr h.has.0, h.has.1);
      least = λ w i. elim i.0 [ inl s ↦ absurd (false≢true (sym e ∙ (ap t s ∙ i.1))) | inr j ↦ h.least w (j, i.1) ];
    }

    go : (b : Bool) → t x ≡ b → LeastOrNone nat_cmp (λ w. In xs w × (t w ≡ true)) (find t xs) → LeastOrNone nat_cmp (λ w. In (x ∷ xs) w × (t w ≡ true)) (cond b (Some x) (find t xs))
    go true e ih = record { has = (inl refl, e); least = λ y h. elim h.0 [ inl s ↦ subst (λ z. nat_cmp x z ≢ Greater) s (number_itself x) | inr j ↦ later y j ] }
    go false e ih = behind e (find t xs) ih
