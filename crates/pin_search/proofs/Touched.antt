-- Lists of wires, each once, and lists with an element for each wire.
use Rattle.std.proofs.Common.{◌≡◌, ℕ, ◌+◌, ◌≤◌, ◌<◌, ◌≢◌, Bool, true, false, List, [], ◌∷◌, ◌++◌, length, set, get_or, sym, subst, ap, ◌∙◌, refl, arith, ◌⊎◌, inl, inr, get_or-set_same, get_or-set_other, cond, replicate, zero, suc}
use Rattle.std.specs.Prelude.{nat_lt}
use Rattle.std.specs.List.{count_by}
use Rattle.std.proofs.lemmas.List.{length-set, length-replicate, length-append}
use Rattle.std.proofs.lemmas.List.Sums.{sum_by-set, count_by-le-length}
use Rattle.std.proofs.lemmas.Bool.{cases_eq, cases_Bool}
use borrow.Author.Tests.{ltb-true, ltb-false}
use Rattle.words.specs.Members.{In}
use Rattle.links.proofs.Members.{in_left, in_right, in_either}
use Rattle.pin_search.specs.Labels.{far}
use Rattle.pin_search.specs.Searches.{IsOnce}
use Rattle.pin_search.specs.Fronts.{noted}

-- a fact at each index of a list with one element written
pub at_each : (P : ℕ → ℕ → Type 0) (xs : List ℕ) (y c : ℕ) → y < length xs → P y c → ((x : ℕ) → x ≢ y → P x (get_or xs x 0)) → (x : ℕ) → P x (get_or (set xs y c) x 0)
at_each P xs y c h p q x = elim (cases_eq x y) as (λ _. P x (get_or (set xs y c) x 0)) [
  | inl e ↦ subst (λ z. P z (get_or (set xs y c) z 0)) (sym e) (subst (P y) (sym (get_or-set_same xs y c 0 h)) p)
  | inr n ↦ subst (P x) (sym (get_or-set_other xs y x c 0 n)) (q x n)
]

-- one wire more
pub in_more : (xs : List ℕ) (w x : ℕ) → In (xs ++ w ∷ []) x → In xs x ⊎ (x ≡ w)
in_more xs w x h = elim (in_either xs (w ∷ []) x h) [ inl i ↦ inl i | inr j ↦ elim j [ inl e ↦ inr (sym e) | inr q ↦ absurd q ] ]

pub in_last : (xs : List ℕ) (w : ℕ) → In (xs ++ w ∷ []) w
in_last xs w = in_right xs (w ∷ []) w (inl refl)

once_more : (xs : List ℕ) (w : ℕ) → IsOnce xs → (In xs w → ⊥) → IsOnce (xs ++ w ∷ [])
once_more [] w o n = ((λ i. i), tt)
once_more (x ∷ xs) w o n = (
  (λ i. elim (in_more xs w x i) [ inl j ↦ o.0 j | inr e ↦ n (inl e) ]),
  once_more xs w o.1 (λ i. n (inr i)),
)

-- there are no more touched wires than wires: each is marked once in a list with a place for each wire
marked_in : ℕ → List ℕ → List Bool
marked_in n [] = replicate n false
marked_in n (x ∷ xs) = set (marked_in n xs) x true

marked_len : (n : ℕ) (xs : List ℕ) → length (marked_in n xs) ≡ n
unfolding marked_in
marked_len n [] = length-replicate n false
marked_len n (x ∷ xs) = length-set (marked_in n xs) x true ∙ marked_len n xs

nothing_marked : (n x : ℕ) → get_or (replicate n false) x false ≡ false
nothing_marked zero x = refl
nothing_marked (suc n) zero = refl
nothing_marked (suc n) (suc x) = nothing_marked n x

unmarked : (n : ℕ) (xs : List ℕ) (w : ℕ) → (In xs w → ⊥) → get_or (marked_in n xs) w false ≡ false
unfolding marked_in
unmarked n [] w h = nothing_marked n w
unmarked n (x ∷ xs) w h = get_or-set_other (marked_in n xs) x w true false (λ e. h (inl (sym e))) ∙ unmarked n xs w (λ i. h (inr i))

none_counted : (n : ℕ) → count_by (λ b. b) (replicate n false) ≡ 0
none_counted zero = refl
none_counted (suc n) = let h = none_counted n in omega arith

marked_count : (n : ℕ) (xs : List ℕ) → IsOnce xs → ((x : ℕ) → In xs x → x < n) → count_by (λ b. b) (marked_in n xs) ≡ length xs
unfolding marked_in
marked_count n [] o h = none_counted n
marked_count n (x ∷ xs) o h =
    let k = marked_count n xs o.1 (λ y i. h y (inr i)) in
    let xn = h x (inl refl) in
    let l = marked_len n xs in
    let s = sum_by-set (λ (b : Bool). cond {A = ℕ} b 1 0) (marked_in n xs) x true false (omega arith) in
    let f : cond {A = ℕ} (get_or (marked_in n xs) x false) 1 0 ≡ 0 = ap (λ (b : Bool). cond {A = ℕ} b 1 0) (unmarked n xs x o.0) in
    omega arith

pub no_more : (n : ℕ) (xs : List ℕ) → IsOnce xs → ((x : ℕ) → In xs x → x < n) → length xs ≤ n
no_more n xs o h = let a = marked_count n xs o h in let b = marked_len n xs in let c = count_by-le-length (λ b. b) (marked_in n xs) in omega arith

-- so there is room for one that was not touched
pub room_for : (n : ℕ) (xs : List ℕ) (w : ℕ) → IsOnce xs → ((x : ℕ) → In xs x → x < n) → (In xs w → ⊥) → w < n → length xs < n
room_for n xs w o h out wn =
    let l = length-append xs (w ∷ []) in
    let k = no_more n (xs ++ w ∷ []) (once_more xs w o out) (λ x i. elim (in_more xs w x i) as (λ _. x < n) [ inl j ↦ h x j | inr e ↦ (let f : x ≡ w = e in omega arith) ]) in
    omega arith

-- what noting a wire leaves
pub record Noted (count : ℕ) (labels touched : List ℕ) (w : ℕ) (now : List ℕ) : Type 0 where
  pub wires : (x : ℕ) → In now x → x < count
  pub once : IsOnce now
  pub stays : (x : ℕ) → In touched x → In now x
  pub here : In now w
  pub others : (x : ℕ) → In now x → (x ≡ w) ⊎ In touched x
  pub longer : length touched ≤ length now
  pub one_more : far ≤ get_or labels w 0 → length now ≡ length touched + 1

pub is_noted : (count : ℕ) (labels touched : List ℕ) (w : ℕ) → w < count → ((x : ℕ) → In touched x → x < count) → ((x : ℕ) → In touched x → get_or labels x 0 < far) → IsOnce touched → (get_or labels w 0 < far → In touched w) → Noted count labels touched w (noted labels touched w)
is_noted count labels touched w wc wires near once known = elim (cases_Bool (nat_lt (get_or labels w 0) far)) as (λ _. Noted count labels touched w (noted labels touched w)) [
  | inl e ↦ let l : get_or labels w 0 < far = ltb-true (get_or labels w 0) far e in
      subst (λ (q : Bool). Noted count labels touched w (cond q touched (touched ++ w ∷ []))) (sym e)
      (record { wires = wires; once = once; stays = λ x i. i; here = known l; others = λ x i. inr i; longer = omega arith; one_more = λ f. absurd (omega arith) })
  | inr e ↦ let l : far ≤ get_or labels w 0 = ltb-false (get_or labels w 0) far e in
      let n = length-append touched (w ∷ []) in
      subst (λ (q : Bool). Noted count labels touched w (cond q touched (touched ++ w ∷ []))) (sym e)
      (record {
        wires = λ x i. elim (in_more touched w x i) as (λ _. x < count) [ inl j ↦ wires x j | inr f ↦ (let k : x ≡ w = f in omega arith) ];
        once = once_more touched w once (λ i. let k = near w i in absurd (omega arith));
        stays = λ x i. in_left touched (w ∷ []) x i;
        here = in_last touched w;
        others = λ x i. elim (in_more touched w x i) [ inl j ↦ inr j | inr f ↦ inl f ];
        longer = omega arith;
        one_more = λ f. omega arith;
      })
]
