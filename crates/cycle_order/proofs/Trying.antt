-- Nodes that are tried one by one.
use Rattle.std.proofs.Common.{◌≡◌, ℕ, ◌+◌, ◌<◌, ◌≤◌, ◌⊎◌, List, [], ◌∷◌, ◌++◌, length, get_or, take, drop, refl, sym, ap, subst, ◌∙◌, inl, inr, arith}
use Rattle.std.proofs.lemmas.Bool.{cases_eq}
use Rattle.std.proofs.lemmas.List.{append-nil, append_assoc, take-append-drop, take-append-le, take_all, take_more}
use Rattle.words.specs.Members.{In}
use Rattle.links.proofs.Members.{in_left, in_right, in_either, is_in, same_number}
use Rattle.net_links.proofs.Listed.{in_at, met_at, place_of}
use Rattle.cycle_order.specs.Orders.{IsInTurn}
use Rattle.cycle_order.specs.Trials.{AreOpposite, Grows, IsNext, IsTrimmed, Tries, TriesAll, Waits}
use Rattle.cycle_order.proofs.Turns.{none_in_turn, one_more_in_turn}

module _ (before : List (List ℕ)) where
  pub grows_none : (old : List ℕ) → Grows before old old
  grows_none old = record { added = []; is = sym (append-nil old); turn = λ t. t; within = λ h. h }

  pub grows_both : (old mid new : List ℕ) → Grows before old mid → Grows before mid new → Grows before old new
  grows_both old mid new a b = record {
    added = a.added ++ b.added;
    is = b.is ∙ (ap (λ zs. zs ++ b.added) a.is ∙ append_assoc old a.added b.added);
    turn = λ t. b.turn (a.turn t);
    within = λ h. b.within (a.within h);
  }

  -- what was listed is
  pub grown : (old new : List ℕ) → Grows before old new → (v : ℕ) → In old v → In new v
  grown old new g v i = subst (λ zs. In zs v) (sym g.is) (in_left old g.added v i)

  pub tries_listed : (old : List ℕ) (v : ℕ) → In old v → Tries before old v old
  tries_listed old v i = record { grows = grows_none old; tried = inl i }

  pub tries_waits : (old : List ℕ) (v : ℕ) → Waits before old v → Tries before old v old
  tries_waits old v w = record { grows = grows_none old; tried = inr w }

  pub tries_free : (old : List ℕ) (v : ℕ) → v < length before → (In old v → ⊥) → ((u : ℕ) → IsNext before v u → In old u) → Tries before old v (old ++ v ∷ [])
  tries_free old v below apart all = record {
    grows = record {
      added = v ∷ [];
      is = refl;
      turn = λ t. one_more_in_turn (λ u w. IsNext before w u) old v t apart all;
      within = λ h w i. elim (in_either old (v ∷ []) w i) [
        | inl j ↦ h w j
        | inr j ↦ elim j [ inl e ↦ subst (λ z. z < length before) e below | inr gone ↦ absurd gone ]
      ];
    };
    tried = inl (in_right old (v ∷ []) v (inl refl));
  }

  -- the first nodes of a row were tried
  pub record TriesSome (old row : List ℕ) (i : ℕ) (new : List ℕ) : Type 0 where
    pub grows : Grows before old new
    pub tried : (k : ℕ) → k < i → In new (get_or row k 0) ⊎ Waits before old (get_or row k 0)

  pub tries_none : (old row : List ℕ) → TriesSome old row 0 old
  tries_none old row = record { grows = grows_none old; tried = λ k h. absurd (omega arith) }

  pub tries_more : (old row : List ℕ) (i : ℕ) (mid : List ℕ) (v : ℕ) (new : List ℕ) → TriesSome old row i mid → i < length row → v ≡ get_or row i v → Tries before mid v new
      → TriesSome old row (i + 1) new
  tries_more old row i mid v new some below is t = record {
    grows = grows_both old mid new some.grows t.grows;
    tried = λ k h. elim (cases_eq k i) as (λ _. In new (get_or row k 0) ⊎ Waits before old (get_or row k 0)) [
      | inl e ↦ (let at : get_or row k 0 ≡ v = ap (λ z. get_or row z 0) e ∙ met_at row i v below is in
          subst (λ z. In new z ⊎ Waits before old z) (sym at) (elim t.tried as (λ _. In new v ⊎ Waits before old v) [
            | inl j ↦ inl j
            | inr w ↦ inr (w.0, (w.1.0, λ j. w.1.1 (grown old mid some.grows w.0 j)))
          ]))
      | inr d ↦ elim (some.tried k (omega arith)) as (λ _. In new (get_or row k 0) ⊎ Waits before old (get_or row k 0)) [
        | inl j ↦ inl (grown mid new t.grows (get_or row k 0) j)
        | inr w ↦ inr w
      ]
    ];
  }

  pub tries_all : (old row : List ℕ) (i : ℕ) (new : List ℕ) → length row ≤ i → TriesSome old row i new → TriesAll before old row new
  tries_all old row i new le some = record {
    grows = some.grows;
    tried = λ v j. (let p = place_of row v j in let b = p.below in subst (λ z. In new z ⊎ Waits before old z) p.is (some.tried p.place (omega arith)));
  }

  -- the first nodes that are listed were gone on from
  pub record InTurnTo (nodes : List ℕ) (at : ℕ) : Type 0 where
    pub turn : IsInTurn (λ u v. IsNext before v u) nodes
    pub within : (v : ℕ) → In nodes v → v < length before
    pub left : (v : ℕ) → v < length before → In nodes v ⊎ Waits before (take at nodes) v

  pub begun_turn : (all new : List ℕ) → ((v : ℕ) → v < length before → In all v) → TriesAll before [] all new → InTurnTo new 0
  begun_turn all new whole t = record {
    turn = t.grows.turn (none_in_turn (λ u v. IsNext before v u));
    within = t.grows.within (λ v gone. absurd gone);
    left = λ v below. t.tried v (whole v below);
  }

  pub more_in_turn : (next : List (List ℕ)) (nodes : List ℕ) (at x : ℕ) (row new : List ℕ) → AreOpposite next before → InTurnTo nodes at → at < length nodes → get_or nodes at 0 ≡ x
      → get_or next x [] ≡ row → TriesAll before nodes row new → InTurnTo new (at + 1)
  more_in_turn next nodes at x row new both turn below is row_is t =
      let g = t.grows in
      let front : take (at + 1) new ≡ take at nodes ++ x ∷ [] =
      ap (λ zs. take (at + 1) zs) g.is ∙ (take-append-le (at + 1) nodes g.added (omega arith) ∙ (take_more nodes at 0 below ∙ ap (λ z. take at nodes ++ z ∷ []) is)) in
      let early : (u : ℕ) → In (take (at + 1) new) u → In nodes u =
      λ u i. elim (in_either (take at nodes) (x ∷ []) u (subst (λ zs. In zs u) front i)) [
        | inl j ↦ in_take nodes at u j
        | inr j ↦ elim j [ inl e ↦ subst (In nodes) (is ∙ e) (at_place nodes at below) | inr gone ↦ absurd gone ]
      ] in
      record {
        turn = g.turn turn.turn;
        within = g.within turn.within;
        left = λ v known. elim (is_in same_number row v) as (λ _. In new v ⊎ Waits before (take (at + 1) new) v) [
          | inl i ↦ elim (t.tried v i) as (λ _. In new v ⊎ Waits before (take (at + 1) new) v) [
            | inl j ↦ inl j
            | inr w ↦ inr (w.0, (w.1.0, λ j. w.1.1 (early w.0 j)))
          ]
          | inr out ↦ elim (turn.left v known) as (λ _. In new v ⊎ Waits before (take (at + 1) new) v) [
            | inl j ↦ inl (grown nodes new g v j)
            | inr w ↦ inr (
              w.0,
              (
                w.1.0,
                λ j. elim (in_either (take at nodes) (x ∷ []) w.0 (subst (λ zs. In zs w.0) front j)) [
                  | inl k ↦ w.1.1 k
                  | inr k ↦ elim k [
                    | inl e ↦ out (subst (λ zs. In zs v) row_is (subst (λ z. IsNext next z v) (sym e) (both.forth w.0 v w.1.0)))
                    | inr gone ↦ gone
                  ]
                ],
              ),
            )
          ]
        ];
      }
    where
      in_take : (xs : List ℕ) (n u : ℕ) → In (take n xs) u → In xs u
      in_take xs n u i = subst (λ zs. In zs u) (take-append-drop n xs) (in_left (take n xs) (drop n xs) u i)

      at_place : (xs : List ℕ) (n : ℕ) → n < length xs → In xs (get_or xs n 0)
      at_place xs n h = in_at xs n h

  pub trimmed : (nodes : List ℕ) (at : ℕ) → length nodes ≤ at → InTurnTo nodes at → IsTrimmed before nodes
  trimmed nodes at le turn = record {
    turn = turn.turn;
    within = turn.within;
    left = λ v known. subst (λ zs. In nodes v ⊎ Waits before zs v) (take_all at nodes le) (turn.left v known);
  }
