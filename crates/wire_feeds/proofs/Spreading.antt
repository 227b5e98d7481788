-- A wire that waits leaves, and the wires next to it get its feed.
use Rattle.std.proofs.Common.{◌≡◌, ℕ, ◌+◌, ◌<◌, ◌≤◌, List, [], ◌∷◌, ◌++◌, Option, Some, None, length, get_or, refl, sym, ap, subst, ◌∙◌, inl, inr, arith}
use Rattle.std.proofs.lemmas.Bool.{cases_lt}
use Rattle.std.proofs.lemmas.List.{get_or_past}
use Rattle.words.specs.Members.{In}
use Rattle.links.specs.Links.{onto}
use Rattle.links.proofs.Members.{in_either, in_left, in_right}
use Rattle.net_links.proofs.Listed.{each_member, met, one_more_holds}
use Rattle.wire_feeds.specs.declared.noted.FedWire.{FedWire}
use Rattle.wire_feeds.specs.Rows.{Leads}
use Rattle.wire_feeds.specs.Walks.{IsFed, Walk, feeds_with, waiting_with}
use Rattle.wire_feeds.proofs.Noting.{fed_now, keeps_feed, walk_noted}

-- only a wire that there is has a feed
pub fed_below : (feeds : List (Option ℕ)) (w c : ℕ) → get_or feeds w None ≡ Some c → w < length feeds
fed_below feeds w c h = elim (cases_lt w (length feeds)) [
  | inl l ↦ l
  | inr past ↦ absurd (let none = get_or_past feeds w None past in let no : ⊥ = cc in no)
]

-- a wire left those that wait
pub record Leaves (rows : List (List ℕ)) (outputs : List ℕ) (feeds : List (Option ℕ)) (waiting : List FedWire) (from : FedWire) : Type 0 where
  pub walk : Walk rows outputs from.wire feeds waiting
  pub fed : get_or feeds from.wire None ≡ Some from.feed
  pub below : from.wire < length rows

pub left : (rows : List (List ℕ)) (outputs : List ℕ) (feeds : List (Option ℕ)) (waiting rest : List FedWire) (from : FedWire) → waiting ≡ rest ++ from ∷ []
    → Walk rows outputs (length rows) feeds waiting → Leaves rows outputs feeds rest from
left rows outputs feeds waiting rest from is walk =
    let fed = walk.held from (subst (λ (fs : List FedWire). In fs from) (sym is) (in_right rest (from ∷ []) from (inl refl))) in
    let below = fed_below feeds from.wire from.feed fed in
    record {
      walk = record {
        long = walk.long;
        reached = walk.reached;
        spread = λ w c h. elim (walk.spread w c h) [
          | inl none ↦ absurd (let b = fed_below feeds w c h in let l = walk.long in omega arith)
          | inr more ↦ elim more [
            | inl waits ↦ elim (in_either rest (from ∷ []) waits.0 (subst (λ (fs : List FedWire). In fs waits.0) is waits.1.0)) [
              | inl j ↦ inr (inl (waits.0, (j, waits.1.1)))
              | inr j ↦ elim j [ inl e ↦ inl (sym waits.1.1 ∙ sym (ap (λ (f : FedWire). f.wire) e)) | inr k ↦ absurd k ]
            ]
            | inr all ↦ inr (inr all)
          ]
        ];
        held = λ f i. walk.held f (subst (λ (fs : List FedWire). In fs f) (sym is) (in_left rest (from ∷ []) f i));
        own = walk.own;
      };
      fed = fed;
      below = let l = walk.long in omega arith;
    }

-- the first wires of the row have a feed
pub record SpreadTo (rows : List (List ℕ)) (outputs row : List ℕ) (from feed : ℕ) (i : ℕ) (feeds : List (Option ℕ)) (waiting : List FedWire) : Type 0 where
  pub walk : Walk rows outputs from feeds waiting
  pub fed : get_or feeds from None ≡ Some feed
  pub row_fed : (k : ℕ) → k < i → IsFed feeds (get_or row k 0)

pub spread_more : (rows : List (List ℕ)) (outputs row : List ℕ) (from feed : ℕ) (i : ℕ) (feeds : List (Option ℕ)) (waiting : List FedWire)
    → get_or rows from [] ≡ row → SpreadTo rows outputs row from feed i feeds waiting
    → (v : ℕ) → i < length row → v ≡ get_or row i v → v < length feeds
    → (o : Option ℕ) → get_or feeds v None ≡ o → SpreadTo rows outputs row from feed (i + 1) (feeds_with o feeds v feed) (waiting_with o waiting v feed)
spread_more rows outputs row from feed i feeds waiting row_is to v within item below o is =
    let reached = to.walk.reached from feed to.fed in
    let leads : Leads rows from v = subst (λ (r : List ℕ). In r v) (sym row_is) (met row i v within item) in
    record {
      walk = walk_noted feeds v feed rows outputs from waiting to.walk (record { output = reached.output; reach = onto reached.reach leads }) below o is;
      fed = keeps_feed feeds v feed o is from feed to.fed;
      row_fed = one_more_holds (λ x. IsFed (feeds_with o feeds v feed) x) row i v within item (fed_now feeds v feed o is below)
          (λ k h. let f = to.row_fed k h in (f.0, keeps_feed feeds v feed o is (get_or row k 0) f.0 f.1));
    }

-- once the whole row has a feed, no wire is busy
pub spread_whole : (rows : List (List ℕ)) (outputs row : List ℕ) (from feed : ℕ) (i : ℕ) (feeds : List (Option ℕ)) (waiting : List FedWire)
    → get_or rows from [] ≡ row → length row ≤ i → SpreadTo rows outputs row from feed i feeds waiting → Walk rows outputs (length rows) feeds waiting
spread_whole rows outputs row from feed i feeds waiting row_is whole to = record {
  long = to.walk.long;
  reached = to.walk.reached;
  spread = λ w c h. elim (to.walk.spread w c h) [
    | inl busy ↦ inr (inr (λ v leads. each_member (IsFed feeds) row (λ k l. to.row_fed k (omega arith)) v (subst (λ (r : List ℕ). In r v) (ap (λ z. get_or rows z []) busy ∙ row_is) leads)))
    | inr rest ↦ inr rest
  ];
  held = to.walk.held;
  own = to.walk.own;
}
