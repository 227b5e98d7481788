-- The cell outputs are noted, each with itself as its feed.
use Rattle.std.proofs.Common.{◌≡◌, ℕ, ◌+◌, ◌<◌, ◌≤◌, List, [], Option, Some, None, length, get_or, refl, sym, ap, subst, ◌∙◌, inl, inr, arith}
use Rattle.std.proofs.lemmas.List.{get_or-set_same}
use Rattle.words.specs.Members.{In}
use Rattle.links.specs.Links.{here, Reaches}
use Rattle.net_links.proofs.Listed.{each_member, met, one_more_holds}
use Rattle.wire_feeds.specs.declared.noted.FedWire.{FedWire}
use Rattle.wire_feeds.specs.Rows.{Leads}
use Rattle.wire_feeds.specs.Walks.{IsUnfed, Waits, Walk, feeds_with, waiting_with}
use Rattle.wire_feeds.proofs.Noting.{feed_from, holds_on, keeps_feed, same_length, waits_now, waits_on}

-- the first of the outputs are noted, and nothing else
pub record Begun (outputs : List ℕ) (count i : ℕ) (feeds : List (Option ℕ)) (waiting : List FedWire) : Type 0 where
  pub long : length feeds ≡ count
  pub only : (w c : ℕ) → get_or feeds w None ≡ Some c → (w ≡ c) × In outputs c
  pub waits : (w c : ℕ) → get_or feeds w None ≡ Some c → Waits waiting w
  pub held : (f : FedWire) → In waiting f → get_or feeds f.wire None ≡ Some f.feed
  pub own : (k : ℕ) → k < i → get_or feeds (get_or outputs k 0) None ≡ Some (get_or outputs k 0)

none_fed : (feeds : List (Option ℕ)) → IsUnfed feeds → (w c : ℕ) → get_or feeds w None ≡ Some c → ⊥
none_fed feeds unfed w c h = let u = unfed w in let no : ⊥ = cc in no

pub begun_none : (outputs : List ℕ) (feeds : List (Option ℕ)) (waiting : List FedWire) → IsUnfed feeds → waiting ≡ [] → Begun outputs (length feeds) 0 feeds waiting
begun_none outputs feeds waiting unfed none = record {
  long = refl;
  only = λ w c h. absurd (none_fed feeds unfed w c h);
  waits = λ w c h. absurd (none_fed feeds unfed w c h);
  held = λ f i. absurd (subst (λ (fs : List FedWire). In fs f) none i);
  own = λ k h. absurd (omega arith);
}

pub begun_more : (outputs : List ℕ) (count i : ℕ) (feeds : List (Option ℕ)) (waiting : List FedWire) → Begun outputs count i feeds waiting
    → (v : ℕ) → i < length outputs → v ≡ get_or outputs i v → v < length feeds
    → (o : Option ℕ) → get_or feeds v None ≡ o → Begun outputs count (i + 1) (feeds_with o feeds v v) (waiting_with o waiting v v)
begun_more outputs count i feeds waiting begun v within item below (Some e) is = record {
  long = begun.long;
  only = begun.only;
  waits = begun.waits;
  held = begun.held;
  own = one_more_holds (λ x. get_or feeds x None ≡ Some x) outputs i v within item (is ∙ ap (λ z. Some z) (sym (begun.only v e is).0)) begun.own;
}
begun_more outputs count i feeds waiting begun v within item below None is = record {
  long = same_length feeds v v None ∙ begun.long;
  only = λ w d h. elim (feed_from feeds v v None is below w d h) [ inl old ↦ begun.only w d old | inr new ↦ (new.0 ∙ new.1, subst (In outputs) new.1 (met outputs i v within item)) ];
  waits = λ w d h. elim (feed_from feeds v v None is below w d h) [
    | inl old ↦ waits_on feeds v v None waiting w (begun.waits w d old)
    | inr new ↦ subst (λ x. Waits (waiting_with None waiting v v) x) (sym new.0) (waits_now feeds v v waiting)
  ];
  held = holds_on feeds v v None waiting is below begun.held;
  own = one_more_holds (λ x. get_or (feeds_with None feeds v v) x None ≡ Some x) outputs i v within item (get_or-set_same feeds v (Some v) None below)
      (λ k h. keeps_feed feeds v v None is (get_or outputs k 0) (get_or outputs k 0) (begun.own k h));
}

-- once all outputs are noted, a walk begins
pub begun_walk : (outputs : List ℕ) (count i : ℕ) (feeds : List (Option ℕ)) (waiting : List FedWire) → Begun outputs count i feeds waiting → length outputs ≤ i
    → (rows : List (List ℕ)) → length rows ≡ count → Walk rows outputs (length rows) feeds waiting
begun_walk outputs count i feeds waiting begun all rows same = record {
  long = begun.long ∙ sym same;
  reached = λ w c h. let o = begun.only w c h in record { output = o.1; reach = subst (λ x. Reaches (Leads rows) c x) (sym o.0) here };
  spread = λ w c h. inr (inl (begun.waits w c h));
  held = begun.held;
  own = each_member (λ x. get_or feeds x None ≡ Some x) outputs (λ k h. begun.own k (omega arith));
}
