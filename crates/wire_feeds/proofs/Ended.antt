-- When no wire waits, all wires have the feeds that they have.
use Rattle.std.proofs.Common.{◌≡◌, ℕ, List, [], Option, length, sym, subst, inl, inr, arith}
use Rattle.words.specs.Members.{In}
use Rattle.links.specs.Links.{Below, Routing, here, onto}
use Rattle.links.proofs.Walks.{reaches_by}
use Rattle.wire_feeds.specs.Rows.{AreFeeds, HasNext}
use Rattle.wire_feeds.specs.Walks.{IsFed, Walk}
use Rattle.wire_feeds.proofs.Spreading.{fed_below}

module _ (rows : List (List ℕ)) (feeds : List (Option ℕ)) (r : Routing) (has : HasNext r rows) (walk : Walk rows r.outputs (length rows) feeds []) where
  reached_is_fed : (c : ℕ) → In r.outputs c → {w : ℕ} → Below r c w → IsFed feeds w
  reached_is_fed c output here = (c, walk.own c output)
  reached_is_fed c output {w} (onto {b} reach drives) =
      let fed = reached_is_fed c output reach in
      elim (walk.spread b fed.0 fed.1) [
        | inl none ↦ absurd (let l = fed_below feeds b fed.0 fed.1 in let long = walk.long in omega arith)
        | inr more ↦ elim more [ inl waits ↦ absurd waits.1.0 | inr all ↦ all w ((has b w).0 drives) ]
      ]

  pub feeds_are : AreFeeds r feeds
  feeds_are = record {
    fed = λ w c h. let reached = walk.reached w c h in record { output = reached.output; reach = reaches_by (λ x y s. (has x y).1 s) reached.reach };
    unfed = λ w none fed. let f = reached_is_fed fed.0 fed.1.output fed.1.reach in let e = f.1 in let no : ⊥ = cc in no;
    own = walk.own;
  }

pub walk_feeds : (rows : List (List ℕ)) (outputs : List ℕ) (feeds : List (Option ℕ)) → Walk rows outputs (length rows) feeds []
    → (r : Routing) → HasNext r rows → r.outputs ≡ outputs → AreFeeds r feeds
walk_feeds rows outputs feeds walk r has same = feeds_are rows feeds r has (subst (λ (os : List ℕ). Walk rows os (length rows) feeds []) (sym same) walk)
