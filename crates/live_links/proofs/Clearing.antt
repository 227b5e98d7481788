-- Feeds that were given are cleared again.
use Rattle.std.proofs.Common.{◌≡◌, ℕ, ◌≤◌, List, [], ◌∷◌, ◌++◌, Option, Some, None, length, get_or, set, refl, sym, ap, ◌∙◌, arith}
use Rattle.std.proofs.lemmas.List.{set-set, set-get_or, length-set, length-append}
use Rattle.live_links.specs.Feeding.{cleared, fed_with}
use Rattle.wire_feeds.specs.Walks.{feeds_with}

-- the last one is cleared first
pub cleared_push : (fed : List ℕ) (w : ℕ) (feeds : List (Option ℕ)) → cleared (fed ++ w ∷ []) feeds ≡ cleared fed (set feeds w None)
cleared_push [] w feeds = refl
cleared_push (v ∷ vs) w feeds = ap (λ (fs : List (Option ℕ)). set fs v None) (cleared_push vs w feeds)

-- a feed that a wire didn't have is cleared
pub cleared_one : (feeds : List (Option ℕ)) (w c : ℕ) → get_or feeds w None ≡ None → set (set feeds w (Some c)) w None ≡ feeds
cleared_one feeds w c none = set-set feeds w (Some c) None ∙ (ap (λ (o : Option ℕ). set feeds w o) (sym none) ∙ set-get_or feeds w None)

pub cleared_noted : (feeds : List (Option ℕ)) (fed : List ℕ) (w c : ℕ) (o : Option ℕ) → get_or feeds w None ≡ o
    → cleared (fed_with o fed w) (feeds_with o feeds w c) ≡ cleared fed feeds
cleared_noted feeds fed w c (Some d) is = refl
cleared_noted feeds fed w c None is = cleared_push fed w (set feeds w (Some c)) ∙ ap (cleared fed) (cleared_one feeds w c is)

pub length-cleared : (fed : List ℕ) (feeds : List (Option ℕ)) → length (cleared fed feeds) ≡ length feeds
length-cleared [] feeds = refl
length-cleared (w ∷ ws) feeds = length-set (cleared ws feeds) w None ∙ length-cleared ws feeds

pub no_fewer : (o : Option ℕ) (fed : List ℕ) (w : ℕ) → length fed ≤ length (fed_with o fed w)
no_fewer (Some d) fed w = omega arith
no_fewer None fed w = let l = length-append fed (w ∷ []) in omega arith
