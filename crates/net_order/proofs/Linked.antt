-- Links that are gathered pin by pin and part by part.
use Rattle.std.proofs.Common.{◌≡◌, ℕ, ◌+◌, ◌<◌, ◌≤◌, List, [], ◌∷◌, ◌++◌, Option, None, Some, length, get_or, drop, refl, sym, ap, ◌∙◌}
use Rattle.std.specs.Prelude.{slice_range}
use Rattle.std.proofs.lemmas.List.{append-nil, append_assoc, drop_all, drop_more}
use Rattle.circuit.specs.Cells.{Cells}
use Rattle.circuit.specs.Parts.{Source}
use Rattle.circuit_parts.specs.Flat.{first_pin}
use Rattle.net_order.specs.declared.feeding.TableLink.{TableLink}
use Rattle.net_order.specs.Links.{links_from, links_into, links_of}

-- what one pin adds
abbrev pub link_of : ℕ → Option ℕ → List TableLink
link_of k None = []
link_of k (Some j) = record { source = j; table = k } ∷ []

into_next : (k : ℕ) (feed : Option ℕ) (feeds : List (Option ℕ)) → links_into k (feed ∷ feeds) ≡ link_of k feed ++ links_into k feeds
into_next k None feeds = refl
into_next k (Some j) feeds = refl

-- one more pin
pub into_more : (k : ℕ) (feeds : List (Option ℕ)) (i : ℕ) (d : Option ℕ) (feed : Option ℕ) (ys more whole : List TableLink) → i < length feeds → get_or feeds i d ≡ feed
    → ys ++ links_into k (drop i feeds) ≡ whole → more ≡ ys ++ link_of k feed → more ++ links_into k (drop (i + 1) feeds) ≡ whole
into_more k feeds i d feed ys more whole below at all is =
    let rest = links_into k (drop (i + 1) feeds) in
    let step : links_into k (drop i feeds) ≡ link_of k feed ++ rest =
    ap (links_into k) (drop_more feeds i d below) ∙ (into_next k (get_or feeds i d) (drop (i + 1) feeds) ∙ ap (λ f. link_of k f ++ rest) at) in
    ap (λ zs. zs ++ rest) is ∙ (append_assoc ys (link_of k feed) rest ∙ (ap (λ zs. ys ++ zs) (sym step) ∙ all))

pub into_all : (k : ℕ) (feeds : List (Option ℕ)) (i : ℕ) (ys whole : List TableLink) → length feeds ≤ i → ys ++ links_into k (drop i feeds) ≡ whole → ys ≡ whole
into_all k feeds i ys whole over all = sym (append-nil ys) ∙ (ap (λ zs. ys ++ zs) (sym (ap (links_into k) (drop_all i feeds over))) ∙ all)

-- one more part
pub from_more : (cells : Cells) (feeds : List (Option ℕ)) (ss : List Source) (i : ℕ) (d : Source) (ys more whole : List TableLink) → i < length ss
    → ys ++ links_from cells feeds i (drop i ss) ≡ whole
    → more ≡ ys ++ links_of i (get_or ss i d).kind (slice_range feeds (first_pin cells i) (first_pin cells (i + 1)))
    → more ++ links_from cells feeds (i + 1) (drop (i + 1) ss) ≡ whole
from_more cells feeds ss i d ys more whole below all is =
    let rest = links_from cells feeds (i + 1) (drop (i + 1) ss) in
    let own = links_of i (get_or ss i d).kind (slice_range feeds (first_pin cells i) (first_pin cells (i + 1))) in
    ap (λ zs. zs ++ rest) is ∙ (append_assoc ys own rest ∙ (ap (λ zs. ys ++ zs) (sym (ap (links_from cells feeds i) (drop_more ss i d below))) ∙ all))

pub from_all : (cells : Cells) (feeds : List (Option ℕ)) (ss : List Source) (i : ℕ) (ys whole : List TableLink) → length ss ≤ i → ys ++ links_from cells feeds i (drop i ss) ≡ whole → ys ≡ whole
from_all cells feeds ss i ys whole over all = sym (append-nil ys) ∙ (ap (λ zs. ys ++ zs) (sym (ap (links_from cells feeds i) (drop_all i ss over))) ∙ all)
