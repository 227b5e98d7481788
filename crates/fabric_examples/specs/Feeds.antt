-- Which register or clock pad feeds which pin of the toggle.
use Rattle.std.specs.Prelude.{ℕ, List, [], ◌∷◌, codes}

pub record FeedText : Type 0 where
  pub feed : List ℕ
  pub pin : List ℕ

abbrev pub feeds : List ℕ → List ℕ → FeedText
feeds feed pin = record { feed = feed; pin = pin }

abbrev pub pin_feeds : List FeedText
pin_feeds =
    feeds (codes "R1C3/Q") (codes "R1C1/A")
    ∷ feeds (codes "R1C1/Q") (codes "R1C1/B")
    ∷ feeds (codes "R1C2/Q") (codes "R1C1/C")
    ∷ feeds (codes "R2C1/KI") (codes "R1C1/CK")
    ∷ feeds (codes "R1C3/Q") (codes "R1C2/A")
    ∷ feeds (codes "R1C1/Q") (codes "R1C2/B")
    ∷ feeds (codes "R1C2/Q") (codes "R1C2/C")
    ∷ feeds (codes "R2C2/KI") (codes "R1C2/CK")
    ∷ feeds (codes "R1C3/Q") (codes "R1C3/A")
    ∷ feeds (codes "R1C1/Q") (codes "R1C3/B")
    ∷ feeds (codes "R1C2/Q") (codes "R1C3/C")
    ∷ feeds (codes "R2C3/KI") (codes "R1C3/CK")
    ∷ feeds (codes "R1C1/Q") (codes "R0C1/PO")
    ∷ feeds (codes "R1C2/Q") (codes "R0C2/PO")
    ∷ feeds (codes "R1C3/Q") (codes "R0C3/PO")
    ∷ []
