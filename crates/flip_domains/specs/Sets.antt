-- Sets of domains. (Our own.)
use Rattle.std.specs.Prelude.{◌≡◌, ◌≢◌, ◌↔◌, ◌⊎◌, Bool, true}
use Rattle.records.specs.Side.{Domain, D0, D1, D2}
use Rattle.flip_domains.specs.declared.set.Domains.{Domains}

-- a domain is in a set
abbrev pub has_domain : Domains → Domain → Bool
has_domain s D0 = s.d0
has_domain s D1 = s.d1
has_domain s D2 = s.d2

-- the second set has the domains of the first, and those with a property
abbrev pub Gains : Domains → Domains → (Domain → Type 0) → Type 0
Gains old new P = (d : Domain) → (has_domain new d ≡ true) ↔ ((has_domain old d ≡ true) ⊎ P d)

-- two domains are in the set
abbrev pub HasTwo : Domains → Type 0
HasTwo s = (d : Domain) × ((e : Domain) × ((has_domain s d ≡ true) × (has_domain s e ≡ true) × (d ≢ e)))
