-- Domains are compared as the definition does.
use Rattle.std.proofs.Common.{◌≡◌, refl}
use denote.Enum.Bare.{sameb}
use Rattle.rr_ids.specs.contracts.domain.Domain.{the_type}
use Rattle.rr_ids.specs.declared.domain.Domain.{Domain}
use Rattle.rr_ids.specs.declared.domain.Domain.TheVariants.{D0, D1, D2}
use Rattle.rr_ids.specs.Domains.{domain_of}
use Rattle.side_form.specs.Side.{same_domain}

pub same_domains : (a b : Domain) → sameb the_type a b ≡ same_domain (domain_of a) (domain_of b)
same_domains D0 D0 = refl
same_domains D0 D1 = refl
same_domains D0 D2 = refl
same_domains D1 D0 = refl
same_domains D1 D1 = refl
same_domains D1 D2 = refl
same_domains D2 D0 = refl
same_domains D2 D1 = refl
same_domains D2 D2 = refl
