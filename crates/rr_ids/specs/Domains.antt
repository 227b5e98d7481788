-- The copy that a value of the program's enum names.
use Rattle.records.specs.Side as side
use Rattle.rr_ids.specs.declared.domain.Domain.{Domain}
use Rattle.rr_ids.specs.declared.domain.Domain.TheVariants.{D0, D1, D2}

abbrev pub domain_of : Domain → side.Domain
domain_of D0 = side.D0
domain_of D1 = side.D1
domain_of D2 = side.D2
