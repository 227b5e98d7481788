use Rattle.std.proofs.Common.{inl, inr}
use Rattle.links.proofs.Feeds.{driver}
use Rattle.links.proofs.one_driver.Goals as goal

pub returns : goal.returns
returns c = λ r clean w. elim (driver r w) [ inl x ↦ inl (x.0, (x.1, λ y g. clean.one_driver w y x.0 g x.1)) | inr h ↦ inr h ]
