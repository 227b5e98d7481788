use Rattle.std.proofs.Common.{inl, inr}
use Rattle.repair_laws.proofs.Numbers.{numbered}
use Rattle.repair_laws.proofs.Added.{links_law}
use Rattle.repair_laws.proofs.Fed.{feeds_old, feeds_new, feeds_added, clean_new, agree_new}
use Rattle.repair_laws.proofs.arc_adds_a_link.Goals as goal

pub returns : goal.returns
returns c = λ device k config a graph use_a.
    let num = numbered device k.graph graph in
    record {
      links = links_law k config a num use_a;
      feeds = λ c w. (feeds_new k config a num use_a c w, λ h. elim h [ inl f ↦ feeds_old k config a num use_a c w f | inr f ↦ feeds_added k config a num use_a c w f.0 f.1 ]);
      clean = clean_new k config a num use_a;
      agree = agree_new k config a num use_a;
    }
