use Rattle.std.proofs.Common.{ℕ, ◌<◌, get_or}
use Rattle.words.specs.Members.{In}
use Rattle.net_search.specs.Marks.{AreOutside, Lists}
use Rattle.net_search.proofs.cut.rim_of.Given as goal

abbrev pub invariant-loop-w : goal.invariant-loop-w
invariant-loop-w l = record {
  outside : AreOutside l.marks l.rim.items;
  from : (x : ℕ) → In l.rim.items x → In l.edge x;
  lists : (k : ℕ) → k < l.w-index → Lists l.marks l.rim.items (get_or l.edge k 0);
}
