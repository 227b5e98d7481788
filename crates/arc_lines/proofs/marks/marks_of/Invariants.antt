use Rattle.std.proofs.Common.{◌≡◌, ◌↔◌, ℕ, ◌<◌, false, true, get_or, take, vec_len}
use Rattle.words.specs.Members.{In}
use Rattle.arc_lines.proofs.marks.marks_of.Given as goal

-- the arcs so far are marked
abbrev pub invariant-loop-a : goal.invariant-loop-a
invariant-loop-a l = record {
  long : vec_len l.marks ≡ l.count;
  marks : (k : ℕ) → k < l.count → (get_or l.marks.items k false ≡ true) ↔ In (take l.a-index l.arcs) k;
}
