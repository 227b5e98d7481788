use Rattle.std.proofs.Common.{◌≡◌, drop, take}
use Rattle.live_links.specs.Live.{AreAddable, with_path}
use Rattle.live_links.proofs.stack.LinkStack.add_path.Given as goal

abbrev pub invariant-loop-count : goal.invariant-loop-count
invariant-loop-count l = record {
  added : l.self ≡ with_path l.initial.self (take l.count l.path);
  rest : AreAddable l.self (drop l.count l.path);
}
