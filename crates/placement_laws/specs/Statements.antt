-- What is proved of sites of equal shape, of moves and of candidates.
use Rattle.std.specs.Prelude.{◌≡◌, List, ◌⊎◌, ◌↔◌}
use Rattle.words.specs.Members.{In}
use Rattle.patterns.specs.Bits.{Bits}
use Rattle.records.specs.Profile.{SliceKind, Profile}
use Rattle.records.specs.Side.{Side}
use Rattle.fabric.specs.Graph.{Graph}
use Rattle.cells.specs.Sites.{Site}
use Rattle.attempts.specs.Moves.{Move}
use Rattle.attempts.specs.Jobs.{Job, State}
use Rattle.attempts.specs.Candidates.{Step, IsCandidate}
use Rattle.placements.specs.EqualSites.{AreEqualSites, moves_to}
use Rattle.placements.specs.MoveFaults.{MoveFault, MayMove, IsMoveFault}
use Rattle.placements.specs.Tested.{IsTested}

-- The sites of equal shape are a list in candidate order, and one.
abbrev pub SomeEqualSites : Type 0
SomeEqualSites = (g : Graph) (profile : Profile) (from : Site SliceKind) → (list : List (Site SliceKind)) × AreEqualSites g profile from list

abbrev pub OneListOfSites : Type 0
OneListOfSites = (g : Graph) (profile : Profile) (from : Site SliceKind) (list others : List (Site SliceKind)) → AreEqualSites g profile from list → AreEqualSites g profile from others → list ≡ others

-- Nothing speaks against a move, or something does first, one thing; never both.
abbrev pub MoveIsDecided : Type 0
MoveIsDecided = (g : Graph) (side : Side) (image : Bits) (m : Move) (old new : Site SliceKind)
    → MayMove g side image m old new ⊎ ((f : MoveFault) × IsMoveFault g side image m old new f)

abbrev pub NeverBoth : Type 0
NeverBoth = (g : Graph) (side : Side) (image : Bits) (m : Move) (old new : Site SliceKind) (f : MoveFault) → MayMove g side image m old new → IsMoveFault g side image m old new f → ⊥

abbrev pub OneMoveFault : Type 0
OneMoveFault = (g : Graph) (side : Side) (image : Bits) (m : Move) (old new : Site SliceKind) (f h : MoveFault)
    → IsMoveFault g side image m old new f → IsMoveFault g side image m old new h → f ≡ h

-- A candidate is a step whose move nothing speaks against and whose layout passes the tests.
abbrev pub CandidateIsTested : Type 0
CandidateIsTested = (job : Job) (state : State) (step : Step) → IsCandidate job state step ↔ IsTested job state step

-- Its new site is one of those of equal shape, and its move the one there.
abbrev pub CandidateIsListed : Type 0
CandidateIsListed = (job : Job) (state : State) (step : Step) (c : IsCandidate job state step) (list : List (Site SliceKind))
    → AreEqualSites state.layout.graph job.device.profile c.old list → In (moves_to step.move.slice list) step.move
