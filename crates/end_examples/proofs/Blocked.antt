-- The attempts that are blocked at the first place.
use Rattle.std.proofs.Common.{[], ◌∷◌, inr, refl, arith}
use Rattle.repair.specs.Layouts.{turn_over}
use Rattle.repair.specs.Routes.{IsBlocked}
use Rattle.repair.specs.Turns.{Turn}
use Rattle.attempts.specs.Jobs.{read_of}
use Rattle.attempts.specs.Turns.{Blocked}
use Rattle.attempts.specs.Attempts.{Attempt, AttemptBlocked, EndPad, NoRoute, Ended, IsAnswer, ended, at_pad}
use Rattle.route_laws.proofs.Cuts.{blocked_law}
use Rattle.end_examples.specs.Joined.{device}
use Rattle.end_examples.specs.Ends.{job_of, starts_with, net, pad_design, pad_rest, pad_cut, to_pad, full_design, full_rest, full_cut, slice_design, slice_rest, to_slice}
use Rattle.end_examples.proofs.Conditions.{told_pad, pad_starts, pad_safe, told_full, told_slice}

abbrev pad_turn : Turn
pad_turn = turn_over (read_of (job_of pad_design)) pad_rest net

pad_blocked : IsBlocked pad_turn pad_cut.inside pad_cut.rim 6
pad_blocked = blocked_law device pad_turn told_pad pad_cut.inside pad_cut.rim 6 refl

pad_attempt : Attempt (job_of pad_design) (starts_with pad_rest to_pad) (Blocked [] to_pad [] pad_cut)
pad_attempt = (net, (refl, inr (pad_cut, (pad_blocked, refl))))

pub pad_ends : IsAnswer (job_of pad_design) (Ended (AttemptBlocked 4 6 ∷ []) (NoRoute EndPad 4 6 pad_cut))
pad_ends = ended (starts_with pad_rest to_pad) pad_starts pad_safe (at_pad to_pad [] pad_cut pad_attempt (omega arith) refl)

abbrev full_turn : Turn
full_turn = turn_over (read_of (job_of full_design)) full_rest net

full_blocked : IsBlocked full_turn full_cut.inside full_cut.rim 0
full_blocked = blocked_law device full_turn told_full full_cut.inside full_cut.rim 0 refl

pub full_attempt : Attempt (job_of full_design) (starts_with full_rest to_slice) (Blocked [] to_slice [] full_cut)
full_attempt = (net, (refl, inr (full_cut, (full_blocked, refl))))

abbrev slice_turn : Turn
slice_turn = turn_over (read_of (job_of slice_design)) slice_rest net

-- the pin of the empty site is inside too
slice_blocked : IsBlocked slice_turn pad_cut.inside pad_cut.rim 0
slice_blocked = blocked_law device slice_turn told_slice pad_cut.inside pad_cut.rim 0 refl

pub slice_attempt : Attempt (job_of slice_design) (starts_with slice_rest to_slice) (Blocked [] to_slice [] pad_cut)
slice_attempt = (net, (refl, inr (pad_cut, (slice_blocked, refl))))
